-- The delay line of nlpf taps, tap 0 first. Assumes nothing.
use Rattle.std.specs.Prelude.{List, [], ◌∷◌, ◌++◌, ℕ, ◌-◌, ◌/◌, length, set, drop, Float}
use Rattle.number.specs.F64.{◌⊕◌, ◌⊗◌, ◌‼◌, 0f}

-- the noise added to tap (nlpf - 1) div 2
abbrev pub middle : List Float → ℕ
middle line = (length line - 1) / 2

unfoldable pub with_noise : Float → List Float → List Float
with_noise noise line = set line (middle line) (line ‼ middle line ⊕ noise)

-- c * lpf[k] added to each tap k, as far as there are both
unfoldable pub with_pulse : Float → List Float → List Float → List Float
with_pulse c [] line = line
with_pulse c (h ∷ lpf) [] = []
with_pulse c (h ∷ lpf) (tap ∷ line) = tap ⊕ c ⊗ h ∷ with_pulse c lpf line

-- as tap 0 goes out, a zero comes in at the far end
unfoldable pub shifted : List Float → List Float
shifted line = drop 1 line ++ (0f ∷ [])
