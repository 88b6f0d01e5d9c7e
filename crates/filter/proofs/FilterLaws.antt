-- A sample by what its steps come to, a stretch with its rows laid side by side, its gains before the rest, and the room for the rows of taps. Assumes nothing.
use mathlib.Core.Path.{◌≡◌, refl, sym, ap, ◌∙◌}
use mathlib.Core.List.{List, [], ◌∷◌}
use Prim.Native.Nat.{ℕ, ◌*◌, ◌≤◌, ◌<◌}
use native.Mathlib.Nat.{mul-le-mul_right}
use native.Mathlib.Omega.{arith}
use lib.ListN.{length}
use lib.Ieee.{Float, add}
use Rattle.number.specs.F64.{◌⊕◌, ◌⊗◌, ◌‼◌}
use Rattle.history.specs.Through.{Turned, passage, through}
use Rattle.history.proofs.ThroughLaws.{through_both}
use Rattle.vectors.specs.Vectors.{plus}
use Rattle.mlsa.specs.declared.MelLogSpectrumApproximation.{MelLogSpectrumApproximation}
use Rattle.mlsa.specs.Mlsa.{filter}
use Rattle.mlsa.specs.Laid.{flat}
use Rattle.filter.specs.Sample.{State, state, sample_by}
use Rattle.filter.specs.Zero.{gained, gain_of, sample_of, filtered_of}

pub sample_of_lem : {Filter : Type 0} (gain : List Float → Float → Float) (df : List Float → Filter → Float → Turned Filter Float)
    (volume x loud y : Float) (increments c after : List Float) (f g : Filter)
    → loud ≡ gain c x → ◌≡◌ {A = Turned Filter Float} (record { sample = y; state = g }) (df c f loud) → after ≡ plus c increments
    → ◌≡◌ {A = Turned (State Filter) Float} (record { sample = y ⊗ volume; state = state after g }) (sample_by gain df volume increments (state c f) x)
unfolding sample_by
sample_of_lem gain df volume x loud y increments c after f g l e a = rw (a, ← l, ← e) refl

-- a stretch at stage 0 whose first rows of taps were laid side by side before it, as `first` and `second`, and are laid back after it
pub laid_back : (alpha volume : Float) (increments c samples d11 d12 d21 d22 first second : List Float) (c' made e11 e12 e21 e22 first' second' last : List Float) (n : ℕ)
    → flat n first second d21 ≡ d21
    → passage made (state c' (filter e11 e12 (flat n first' second' e21) e22)) ≡ through (filtered_of alpha volume increments) (state c (filter d11 d12 (flat n first second d21) d22)) samples
    → last ≡ flat n first' second' e21
    → passage made (state c' (filter e11 e12 last e22)) ≡ through (filtered_of alpha volume increments) (state c (filter d11 d12 d21 d22)) samples
laid_back alpha volume increments c samples d11 d12 d21 d22 first second c' made e11 e12 e21 e22 first' second' last n laid through-laid back =
    rw back (through-laid ∙ ap (λ (l : List Float). through (filtered_of alpha volume increments) (state c (filter d11 d12 l d22)) samples) laid)

-- c[0] goes on by its increment
first_on : (c : List Float) (y : Float) (ys : List Float) → plus c (y ∷ ys) ‼ 0 ≡ c ‼ 0 ⊕ y
unfolding plus add
first_on [] y ys = refl
first_on (x ∷ xs) y ys = refl

-- the gains of all samples of a stretch may be made before the rest
pub gains_first : (alpha volume : Float) (increments : List Float) (s : State MelLogSpectrumApproximation) (samples : List Float) → 0 < length increments
    → through (filtered_of alpha volume increments) s (through (gain_of (increments ‼ 0)) (s.c ‼ 0) samples).made ≡ through (sample_of alpha volume increments) s samples
unfolding sample_by gained
gains_first alpha volume [] s samples h = absurd (omega arith)
gains_first alpha volume (y ∷ ys) s samples h =
    sym (through_both (gain_of y) (filtered_of alpha volume (y ∷ ys)) (sample_of alpha volume (y ∷ ys)) (λ (t : State MelLogSpectrumApproximation). t.c ‼ 0) (λ t x. refl) (λ t x. first_on t.c y ys) s samples)

-- eight rows of 64 are 512
pub rows_within : (stages n : ℕ) → stages ≤ 8 → n ≤ 64 → stages * n ≤ 512
rows_within stages n few short =
    let all : stages * n ≤ 8 * n = mul-le-mul_right n few in
    omega arith
