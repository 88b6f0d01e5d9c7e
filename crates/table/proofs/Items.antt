-- Document 01's numbers to meet, items 1 to 11, each in the document's numbers. Item 12 is run. Assumes nothing.
use mathlib.Core.Path.{◌∙◌, ◌≡◌, refl}
use mathlib.Core.Bool.{true, false}
use mathlib.Core.List.{List, [], ◌∷◌}
use mathlib.Core.Logic.{◌⊎◌, inl, inr}
use Prim.Native.Nat.{ℕ}
use native.Mathlib.Omega.{arith}
use lib.IntN.{pos, negsuc}
use lib.ListN.{length, take}
use lib.Ieee.{Float, fin, binary64, of_bits, of_int, add, sub, mul, div, neg, lt, eq, ne}
use Rattle.number.specs.F64.{◌⊗◌, ◌⊘◌, 0f, ½f, 1f, 2f}
use Rattle.fir.specs.Fir.{fir_of}
use Rattle.cepstrum.specs.Cepstrum.{unwarped, mc2b_of, b2mc_of, onward, pass, passes, freqt_of}
use Rattle.noise.specs.Draw.{draw_of, r_of, tries}
use Rattle.noise.specs.Noise.{fresh_random}
use Rattle.noise.specs.Examples.{first_draws}
use Rattle.stability.specs.Stability.{PI, ¼f, least_gap, gaps, low_end, high_end, pass_of, passes_of, stable_of}
use Rattle.std.specs.Prelude.{Some}
use Rattle.pulse.specs.Train.{fresh_pulse, start_of}
use Rattle.excitation.specs.Excitation.{state, stretch_of}
use Rattle.excitation.specs.Examples.{eight}
use Rattle.configuration.specs.declared.Configuration.{Configuration}
use Rattle.configuration.specs.Limits.{limits_kept, sized, usual}
use Rattle.voice.specs.declared.Answered.{Answered}
use Rattle.voice.specs.Voice.{fresh_voice}
use Rattle.voice.specs.Open.{Opens}
use Rattle.refusing.specs.Refusal.{frame}
use Rattle.giving.specs.Give.{Gives}
use Rattle.drawing.specs.declared.Drawn.{Drawn}
use Rattle.drawing.specs.Draw.{Draws}
use Rattle.whole.proofs.Demand2 as calls

-- ---- numbers as floats

abbrev 3f : Float
3f = of_int binary64 (pos 3)

abbrev 4f : Float
4f = of_int binary64 (pos 4)

abbrev 5f : Float
5f = of_int binary64 (pos 5)

abbrev 10f : Float
10f = of_int binary64 (pos 10)

abbrev 100f : Float
100f = of_int binary64 (pos 100)

abbrev 210f : Float
210f = of_int binary64 (pos 210)

abbrev 2½f : Float
2½f = 5f ⊘ 2f

abbrev 3½f : Float
3½f = of_int binary64 (pos 7) ⊘ 2f

abbrev ¾f : Float
¾f = 3f ⊘ 4f

-- ---- the table

-- 1: "`fir`, alpha 0, d [0,1,2,3], x 5, coefficients [0,0,10,100]: 210; d [0,5,1,2]"
pub item_1 : fir_of 0f 5f (0f ∷ 0f ∷ 10f ∷ 100f ∷ []) (0f ∷ 1f ∷ 2f ∷ 3f ∷ []) ≡ record { d = 0f ∷ 5f ∷ 1f ∷ 2f ∷ []; y = 210f }
unfolding fir_of of_bits of_int add sub mul neg
item_1 = refl

-- 2: "`fir`, alpha 0.5, d [0,4], x 2: 0; d [1,3.5]"; no coefficient is read
unread : (c0 c1 : Float) → fir_of ½f 2f (c0 ∷ c1 ∷ []) (0f ∷ 4f ∷ []) ≡ fir_of ½f 2f [] (0f ∷ 4f ∷ [])
unfolding fir_of
unread c0 c1 = refl

-- the numbers by their digits: the sum over these takes few steps
half_is : ½f ≡ fin false 1 (negsuc 0)
unfolding of_bits
half_is = refl

two_is : 2f ≡ fin false 1 (pos 1)
unfolding of_bits
two_is = refl

four_is : 4f ≡ fin false 1 (pos 2)
unfolding of_int
four_is = refl

zero_is : 0f ≡ fin false 0 (pos 0)
unfolding of_bits
zero_is = refl

one_is : 1f ≡ fin false 1 (pos 0)
unfolding of_bits
one_is = refl

seven_halves : 3½f ≡ fin false 7 (negsuc 0)
unfolding of_bits of_int div
seven_halves = refl

none_read : fir_of (fin false 1 (negsuc 0)) (fin false 1 (pos 1)) [] (fin false 0 (pos 0) ∷ fin false 1 (pos 2) ∷ [])
    ≡ record { d = fin false 1 (pos 0) ∷ fin false 7 (negsuc 0) ∷ []; y = fin false 0 (pos 0) }
unfolding fir_of of_bits add sub mul neg
none_read = refl

in_these : (h t f z o s : Float) → h ≡ fin false 1 (negsuc 0) → t ≡ fin false 1 (pos 1) → f ≡ fin false 1 (pos 2) → z ≡ fin false 0 (pos 0)
    → o ≡ fin false 1 (pos 0) → s ≡ fin false 7 (negsuc 0) → fir_of h t [] (z ∷ f ∷ []) ≡ record { d = o ∷ s ∷ []; y = z }
in_these h t f z o s a b c d e g = rw (a, b, c, d, e, g) none_read

pub item_2 : (c0 c1 : Float) → fir_of ½f 2f (c0 ∷ c1 ∷ []) (0f ∷ 4f ∷ []) ≡ record { d = 1f ∷ 3½f ∷ []; y = 0f }
item_2 c0 c1 = unread c0 c1 ∙ in_these ½f 2f 4f 0f 1f 3½f half_is two_is four_is zero_is one_is seven_halves

-- 3: "`mc2b` of [1,2,4], alpha 0.5: [1,0,4]"
pub item_3 : mc2b_of ½f (1f ∷ 2f ∷ 4f ∷ []) ≡ 1f ∷ 0f ∷ 4f ∷ []
unfolding mc2b_of unwarped of_bits of_int add sub mul neg ne eq
item_3 = refl

-- 4: "`b2mc` back: [1,2,4]"
pub item_4 : b2mc_of ½f (1f ∷ 0f ∷ 4f ∷ []) ≡ 1f ∷ 2f ∷ 4f ∷ []
unfolding b2mc_of of_bits of_int add mul
item_4 = refl

-- 5: "`freqt` of [1,2], m2 1, alpha 0.5: [2.5,0.75]"; m2 1 is two entries, the first two of the 576 that the code works on
pub item_5 : freqt_of ½f 2 (1f ∷ 2f ∷ []) ≡ 2½f ∷ ¾f ∷ []
unfolding freqt_of passes pass onward of_bits of_int add sub mul div neg
item_5 = refl

pub item_5_of_576 : take 2 (freqt_of ½f 576 (1f ∷ 2f ∷ [])) ≡ 2½f ∷ ¾f ∷ []
unfolding freqt_of passes pass onward of_bits of_int add sub mul div neg
item_5_of_576 = refl

-- 6: "first draws r: 16838, 5758, 10113, 17515"
pub item_6 : r_of (draw_of 1) ∷ r_of (draw_of (draw_of 1)) ∷ r_of (draw_of (draw_of (draw_of 1))) ∷ r_of (draw_of (draw_of (draw_of (draw_of 1)))) ∷ []
    ≡ 16838 ∷ 5758 ∷ 10113 ∷ 17515 ∷ []
item_6 = first_draws

-- 7: "stability of [5,0]: second entry 0.25*PI/2; the first stays"
pub item_7 : stable_of (5f ∷ 0f ∷ []) ≡ 5f ∷ ¼f ⊗ PI ⊘ 2f ∷ []
unfolding stable_of passes_of pass_of gaps low_end high_end least_gap of_bits of_int mul div sub add neg lt
item_7 = refl

-- 8: "pitch 4 from rest, nlpf 0: 2,0,0,2,0,0,0,2"
pub item_8 : (stretch_of tries [] 8 (state (start_of fresh_pulse (Some 4f) 8) fresh_random [])).made ≡ 2f ∷ 0f ∷ 0f ∷ 2f ∷ 0f ∷ 0f ∷ 0f ∷ 2f ∷ []
unfolding of_bits of_int
item_8 = eight

-- 9: "open with nmcp 1: 1; with 2: 0": 1 whatever else is asked for, 0 where the rest is usual and nlpf is 0
pub item_9_one : (c : Configuration) (r : Answered) → c.nmcp ≡ 1 → Opens c r → r.number ≡ 1
item_9_one = calls.item_9_one

pub item_9_two : (r : Answered) → Opens (sized 2 0) r → r.number ≡ 0
item_9_two = calls.item_9_two

-- 10: "spectrum of 24 or 26 at nmcp 25: 4"
pub item_10 : (lf0 : Float) (spectrum lpf : List Float) (r : Answered) → (length spectrum ≡ 24) ⊎ (length spectrum ≡ 26)
    → Gives (frame lf0 spectrum lpf) (fresh_voice usual) r → r.number ≡ 4
item_10 lf0 spectrum lpf r (inl e) = calls.item_10 lf0 spectrum lpf r (λ (h : length spectrum ≡ 25). absurd (omega (arith, e, h)))
item_10 lf0 spectrum lpf r (inr e) = calls.item_10 lf0 spectrum lpf r (λ (h : length spectrum ≡ 25). absurd (omega (arith, e, h)))

pub nmcp_25 : usual.nmcp ≡ 25
nmcp_25 = refl

-- 11: "draw on a fresh voice: 10", whatever its configuration and the buffer
pub item_11 : (c : Configuration) (out : List Float) (start : ℕ) (r : Drawn) (after : List Float) → limits_kept c ≡ true → Draws (fresh_voice c) out start r after → r.number ≡ 10
item_11 = calls.item_11
