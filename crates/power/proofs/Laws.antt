-- What the crates above may take from the powers: the bands of document 01; inside exactly where the arguments are, and then a number above zero that binary64 holds. Assumes nothing.
use Rattle.std.specs.Prelude.{Result, Ok, Err}
use mathlib.Core.Path.{◌≡◌, refl}
use mathlib.Core.Bool.{Bool, true, false, not, cond}
use Prim.Native.Nat.{ℕ, ◌+◌, ◌-◌, ◌*◌, ◌/◌, ◌%◌, ◌^◌}
use lib.Dec.{T}
use lib.Ieee.{Float, binary64, fits, eq, of_bits, to_bits}
use lib.Ieee.Bits.{of_bits-fits}
use lib.Ieee.Fits.{cond-fits, div-fits}
use lib.Ieee.Positive.{positive}
use Rattle.number.specs.F64.{1f, ◌⊘◌}
use Rattle.elementary.specs.Band.{Says}
use Rattle.elementary.specs.Exact.{power_inside, InversePower, InverseRoot}
use Rattle.elementary.proofs.Answers.{outside_says_so}
use Rattle.power.specs.Power.{products, digits, root_of_pattern, inverse_power_of, inverse_root_of}
use Rattle.power.proofs.Answers.{PowerHolds, RootHolds, power_says, root_says, power_meets, root_meets}
use Rattle.elementary.specs.declared.answer.Outside.{Outside}

-- the answers are the document's, for every f64 and every s
pub power_answer : (a : Float) (s : ℕ) → InversePower a s (inverse_power_of a s)
power_answer a s = (power_meets a s refl).1

pub root_answer : (a : Float) (s : ℕ) → T (fits binary64 a) → InverseRoot a s (inverse_root_of a s)
root_answer a s f = (root_meets a s f refl).1

-- a number above zero, and so finite, that binary64 holds
pub record Positive (r : Result Float Outside) : Type 0 where
  pub number : Float
  pub is : r ≡ Ok number
  pub above : T (positive number)
  pub held : T (fits binary64 number)

from_says : (Holds : Float → Type 0) (i : Bool) (y : Float) → ((z : Float) → Holds z → T (positive z)) → T (fits binary64 y) → Says i Holds (cond i (Ok y) (Err (record {}))) → T i → Positive (cond i (Ok y) (Err (record {})))
from_says Holds false y p f h i = absurd i
from_says Holds true y p f h i = record { number = y; is = refl; above = p y h.2; held = f }

chosen : (a r : Float) → T (fits binary64 r) → T (fits binary64 (cond (eq a 1f) 1f r))
chosen a r f = cond-fits binary64 (eq a 1f) 1f r (of_bits-fits binary64 0x3ff0_0000_0000_0000) f

-- ---- a ^ -s
pub power_inside_lem : (a : Float) (s : ℕ) → T (power_inside a s) → Positive (inverse_power_of a s)
unfolding inverse_power_of
power_inside_lem a s = let r = 1f ⊘ products a a (s - 1) in from_says (PowerHolds a s) (power_inside a s) (cond (eq a 1f) 1f r) (λ z h. h.1) (chosen a r (div-fits binary64 1f (products a a (s - 1)))) (power_says a s)

pub power_outside : (a : Float) (s : ℕ) → T (not (power_inside a s)) → inverse_power_of a s ≡ Err (record {})
power_outside a s n = outside_says_so (power_inside a s) (PowerHolds a s) (inverse_power_of a s) (power_says a s) n

-- ---- a ^ (-1 / s)
pattern_fits : (b s : ℕ) → T (fits binary64 (root_of_pattern b s))
unfolding root_of_pattern
pattern_fits b s =
    let t = b / 2 ^ 52 - 183 in
    let v = of_bits binary64 (b % 2 ^ 52 + (t % s + 1023) * 2 ^ 52) in
    of_bits-fits binary64 (digits v s 52 0 + 1 + (1022 + 840 / s - t / s) * 2 ^ 52)

pub root_inside : (a : Float) (s : ℕ) → T (fits binary64 a) → T (power_inside a s) → Positive (inverse_root_of a s)
unfolding inverse_root_of
root_inside a s f = let r = root_of_pattern (to_bits binary64 a) s in from_says (RootHolds a s) (power_inside a s) (cond (eq a 1f) 1f r) (λ z h. h.1) (chosen a r (pattern_fits (to_bits binary64 a) s)) (root_says a s f)

pub root_outside : (a : Float) (s : ℕ) → T (fits binary64 a) → T (not (power_inside a s)) → inverse_root_of a s ≡ Err (record {})
root_outside a s f n = outside_says_so (power_inside a s) (RootHolds a s) (inverse_root_of a s) (root_says a s f) n
