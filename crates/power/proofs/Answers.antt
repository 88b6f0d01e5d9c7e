-- The answers case by case: outside, the base 1, and the rest. Assumes nothing.
use Rattle.std.specs.Prelude.{Result, Ok, Err}
use mathlib.Core.Path.{◌≡◌, refl, sym, subst}
use mathlib.Core.Bool.{Bool, true, false, ◌||◌, cond}
use Prim.Native.Nat.{ℕ, ◌-◌, ◌*◌, ◌^◌}
use native.Mathlib.Omega.{arith}
use lib.Dec.{T, eqb, eqb→eq}
use lib.Ieee.{Float, nan, inf, fin, binary64, fits, up, down, eq, of_bits, to_bits}
use lib.Ieee.Fits.{and_l}
use lib.Ieee.Positive.{num, den, positive}
use Rattle.number.specs.F64.{1f, ◌⊘◌}
use Rattle.number.specs.Range.{finite}
use Rattle.elementary.specs.Fraction.{whole, power, ◌×ᶠ◌}
use Rattle.elementary.specs.Band.{value_of, Within, Says}
use Rattle.elementary.specs.Exact.{power_inside, InversePower, InverseRoot}
use Rattle.elementary.proofs.Ratio.{Ratio, ratio_more}
use Rattle.power.specs.Power.{products, root_of_pattern, answer, inverse_power_of, inverse_root_of}
use Rattle.power.proofs.Near.{power_within, root_within}
use Rattle.power.proofs.Base.{base}
use Rattle.power.proofs.Patterns.{bits}
use Rattle.power.proofs.PowerNear
use Rattle.power.proofs.RootNear
use Rattle.elementary.specs.declared.answer.Outside.{Outside}

-- ---- which case it is
pub at_outside : (a : Float) (s : ℕ) (r : Float) → power_inside a s ≡ false → Err (record {}) ≡ answer a s r
at_outside a s r i = rw i refl

pub at_one : (a : Float) (s : ℕ) (r : Float) → power_inside a s ≡ true → eq a 1f ≡ true → Ok 1f ≡ answer a s r
at_one a s r i e = rw (i, e) refl

pub elsewhere : (a : Float) (s : ℕ) (r : Float) → power_inside a s ≡ true → eq a 1f ≡ false → Ok r ≡ answer a s r
elsewhere a s r i e = rw (i, e) refl

-- ---- what is said of the answer
positive_finite : (x : Float) → T (positive x) → T (finite x)
positive_finite nan p = absurd p
positive_finite (inf s) p = absurd p
positive_finite (fin s m e) p = tt

-- 1 where the base is 1, else r
says : (Near : Float → Type 0) (i e : Bool) (r : Float) → (T i → T e → Near 1f) → (T i → T (positive r) × Near r) → Says i (λ (y : Float). (T e → y ≡ 1f) × T (positive y) × Near y) (cond i (Ok (cond e 1f r)) (Err (record {})))
unfolding of_bits
says Near false e r p q = tt
says Near true true r p q = (tt, tt, (λ w. refl, tt, p tt tt))
says Near true false r p q = (tt, positive_finite r (q tt).0, (λ w. absurd w, (q tt).0, (q tt).1))

-- the base 1, however it is written
one_is : (a : Float) → T (positive a) → T (eq a 1f) → num a ≡ den a
unfolding eq of_bits
one_is nan p e = absurd p
one_is (inf s) p e = absurd p
one_is (fin true m k) p e = absurd p
one_is (fin false m k) p e = go (m * up k) (down k) (eqb→eq (m * up k * 1) (1 * down k) (and_l (eqb (m * up k * 1) (1 * down k)) (true || eqb (m * up k * 1) 0) e))
  where
    go : (n d : ℕ) → n * 1 ≡ 1 * d → n ≡ d
    go n d h = omega arith

1_above : T (positive 1f)
unfolding of_bits
1_above = tt

1_whole : num 1f ≡ den 1f
unfolding of_bits
1_whole = refl

level : (j p q : ℕ) → p ≡ q → Ratio j p q 1 1
level j p q e = ratio_more {i = 0} (omega arith) (record { hi = omega arith; lo = omega arith })

-- what the definition says of a number
abbrev pub PowerHolds : Float → ℕ → Float → Type 0
PowerHolds a s r = (T (eq a 1f) → r ≡ 1f) × T (positive r) × Within 44 (value_of r ×ᶠ power (value_of a) s) (whole false 1)

abbrev pub RootHolds : Float → ℕ → Float → Type 0
RootHolds a s r = (T (eq a 1f) → r ≡ 1f) × T (positive r) × Within 40 (power (value_of r) s ×ᶠ value_of a) (whole false 1)

pub power_says : (a : Float) (s : ℕ) → Says (power_inside a s) (PowerHolds a s) (inverse_power_of a s)
unfolding inverse_power_of
power_says a s = says (λ (r : Float). Within 44 (value_of r ×ᶠ power (value_of a) s) (whole false 1)) (power_inside a s) (eq a 1f) (1f ⊘ products a a (s - 1)) first rest
  where
    first : T (power_inside a s) → T (eq a 1f) → Within 44 (value_of 1f ×ᶠ power (value_of a) s) (whole false 1)
    first i e = let b = base a s i in power_within 1f a s 1_above b.above (level 8 (num 1f * num a ^ s) (den 1f * den a ^ s) (cc (1_whole, one_is a b.above e)))

    rest : T (power_inside a s) → T (positive (1f ⊘ products a a (s - 1))) × Within 44 (value_of (1f ⊘ products a a (s - 1)) ×ᶠ power (value_of a) s) (whole false 1)
    rest i = let b = base a s i in PowerNear.near_one a s (s - 1) b (omega (arith, b.from))

pub root_says : (a : Float) (s : ℕ) → T (fits binary64 a) → Says (power_inside a s) (RootHolds a s) (inverse_root_of a s)
unfolding inverse_root_of
root_says a s f = says (λ (r : Float). Within 40 (power (value_of r) s ×ᶠ value_of a) (whole false 1)) (power_inside a s) (eq a 1f) (root_of_pattern (to_bits binary64 a) s) first rest
  where
    first : T (power_inside a s) → T (eq a 1f) → Within 40 (power (value_of 1f) s ×ᶠ value_of a) (whole false 1)
    first i e = let b = base a s i in root_within 1f a s 1_above b.above (level 24 (num 1f ^ s * num a) (den 1f ^ s * den a) (cc (1_whole, one_is a b.above e)))

    rest : T (power_inside a s) → T (positive (root_of_pattern (to_bits binary64 a) s)) × Within 40 (power (value_of (root_of_pattern (to_bits binary64 a) s)) s ×ᶠ value_of a) (whole false 1)
    rest i = let b = base a s i in RootNear.near_one a s (to_bits binary64 a) b (bits a s f b)

-- both clauses of the contracts from the first
pub power_meets : (a : Float) (s : ℕ) {r : Result Float Outside} → r ≡ inverse_power_of a s → (r ≡ inverse_power_of a s) × InversePower a s r
unfolding InversePower
power_meets a s e = (e, subst (InversePower a s) (sym e) (power_says a s))

pub root_meets : (a : Float) (s : ℕ) {r : Result Float Outside} → T (fits binary64 a) → r ≡ inverse_root_of a s → (r ≡ inverse_root_of a s) × InverseRoot a s r
unfolding InverseRoot
root_meets a s f e = (e, subst (InverseRoot a s) (sym e) (root_says a s f))
