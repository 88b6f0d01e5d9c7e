-- k times the logarithm of 2, in floats: exactly 0 for k = 0, and otherwise within two factors of k * L, with its sign. Assumes nothing.
use mathlib.Core.Path.{◌≡◌, refl, ap, ◌∙◌, subst}
use mathlib.Core.Bool.{Bool, true, false}
use Prim.Native.Nat.{ℕ, ◌*◌, ◌^◌, ◌≤◌}
use native.Mathlib.Nat.{le_trans, one-mul, mul-le-mul_right}
use native.Mathlib.Omega.{arith}
use lib.Dec.{ltb, lit<, lit≤}
use lib.Ieee.{Float, binary64, round, of_int, of_bits, neg, sub, mul}
use lib.Ieee.Back.{round_whole}
use Rattle.number.specs.F64.{◌⊗◌, 0f}
use Rattle.elementary.specs.Exact.{L40, ten40}
use Rattle.elementary.proofs.Rounding.{Close, Middle, close_of_value, mul_middle}
use Rattle.elementary.proofs.Signs.{mul_neg_left}
use Rattle.logarithm.specs.Ln.{Lf, turns}
use Rattle.logarithm.proofs.Difference.{gap, difference}
use Rattle.elementary.proofs.FloatChain.{turned}

-- the constant is the float nearest to L
log_close : Close 1 Lf L40 ten40
unfolding of_bits L40 ten40
log_close = record { above = tt; under = lit< tt; ratio = record { hi = lit≤ tt; lo = lit≤ tt } }

-- its size
abbrev pub sized : ℕ → Float
sized F = round binary64 false (gap F 1023) 1 ⊗ Lf

pub turns_are : (F : ℕ) → F ≤ 2047 → turns F ≡ turned (ltb F 1023) (sized F)
unfolding turns of_int of_bits
turns_are F h = ap (λ (z : Float). z ⊗ Lf) (difference (round binary64 false F 1) F 1 1023 (lit< tt) (round_whole binary64 false F (omega arith))) ∙ go (ltb F 1023)
  where
    go : (s : Bool) → turned s (round binary64 false (gap F 1023) 1) ⊗ Lf ≡ turned s (sized F)
    go false = refl
    go true = mul_neg_left (round binary64 false (gap F 1023) 1) Lf

pub turns_none : turns 1023 ≡ 0f
unfolding turns of_int of_bits sub mul neg
turns_none = refl

-- far from the ends of the range
middle : (K : ℕ) → 1 ≤ K → K ≤ 2047 → Middle (K * L40) (1 * ten40)
unfolding L40 ten40
middle K p h = record {
  least = le_trans {m = 1 * L40 * 2 ^ 900} (lit≤ tt) (mul-le-mul_right (2 ^ 900) (mul-le-mul_right L40 p));
  most = le_trans (mul-le-mul_right L40 h) (lit≤ tt);
}

pub turns_close : (F : ℕ) → F ≤ 2047 → 1 ≤ gap F 1023 → Close 2 (sized F) (gap F 1023 * L40) ten40
turns_close F h p =
    let K = gap F 1023 in
    subst (λ (c : ℕ). Close 2 (sized F) (K * L40) c) (one-mul ten40)
    (mul_middle (close_of_value (round binary64 false K 1) K 1 p (round_whole binary64 false K (omega arith))) log_close (lit≤ tt) (middle K p (omega arith)))
