-- The exact logarithm of document 01 as a sum of two signed numbers: k times that of 2, and that of m by the series at t = ± τ / Δ. Assumes nothing.
use mathlib.Core.Path.{◌≡◌, refl, sym, ap, ◌∙◌, subst}
use mathlib.Core.Bool.{Bool, true, false, not, true≢false}
use Prim.Native.Nat.{ℕ, ◌+◌, ◌*◌, ◌≤◌}
use native.Mathlib.Nat.{mul-le-mul, mul-le-mul_left}
use native.Mathlib.Omega.{arith}
use lib.Dec.{lit≤, lit<}
use lib.Ieee.{Float}
use Rattle.elementary.specs.Fraction.{Whole, Fraction, signed, whole, scaled, size, negative, ◌+ʷ◌, ◌×ʷ◌, ◌+ᶠ◌, ◌×ᶠ◌}
use Rattle.elementary.specs.Series.{series, sum_under, odd_number}
use Rattle.elementary.specs.Exact.{L, L40, ten40, ln_exponent, ln_ratio, ln_value}
use Rattle.elementary.proofs.Chain.{under, over, Shrinks, shrinks_more}
use Rattle.elementary.proofs.Sizes.{Same, own, square, same_trans, same_scaled, same_plus, same_times, above_times, times_above}
use Rattle.elementary.proofs.Sum.{under_is, sum_same, at_signed}

-- the sum of (τ / Δ) ^ (2 * j) / (2 * j + 1), j = 0 to n: top / bottom
abbrev pub top : (τ Δ n : ℕ) → ℕ
top τ Δ n = over odd_number false (τ * τ) (Δ * Δ) 0 n

abbrev pub bottom : (Δ n : ℕ) → ℕ
bottom Δ n = under odd_number (Δ * Δ) 0 n

-- terms shrink by 25, since t is at most 1/5
pub shrinks : (τ Δ : ℕ) → 5 * τ ≤ Δ → Shrinks 1 25 odd_number (τ * τ) (Δ * Δ) 0
unfolding odd_number
shrinks τ Δ h j l =
    let a : 5 * τ * (5 * τ) ≤ Δ * Δ = mul-le-mul h h in
    let b : (2 * j + 1) * (5 * τ * (5 * τ)) ≤ (2 * j + 1) * (Δ * Δ) = mul-le-mul_left (2 * j + 1) a in
    omega arith

-- ---- the definition by parts: k, and the fraction t
abbrev pub form : Whole → Fraction → Fraction
form k t = record { over = k; under = 1 } ×ᶠ L +ᶠ whole false 2 ×ᶠ (t ×ᶠ series odd_number (t ×ᶠ t) 31)

-- its denominator and its two terms
module _ (k : Whole) (t : Fraction) (κ : Bool) (K : ℕ) (k_is : Same k (signed κ K)) (small : 5 * size t.over ≤ t.under) where
  abbrev τ : ℕ
  τ = size t.over

  abbrev Δ : ℕ
  Δ = t.under

  abbrev σ : Bool
  σ = negative t.over

  under_same : 1 * (Δ * sum_under odd_number (Δ * Δ) 31) ≡ Δ * bottom Δ 31
  under_same = ap (λ (z : ℕ). 1 * (Δ * z)) (sym (under_is odd_number (Δ * Δ) 31)) ∙ one (Δ * bottom Δ 31)
    where
      one : (b : ℕ) → 1 * b ≡ b
      one b = omega arith

  pub form_under : (form k t).under ≡ ten40 * (Δ * bottom Δ 31)
  form_under = ap (λ (z : ℕ). 1 * ten40 * z) under_same ∙ one ten40 (Δ * bottom Δ 31)
    where
      one : (a b : ℕ) → 1 * a * b ≡ a * b
      one a b = omega arith

  series_same : Same (series odd_number (t ×ᶠ t) 31).over (signed false (top τ Δ 31))
  series_same =
      subst (λ (w : Whole). Same w (signed false (top τ Δ 31))) (sym (at_signed odd_number false (Δ * Δ) 31 (t.over ×ʷ t.over) (τ * τ) (square t.over)))
      (sum_same odd_number false (τ * τ) (Δ * Δ) 31 (shrinks_more 1 25 odd_number (τ * τ) (Δ * Δ) 0 (lit≤ tt) (lit< tt) (shrinks τ Δ small)))

  turns_same : Same (record { over = k; under = 1 } ×ᶠ L).over (signed κ (K * L40))
  turns_same = same_trans (k ×ʷ signed false L40) (signed κ K ×ʷ signed false L40) (signed κ (K * L40)) (same_times k (signed κ K) (signed false L40) (signed false L40) k_is refl) (times_above κ K L40)

  near_same : Same (whole false 2 ×ᶠ (t ×ᶠ series odd_number (t ×ᶠ t) 31)).over (signed σ (2 * (τ * top τ Δ 31)))
  near_same =
      let S = (series odd_number (t ×ᶠ t) 31).over in
      let N = top τ Δ 31 in
      let a : Same (t.over ×ʷ S) (signed σ (τ * N)) = same_trans (t.over ×ʷ S) (signed σ τ ×ʷ signed false N) (signed σ (τ * N)) (same_times t.over (signed σ τ) S (signed false N) (own t.over) series_same) (times_above σ τ N) in
      same_trans (signed false 2 ×ʷ (t.over ×ʷ S)) (signed false 2 ×ʷ signed σ (τ * N)) (signed σ (2 * (τ * N))) (same_times (signed false 2) (signed false 2) (t.over ×ʷ S) (signed σ (τ * N)) refl a) (above_times σ 2 (τ * N))

  pub form_over : Same (form k t).over (scaled (signed κ (K * L40)) (Δ * bottom Δ 31) +ʷ scaled (signed σ (2 * (τ * top τ Δ 31))) (1 * ten40))
  form_over =
      let v = record { over = k; under = 1 } ×ᶠ L in
      let w = whole false 2 ×ᶠ (t ×ᶠ series odd_number (t ×ᶠ t) 31) in
      let f : Whole = signed κ (K * L40) in
      let n : Whole = signed σ (2 * (τ * top τ Δ 31)) in
      subst (λ (d : ℕ). Same (scaled v.over (1 * (Δ * sum_under odd_number (Δ * Δ) 31)) +ʷ scaled w.over (1 * ten40)) (scaled f d +ʷ scaled n (1 * ten40))) under_same
      (same_plus (scaled v.over w.under) (scaled f w.under) (scaled w.over (1 * ten40)) (scaled n (1 * ten40)) (same_scaled v.over f w.under turns_same) (same_scaled w.over n (1 * ten40) near_same))

  -- ---- the sum of the two terms, A / c and B / d in size, by their signs
  abbrev A : ℕ
  A = K * L40

  abbrev B : ℕ
  B = 2 * (τ * top τ Δ 31)

  abbrev D : ℕ
  D = Δ * bottom Δ 31

  pub form_like : κ ≡ σ → Same (form k t).over (signed κ (A * D + B * ten40))
  form_like e = go κ σ e form_over
    where
      go : (s r : Bool) → s ≡ r → Same (form k t).over (scaled (signed s A) D +ʷ scaled (signed r B) (1 * ten40)) → Same (form k t).over (signed s (A * D + B * ten40))
      go false false e h = omega arith
      go false true e h = absurd (true≢false (sym e))
      go true false e h = absurd (true≢false e)
      go true true e h = omega arith

  pub form_unlike : (Z : ℕ) → not κ ≡ σ → Z + B * ten40 ≡ A * D → Same (form k t).over (signed κ Z)
  form_unlike Z e f = go κ σ e form_over
    where
      go : (s r : Bool) → not s ≡ r → Same (form k t).over (scaled (signed s A) D +ʷ scaled (signed r B) (1 * ten40)) → Same (form k t).over (signed s Z)
      go false false e h = absurd (true≢false e)
      go false true e h = omega arith
      go true false e h = omega arith
      go true true e h = absurd (true≢false (sym e))

  -- the first alone, where t is 0
  pub form_turns : τ ≡ 0 → Same (form k t).over (signed κ (A * D))
  form_turns e = go κ σ form_over (ap (λ (z : ℕ). z * (top τ Δ 31 * ten40)) e)
    where
      go : (s r : Bool) → Same (form k t).over (scaled (signed s A) D +ʷ scaled (signed r B) (1 * ten40)) → τ * (top τ Δ 31 * ten40) ≡ 0 * (top τ Δ 31 * ten40) → Same (form k t).over (signed s (A * D))
      go false false h e = omega arith
      go false true h e = omega arith
      go true false h e = omega arith
      go true true h e = omega arith

-- ---- the definition is the form
pub value_is : (x : Float) → ln_value x ≡ form (ln_exponent x) (ln_ratio x)
unfolding ln_value
value_is x = refl
