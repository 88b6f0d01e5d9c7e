-- A number's clamp lies within the bounds. Assumes nothing.
use Rattle.std.proofs.Common.{◌≡◌, ℕ, ◌+◌, ◌*◌, Bool, true, false, cond, not, ◌||◌, ltb, refl, ap, ◌∙◌, arith, ltb-false, eq-eqb}
use lib.Ieee.{Float, nan, inf, fin, up, down, below, level, lt, le, eq, is_nan}
use Rattle.number.specs.Range.{is_within, clamp_of}
use Rattle.number.proofs.Floats.{equals_itself}

either : (p q : Bool) → (p ≡ false → q ≡ true) → p || q ≡ true
either true q f = refl
either false q f = f refl

-- of two magnitudes with their signs, one that is not below the other is above it or level with it
signed_order : (s t : Bool) (a b : ℕ) → below s a t b ≡ false → below t b s a || level t b s a ≡ true
signed_order false false a b h = either (ltb b a) _ (λ g. simp (eq-eqb b a (omega (arith, ltb-false a b h, ltb-false b a g))))
signed_order true true a b h = either (ltb a b) _ (λ g. simp (eq-eqb b a (omega (arith, ltb-false b a h, ltb-false a b g))))
signed_order false true a b h =
    either (ltb 0 (b + a)) _ (λ g. simp (eq-eqb b a (omega (arith, ltb-false 0 (b + a) g)), eq-eqb b 0 (omega (arith, ltb-false 0 (b + a) g))))
signed_order true false a b h = simp (eq-eqb b a (omega (arith, ltb-false 0 (a + b) h)), eq-eqb b 0 (omega (arith, ltb-false 0 (a + b) h)))

-- where neither is the NaN, what is not below is at least as large
pub not_below : (x y : Float) → is_nan x ≡ false → is_nan y ≡ false → lt x y ≡ false → le y x ≡ true
unfolding is_nan lt le eq
not_below nan y hx hy h = cc
not_below (inf s) nan hx hy h = cc
not_below (inf true) (inf true) hx hy h = refl
not_below (inf true) (inf false) hx hy h = cc
not_below (inf false) (inf true) hx hy h = refl
not_below (inf false) (inf false) hx hy h = refl
not_below (inf true) (fin t n d) hx hy h = cc
not_below (inf false) (fin t n d) hx hy h = refl
not_below (fin s m e) nan hx hy h = cc
not_below (fin s m e) (inf true) hx hy h = refl
not_below (fin s m e) (inf false) hx hy h = cc
not_below (fin s m e) (fin t n d) hx hy h = signed_order s t (m * up e * down d) (n * up d * down e) h

-- what compares is no NaN
compares : (x y : Float) → le x y ≡ true → (is_nan x ≡ false) × (is_nan y ≡ false)
unfolding is_nan le lt eq
compares nan y h = (cc, cc)
compares (inf s) nan h = (refl, cc)
compares (inf s) (inf t) h = (refl, refl)
compares (inf s) (fin t n d) h = (refl, refl)
compares (fin s m e) nan h = (refl, cc)
compares (fin s m e) (inf t) h = (refl, refl)
compares (fin s m e) (fin t n d) h = (refl, refl)

le_itself : (x : Float) → is_nan x ≡ false → le x x ≡ true
unfolding le
le_itself x h = either (lt x x) (eq x x) (λ _. equals_itself x ∙ ap not h)

pub clamp_within : (x low high : Float) → is_nan x ≡ false → le low high ≡ true → is_within (clamp_of x low high) low high ≡ true
clamp_within x low high hx h = go (lt x low) (lt high x) refl refl
  where
    bounds : (is_nan low ≡ false) × (is_nan high ≡ false)
    bounds = compares low high h

    go : (p q : Bool) → lt x low ≡ p → lt high x ≡ q → is_within (cond p low (cond q high x)) low high ≡ true
    go true q e f = simp (le_itself low bounds.0, h)
    go false true e f = simp (le_itself high bounds.1, h)
    go false false e f = simp (not_below x low hx bounds.0 e, not_below high x bounds.1 hx f)
