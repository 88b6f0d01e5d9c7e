-- Which floats are the NaN, by a comparison and by cases, which are finite, and which numbers are floats. Assumes nothing.
use Rattle.std.proofs.Common.{◌≡◌, ℕ, ◌*◌, ◌^◌, ◌≤◌, Bool, true, false, not, ◌&&◌, T, pos, sym, refl, ap, ◌∙◌, le→leb, eq-eqb}
use borrow.Author.Tests.{not-true, not-false}
use lib.Ieee.{Float, nan, inf, fin, binary64, up, down, eq, ne, lt, is_nan, in_float}
use Rattle.number.specs.Range.{finite, is_strictly_within}

-- only the NaN differs from itself
pub equals_itself : (x : Float) → eq x x ≡ not (is_nan x)
unfolding eq is_nan
equals_itself nan = refl
equals_itself (inf true) = refl
equals_itself (inf false) = refl
equals_itself (fin true m e) = simp (eq-eqb (m * up e * down e) _ refl)
equals_itself (fin false m e) = simp (eq-eqb (m * up e * down e) _ refl)

-- what counts as a NaN is the NaN
pub is_the_nan : (x : Float) → is_nan x ≡ true → x ≡ nan
unfolding is_nan
is_the_nan nan e = refl
is_the_nan (inf s) e = cc
is_the_nan (fin s m k) e = cc

-- the two ways out of the test `x == x`
pub itself_no_nan : (x : Float) → eq x x ≡ true → is_nan x ≡ false
itself_no_nan x e = not-true (is_nan x) (sym (equals_itself x) ∙ e)

pub not_itself_nan : (x : Float) → eq x x ≡ false → x ≡ nan
not_itself_nan x e = is_the_nan x (not-false (is_nan x) (sym (equals_itself x) ∙ e))

pub differs_is_nan : (x : Float) → ne x x ≡ is_nan x
unfolding ne
differs_is_nan x = ap not (equals_itself x) ∙ twice (is_nan x)
  where
    twice : (b : Bool) → not (not b) ≡ b
    twice true = refl
    twice false = refl

-- what lies strictly between the infinities is finite, and nothing else is
pub between_infinities : (x : Float) → is_strictly_within x (inf true) (inf false) ≡ finite x
unfolding lt
between_infinities nan = refl
between_infinities (inf true) = refl
between_infinities (inf false) = refl
between_infinities (fin s m e) = refl

-- a whole number up to 2^53 is a float
pub small_float : (k : ℕ) → k ≤ 2 ^ 53 → T (in_float binary64 (pos k))
unfolding in_float
small_float k h = le→leb k (2 ^ 53) h

-- where both of two tests are passed, each is
pub both_first : (a b : Bool) → a && b ≡ true → a ≡ true
both_first true b e = refl
both_first false b e = cc

pub both_second : (a b : Bool) → a && b ≡ true → b ≡ true
both_second true b e = e
both_second false b e = cc
