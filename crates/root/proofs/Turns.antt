-- The root digit by digit: what holds after i turns, and that a turn keeps it. Assumes nothing.
use Rattle.std.proofs.Common.{◌≡◌, ℕ, ◌+◌, ◌-◌, ◌*◌, ◌/◌, ◌%◌, ◌^◌, ◌<◌, ◌≤◌, sym, ap, ◌∙◌, subst, lt_of_lt_of_le, le_of_suc-le-suc, mul_assoc, le_antisymm, add-one, arith, lit<, pow_mono}
use native.Mathlib.Nat.{pow-succ'}

-- After i turns the root's square and the rest are the number's first 2 * i digits, of the 64 digits of m * 2 ^ 10 and zeros; below are the others, moved to the top.
pub record Turned (m below root rest i : ℕ) : Type 0 where
  pub upto : i ≤ 53
  pub is : (root * root + rest) * 2 ^ 64 + below ≡ m * 2 ^ 10 * 4 ^ i
  pub floor : rest ≤ 2 * root
  pub short : root < 2 ^ i
  pub word : below < 2 ^ 64

pub first : (m : ℕ) → m < 2 ^ 54 → Turned m ((m * 2 ^ 10) % 2 ^ 64) 0 0 0
first m h = record { upto = omega arith; is = omega arith; floor = omega arith; short = lit< tt; word = omega arith }

-- a root of fewer than 53 turns leaves room for the next one's sums
pub room : (root i : ℕ) → i < 53 → root < 2 ^ i → root < 2 ^ 52
room root i h k = lt_of_lt_of_le k (pow_mono {i = i} {j = 52} (le_of_suc-le-suc h))

-- one power more
times : (b i : ℕ) → b ^ (i + 1) ≡ b * b ^ i
times b i = ap (λ (z : ℕ). b ^ z) (add-one i) ∙ pow-succ' b i

module _ (m below root rest i : ℕ) (d : Turned m below root rest i) (more : i < 53) where
  -- the next two digits of the number
  next : (4 * (root * root) + (rest * 4 + below / 2 ^ 62)) * 2 ^ 64 + (below * 2 ^ 2) % 2 ^ 64 ≡ m * 2 ^ 10 * 4 ^ (i + 1)
  next = go (4 ^ i) (4 ^ (i + 1)) (times 4 i) d.is
    where
      go : (p q : ℕ) → q ≡ 4 * p → (root * root + rest) * 2 ^ 64 + below ≡ m * 2 ^ 10 * p → (4 * (root * root) + (rest * 4 + below / 2 ^ 62)) * 2 ^ 64 + (below * 2 ^ 2) % 2 ^ 64 ≡ m * 2 ^ 10 * q
      go p q e h = let f : m * 2 ^ 10 * q ≡ m * 2 ^ 10 * (4 * p) = ap (λ (z : ℕ). m * 2 ^ 10 * z) e in omega arith

  -- a turn's new root and rest, for whichever digit keeps the square and is not too small
  turned : (root' rest' : ℕ) → root' * root' + rest' ≡ 4 * (root * root) + (rest * 4 + below / 2 ^ 62) → rest' ≤ 2 * root' → root' ≤ root * 2 + 1 → Turned m ((below * 2 ^ 2) % 2 ^ 64) root' rest' (i + 1)
  turned root' rest' e f g = record {
    upto = omega arith;
    is = ap (λ (z : ℕ). z * 2 ^ 64 + (below * 2 ^ 2) % 2 ^ 64) e ∙ next;
    floor = f;
    short = subst (λ (z : ℕ). root' < z) (sym (times 2 i)) (twice (2 ^ i) d.short);
    word = omega (arith, d.word);
  }
    where
      twice : (p : ℕ) → root < p → root' < 2 * p
      twice p h = omega arith

  pub one_digit : root * 4 + 1 ≤ rest * 4 + below / 2 ^ 62 → Turned m ((below * 2 ^ 2) % 2 ^ 64) (root * 2 + 1) (rest * 4 + below / 2 ^ 62 - (root * 4 + 1)) (i + 1)
  one_digit h = turned (root * 2 + 1) (rest * 4 + below / 2 ^ 62 - (root * 4 + 1)) (square (rest * 4 + below / 2 ^ 62) h) (omega (arith, d.floor, d.word)) (omega arith)
    where
      square : (t : ℕ) → root * 4 + 1 ≤ t → (root * 2 + 1) * (root * 2 + 1) + (t - (root * 4 + 1)) ≡ 4 * (root * root) + t
      square t h = omega arith

  pub zero_digit : rest * 4 + below / 2 ^ 62 < root * 4 + 1 → Turned m ((below * 2 ^ 2) % 2 ^ 64) (root * 2) (rest * 4 + below / 2 ^ 62) (i + 1)
  zero_digit h = turned (root * 2) (rest * 4 + below / 2 ^ 62) (square (rest * 4 + below / 2 ^ 62)) (omega arith) (omega arith)
    where
      square : (t : ℕ) → root * 2 * (root * 2) + t ≡ 4 * (root * root) + t
      square t = omega arith

-- after the last turn no digit is left
pub last : (m below root rest i : ℕ) → Turned m below root rest i → 53 ≤ i → (root * root + rest ≡ m * 2 ^ 52) × (rest ≤ 2 * root) × (root < 2 ^ 53)
last m below root rest i d h = at_end (le_antisymm d.upto h) d.is d.short
  where
    whole : (s t : ℕ) → s * 2 ^ 64 + below ≡ t * 2 ^ 64 → below < 2 ^ 64 → s ≡ t
    whole s t e k = omega arith

    at_end : i ≡ 53 → (root * root + rest) * 2 ^ 64 + below ≡ m * 2 ^ 10 * 4 ^ i → root < 2 ^ i → (root * root + rest ≡ m * 2 ^ 52) × (rest ≤ 2 * root) × (root < 2 ^ 53)
    at_end f e s = (
      whole (root * root + rest) (m * 2 ^ 52) (e ∙ ap (λ (z : ℕ). m * 2 ^ 10 * 4 ^ z) f ∙ mul_assoc m (2 ^ 10) (4 ^ 53) ∙ sym (mul_assoc m (2 ^ 52) (2 ^ 64))) d.word,
      d.floor,
      subst (λ (z : ℕ). root < 2 ^ z) f s,
    )
