-- The code's way from |x| to the folded distance, in units. Assumes nothing.
use Rattle.std.proofs.Common.{◌≡◌, ℕ, ◌+◌, ◌-◌, ◌*◌, ◌/◌, ◌^◌, ◌<◌, ◌≤◌, sym, refl, ap, ◌∙◌, subst, arith, le-ltb, lt-ltb}
use Rattle.cosine.specs.Cos.{one, turn, turns_of, multiple, gap, fold, rest_of, half_turn}
use Rattle.cosine.proofs.Turns.{turns_small, multiple_near, folded}

-- the multiple for the whole part w
abbrev pub multiple_at : ℕ → ℕ
multiple_at w = multiple ((w * 683565275 + 2147483648) / 2 ^ 32)

-- the whole part w and the multiplier k are small
module _ (u w : ℕ) (h : u ≤ 2 ^ 79) (e : w ≡ u / one) where
  whole_small : w ≤ 2 ^ 20
  whole_small = omega arith

  pub turns_room : w * 683565275 + 2147483648 < 2 ^ 64
  turns_room = omega arith

  pub few_turns : (w * 683565275 + 2147483648) / 2 ^ 32 ≤ 2 ^ 18
  unfolding turns_of
  few_turns = turns_small w whole_small

  near : 4 * gap u (multiple_at w) ≤ 3 * turn
  unfolding turns_of
  near = subst (λ (z : ℕ). 4 * gap u (multiple (turns_of z)) ≤ 3 * turn) (sym e) (multiple_near u h)

  pub gap_small : gap u (multiple_at w) < 2 ^ 63
  gap_small = go (gap u (multiple_at w)) near
    where
      go : (d : ℕ) → 4 * d ≤ 3 * turn → d < 2 ^ 63
      go d h = omega arith

  -- the distance, folded
  module _ (far : ℕ) (f : far ≡ gap u (multiple_at w)) where
    pub far_small : far ≤ turn
    far_small = go far (subst (λ (z : ℕ). 4 * z ≤ 3 * turn) (sym f) near)
      where
        go : (d : ℕ) → 4 * d ≤ 3 * turn → d ≤ turn
        go d h = omega arith

    is : fold far ≡ rest_of u
    unfolding rest_of turns_of
    is = ap fold f ∙ ap (λ (z : ℕ). fold (gap u (multiple (turns_of z)))) e

    half : 2 * fold far ≤ turn
    half = (folded far far_small).half

    pub over_half : half_turn < far → (turn - far ≡ rest_of u) × (2 * (turn - far) ≤ turn)
    unfolding fold
    over_half l = let p : turn - far ≡ fold far = rw (lt-ltb half_turn far l) refl in (p ∙ is, subst (λ (z : ℕ). 2 * z ≤ turn) (sym p) half)

    pub up_to_half : far ≤ half_turn → (far ≡ rest_of u) × (2 * far ≤ turn)
    unfolding fold
    up_to_half l = let p : far ≡ fold far = rw (le-ltb half_turn far l) refl in (p ∙ is, subst (λ (z : ℕ). 2 * z ≤ turn) (sym p) half)
