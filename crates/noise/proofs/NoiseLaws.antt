-- The tries, the pairs and the filling, step by step. Assumes nothing.
use mathlib.Core.Path.{◌≡◌, refl, sym, ap, ◌∙◌, subst}
use mathlib.Core.List.{List, [], ◌∷◌, ◌++◌, append_assoc, append-nil}
use mathlib.Core.Bool.{Bool, true, false}
use Prim.Native.Nat.{ℕ, zero, suc, ◌+◌, ◌*◌, ◌<◌}
use lib.Dec.{ltb}
use native.Mathlib.Omega.{arith}
use lib.Dec.{T}
use lib.Ieee.{Float}
use lib.ListN.{length, set, length-append}
use Rattle.number.specs.Lists.{over}
use Rattle.number.proofs.Lists.{over_more}
use Rattle.elementary.specs.Exact.{ln_inside}
use Rattle.history.specs.Steps.{dry, one, Run, steps}
use Rattle.noise.specs.declared.Random.{Random}
use Rattle.noise.specs.declared.draw.Try.{Try}
use Rattle.std.specs.Prelude.{Option, Some}
use Rattle.noise.specs.Draw.{try_of, accepted}
use Rattle.noise.specs.Noise.{found_of, pair_step, pair_of, concat, filled, filling_of, take_from, noise_of}
use Rattle.noise.proofs.Tries.{s_inside}

-- the first try is accepted, or is not
pub found_first : (bound next : ℕ) → accepted (try_of next) ≡ true → found_of (suc bound) next ≡ Some (try_of next)
unfolding found_of
found_first bound next e = rw e refl

pub found_later : (bound next : ℕ) → accepted (try_of next) ≡ false → found_of (suc bound) next ≡ found_of bound (try_of next).next
unfolding found_of
found_later bound next e = rw e refl

-- what is found is inside ln
pub found_inside : (bound next : ℕ) (t : Try) → found_of bound next ≡ Some t → T (ln_inside t.s)
unfolding found_of
found_inside zero next t e = let z : ◌≡◌ {A = ℕ} 0 1 = cc in absurd (omega arith)
found_inside (suc bound) next t e = go (accepted (try_of next)) refl (found_inside bound (try_of next).next t)
  where
    go : (b : Bool) → accepted (try_of next) ≡ b → (found_of bound (try_of next).next ≡ Some t → T (ln_inside t.s)) → T (ln_inside t.s)
    go true a later =
        let same : Some (try_of next) ≡ Some t = sym (found_first bound next a) ∙ e in
        let is : try_of next ≡ t = cc in
        subst (λ (u : Try). T (ln_inside u.s)) is (s_inside next)
    go false a later = later (sym (found_later bound next a) ∙ e)

-- a pair is what is found
pub pair_is : (bound next : ℕ) (f : Option Try) → f ≡ found_of bound next → pair_of bound next ≡ pair_step f
unfolding pair_of
pair_is bound next f e = ap pair_step (sym e)

-- a filling, by what its 32 steps come to
pub filling_is : (bound next : ℕ) (run : Run ℕ (List Float)) → steps (pair_of bound) 32 next ≡ run → filling_of bound next ≡ filled run
unfolding filling_of
filling_is bound next run e = ap filled e

-- one pair more
pub concat_more : (pairs : List (List Float)) (values : List Float) → concat (pairs ++ (values ∷ [])) ≡ concat pairs ++ values
concat_more [] values = append-nil values
concat_more (p ∷ pairs) values = ap (λ (l : List Float). p ++ l) (concat_more pairs values) ∙ sym (append_assoc p (concat pairs) values)

-- and its two values stored behind those that stand
pub over_pair : (xs d : List Float) (i : ℕ) (a b : Float) → length xs ≡ 2 * i → 2 * i + 1 < length d
    → set (set (over xs (2 * i) d) (2 * i) a) (2 * i + 1) b ≡ over (xs ++ (a ∷ b ∷ [])) (2 * (i + 1)) d
over_pair xs d i a b e h =
    let twice : 2 * i + 1 + 1 ≡ 2 * (i + 1) = omega arith in
    let n : length (xs ++ (a ∷ [])) ≡ 2 * i + 1 = simp length-append (omega arith) in
    ap (λ (l : List Float). set l (2 * i + 1) b) (over_more xs d (2 * i) a e (omega arith))
    ∙ over_more (xs ++ (a ∷ [])) d (2 * i + 1) b n h
    ∙ ap (λ (l : List Float). over l (2 * i + 1 + 1) d) (append_assoc xs (a ∷ []) (b ∷ []))
    ∙ ap (λ (k : ℕ). over (xs ++ (a ∷ b ∷ [])) k d) twice

-- ---- a value: one that is left, the first of a filling, or none
module _ (bound : ℕ) (z : Random) where
  pub value_left : ltb z.used 64 ≡ true → take_from z ≡ noise_of bound z
  unfolding noise_of
  value_left h = rw h refl

  pub value_filled : (queue : List Float) (next : ℕ) → ltb z.used 64 ≡ false → one queue next ≡ filling_of bound z.next → take_from (record { next = next; used = 0; queue = queue }) ≡ noise_of bound z
  unfolding noise_of
  value_filled queue next h e = rw (h, ← e) refl

  pub value_dry : ltb z.used 64 ≡ false → dry ≡ filling_of bound z.next → dry ≡ noise_of bound z
  unfolding noise_of
  value_dry h e = rw (h, ← e) refl
