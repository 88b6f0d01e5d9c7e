-- How the definitions go on by one entry, and what the steps in place come to. Assumes nothing.
use mathlib.Core.Path.{◌≡◌, refl, ◌∙◌, ap}
use mathlib.Core.List.{List, [], ◌∷◌, ◌++◌, map}
use Prim.Native.Nat.{ℕ, zero, suc, ◌+◌, ◌-◌, ◌≤◌, ◌<◌}
use native.Mathlib.Omega.{arith}
use lib.ListN.{length, take, drop, set, get_or-append}
use lib.IntN.{pos}
use lib.Ieee.{Float, nan, binary64, of_int}
use Rattle.number.specs.F64.{◌⊕◌, ◌⊖◌, ◌⊗◌, ◌⊘◌, ◌‼◌, 0f, 1f}
use Rattle.number.specs.Lists.{over}
use Rattle.number.proofs.Lists.{over_more}
use Rattle.vectors.specs.Vectors.{sum_from, grown, times_from, over_from}
use Rattle.vectors.proofs.VectorLaws.{sum_same, length_grown, grown_more}
use Rattle.std.specs.Prelude.{Ok, Err}
use Rattle.elementary.specs.Outcome.{Outcome, outside, inside}
use Rattle.power.specs.Power.{inverse_power_of, inverse_root_of}
use Rattle.generalized.specs.Generalized.{gamma_of, gnorm_of, ignormed_by, ignorm_of, gc2gc_entry, gc2gc_of, ss1_term, ss2_term, mgc2mgc_of}

module _ (k y : Float) (c : List Float) (h : 1 ≤ length c) where
  -- all but the first divided, or multiplied, and the first set
  pub divided_and_set : set (over_from 1 k c) 0 y ≡ y ∷ map (λ x. x ⊘ k) (drop 1 c)
  unfolding over_from
  divided_and_set = go c h
    where
      go : (l : List Float) → 1 ≤ length l → set (take 1 l ++ map (λ x. x ⊘ k) (drop 1 l)) 0 y ≡ y ∷ map (λ x. x ⊘ k) (drop 1 l)
      go [] h = absurd (omega arith)
      go (x ∷ l) h = refl

  pub multiplied_and_set : set (times_from 1 k c) 0 y ≡ y ∷ map (λ x. x ⊗ k) (drop 1 c)
  unfolding times_from
  multiplied_and_set = go c h
    where
      go : (l : List Float) → 1 ≤ length l → set (take 1 l ++ map (λ x. x ⊗ k) (drop 1 l)) 0 y ≡ y ∷ map (λ x. x ⊗ k) (drop 1 l)
      go [] h = absurd (omega arith)
      go (x ∷ l) h = refl

pub ignorm_made : (s : ℕ) (k g : Float) (c l : List Float) → 1 ≤ length c → l ≡ times_from 1 k c → g ≡ gamma_of s → set l 0 ((k ⊖ 1f) ⊘ g) ≡ ignormed_by s k c
unfolding ignormed_by
ignorm_made s k g c l h e f = rw (e, f) (multiplied_and_set k ((k ⊖ 1f) ⊘ gamma_of s) c h)

-- ---- gc2gc

-- an entry, by its sums
pub entry_later : (gamma : Float) (c d : List Float) (i : ℕ) → 1 ≤ i
    → c ‼ i ⊕ (gamma ⊗ sum_from (ss2_term c d i) 1 (i - 1) 0f ⊖ gamma ⊗ sum_from (ss1_term c d i) 1 (i - 1) 0f) ⊘ of_int binary64 (pos i) ≡ gc2gc_entry gamma c d i
unfolding gc2gc_entry
entry_later gamma c d zero h = absurd (omega arith)
entry_later gamma c d (suc i) h =
    let e : suc i - 1 ≡ i = omega arith in
    rw e refl

-- an entry reads those before it alone
entry_reads : (gamma : Float) (c l d : List Float) (i : ℕ) → length l ≡ i → gc2gc_entry gamma c (l ++ d) i ≡ gc2gc_entry gamma c l i
unfolding gc2gc_entry
entry_reads gamma c l d zero e = refl
entry_reads gamma c l d (suc i) e =
    let reads : (k : ℕ) → 1 ≤ k → k < 1 + i → (l ++ d) ‼ (suc i - k) ≡ l ‼ (suc i - k) = λ k a b. get_or-append l d nan (suc i - k) (omega arith) in
    let one = sum_same (ss1_term c (l ++ d) (suc i)) (ss1_term c l (suc i)) 1 i 0f (λ k a b. ap (λ (y : Float). of_int binary64 (pos (suc i - k)) ⊗ (c ‼ k ⊗ y)) (reads k a b)) in
    let two = sum_same (ss2_term c (l ++ d) (suc i)) (ss2_term c l (suc i)) 1 i 0f (λ k a b. ap (λ (y : Float). of_int binary64 (pos k) ⊗ (c ‼ k ⊗ y)) (reads k a b)) in
    rw (one, two) refl

-- the first entry in the array, and one more
pub gc2gc_begin : (gamma : Float) (c d : List Float) → 1 ≤ length d → set d 0 (c ‼ 0) ≡ over (grown (gc2gc_entry gamma c) 1) 1 (set d 0 (c ‼ 0))
unfolding grown gc2gc_entry
gc2gc_begin gamma c [] h = absurd (omega arith)
gc2gc_begin gamma c (x ∷ d) h = refl

pub gc2gc_turn : (gamma : Float) (c d now : List Float) (i : ℕ) → i < length d → now ≡ over (grown (gc2gc_entry gamma c) i) i d
    → set now i (gc2gc_entry gamma c now i) ≡ over (grown (gc2gc_entry gamma c) (i + 1)) (i + 1) d
gc2gc_turn gamma c d now i h e =
    let f = gc2gc_entry gamma c in
    rw (e, entry_reads gamma c (grown f i) (drop i d) i (length_grown f i), grown_more f i) (over_more (grown f i) d i (f (grown f i) i) (length_grown f i) h)

-- the first entry is the first of c
pub gc2gc_first : (s n : ℕ) (c : List Float) → 1 ≤ n → gc2gc_of s n c ‼ 0 ≡ c ‼ 0
unfolding gc2gc_of grown gc2gc_entry
gc2gc_first s zero c h = absurd (omega arith)
gc2gc_first s (suc zero) c h = refl
gc2gc_first s (suc (suc n)) c h =
    let f = gc2gc_entry (gamma_of s) c in
    get_or-append (grown f (suc n)) (f (grown f (suc n)) (suc n) ∷ []) nan 0 (omega (arith, length_grown f (suc n))) ∙ gc2gc_first s (suc n) c (omega arith)

-- ---- what an answer of a power makes of the definitions

module _ (s : ℕ) (c : List Float) where
  module _ (k : Float) (e : k ≡ 1f ⊕ gamma_of s ⊗ c ‼ 0) where
    pub gnorm_outside : Err (record {}) ≡ inverse_power_of k s → gnorm_of s c ≡ outside
    unfolding gnorm_of
    gnorm_outside p = rw (← e, ← p) refl

    pub gnorm_inside : (gain : Float) → Ok gain ≡ inverse_power_of k s → gnorm_of s c ≡ inside (gain ∷ map (λ x. x ⊘ k) (drop 1 c))
    unfolding gnorm_of
    gnorm_inside gain p = rw (← e, ← p) refl

  pub ignorm_outside : Err (record {}) ≡ inverse_root_of (c ‼ 0) s → ignorm_of s c ≡ outside
  unfolding ignorm_of
  ignorm_outside p = rw (← p) refl

  pub ignorm_inside : (k : Float) → Ok k ≡ inverse_root_of (c ‼ 0) s → ignorm_of s c ≡ inside (ignormed_by s k c)
  unfolding ignorm_of
  ignorm_inside k p = rw (← p) refl

-- and of both steps
module _ (s n : ℕ) (c : List Float) where
  pub mgc_outside : gnorm_of s c ≡ outside → mgc2mgc_of s n c ≡ outside
  unfolding mgc2mgc_of
  mgc_outside o = rw o refl

  pub mgc_then : (g : List Float) (d : Outcome (List Float)) → gnorm_of s c ≡ inside g → ignorm_of s (gc2gc_of s n g) ≡ d → mgc2mgc_of s n c ≡ d
  unfolding mgc2mgc_of
  mgc_then g d i e = rw i e
