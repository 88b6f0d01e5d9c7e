-- How the definitions go on by one entry. Assumes nothing.
use mathlib.Core.Path.{◌≡◌, refl, ap, ◌∙◌}
use mathlib.Core.List.{List, [], ◌∷◌, ◌++◌}
use Prim.Native.Nat.{ℕ, zero, suc, ◌+◌, ◌-◌, ◌≤◌, ◌<◌}
use mathlib.Core.Logic.{⊎_elim}
use native.Mathlib.Nat.{eq-or-lt_of_le}
use native.Mathlib.Omega.{arith}
use lib.ListN.{length, take, drop, set, replicate, length-set, get_or-append}
use lib.Seq.{get_or_at}
use lib.IntN.{pos}
use lib.Ieee.{Float, nan, binary64, of_int}
use Rattle.number.specs.F64.{◌⊕◌, ◌⊖◌, ◌⊗◌, ◌⊘◌, ◌‼◌, 0f, 1f}
use Rattle.number.specs.Lists.{over}
use Rattle.number.proofs.Lists.{left_next, left_none, back_turn, over_more, over_end}
use Rattle.vectors.specs.Vectors.{sum_from, grown}
use Rattle.vectors.proofs.VectorLaws.{sum_same, length_grown, grown_more}
use Rattle.cepstrum.specs.Cepstrum.{unwarped, b2mc_of, onward, pass, passes, ir_term, ir_entry, c2ir_of}
use Rattle.cepstrum.specs.Weights.{weight, weights_of, weighed_term}

module _ (a : Float) (c out : List Float) (i : ℕ) (same : length out ≡ length c) where
  -- the last entry stays
  pub unwarped_last : i + 1 ≡ length c → drop i (set out i (c ‼ i)) ≡ unwarped a (drop i c)
  unfolding unwarped
  unwarped_last h = rw (back_turn out i (c ‼ i) (omega arith), left_next c i nan (omega arith), left_none out (i + 1) (omega arith), left_none c (i + 1) (omega arith)) refl

  -- one more, in front
  pub unwarped_turn : i + 1 < length c → drop (i + 1) out ≡ unwarped a (drop (i + 1) c) → drop i (set out i (c ‼ i ⊖ a ⊗ out ‼ (i + 1))) ≡ unwarped a (drop i c)
  unfolding unwarped
  unwarped_turn h e = rw (back_turn out i (c ‼ i ⊖ a ⊗ out ‼ (i + 1)) (omega arith), left_next c i nan (omega arith), ← e, left_next out (i + 1) nan (omega arith)) refl

  pub b2mc_last : i + 1 ≡ length c → drop i (set out i (c ‼ i)) ≡ b2mc_of a (drop i c)
  unfolding b2mc_of
  b2mc_last h = rw (back_turn out i (c ‼ i) (omega arith), left_next c i nan (omega arith), left_none out (i + 1) (omega arith), left_none c (i + 1) (omega arith)) refl

  pub b2mc_turn : i + 1 < length c → drop (i + 1) out ≡ b2mc_of a (drop (i + 1) c) → drop i (set out i (c ‼ i ⊕ a ⊗ c ‼ (i + 1))) ≡ b2mc_of a (drop i c)
  unfolding b2mc_of
  b2mc_turn h e = rw (back_turn out i (c ‼ i ⊕ a ⊗ c ‼ (i + 1)) (omega arith), e, left_next c i nan (omega arith), left_next c (i + 1) nan (omega arith)) refl

-- a pass: the first two entries, and then onward
pub pass_two : (a x : Float) (g : List Float) → 2 ≤ length g → let new = (1f ⊖ a ⊗ a) ⊗ g ‼ 0 ⊕ a ⊗ g ‼ 1 in
    let two = set (set g 0 (x ⊕ a ⊗ g ‼ 0)) 1 new in take 2 two ++ onward a (g ‼ 1) new (drop 2 two) ≡ pass a x g
unfolding pass
pass_two a x [] h = absurd (omega arith)
pass_two a x (g ∷ []) h = absurd (omega arith)
pass_two a x (g ∷ g' ∷ gs) h = refl

-- the passes that are left, one on
pub passes_turn : (a : Float) (c : List Float) (i : ℕ) (g : List Float) → i < length c → passes a (drop (i + 1) c) (pass a (c ‼ i) g) ≡ passes a (drop i c) g
unfolding passes
passes_turn a c i g h = rw (left_next c i nan h) refl

pub passes_done : (a : Float) (c : List Float) (i : ℕ) (g : List Float) → length c ≤ i → passes a (drop i c) g ≡ g
unfolding passes
passes_done a c i g h = rw (left_none c i h) refl

-- ---- entries that read none before them
grown_at : (f : ℕ → Float) (n i : ℕ) → i < n → grown (λ _. f) n ‼ i ≡ f i
unfolding grown
grown_at f zero i h = absurd (omega arith)
grown_at f (suc n) i h =
    let l = grown (λ _. f) n in
    let long : length l ≡ n = length_grown (λ _. f) n in
    let le : i ≤ n = omega arith in
    ⊎_elim (λ e. rw e (get_or_at l (f n) [] nan n long)) (λ w. get_or-append l (f n ∷ []) nan i (omega arith) ∙ grown_at f n i w) (eq-or-lt_of_le le)

-- ---- the impulse response grows in an array: its sums read what is made so far
ir_reads : (c d : List Float) (n : ℕ) → 1 ≤ n → sum_from (ir_term c (over (grown (ir_entry c) n) n d) n) 1 n 0f ≡ sum_from (ir_term c (grown (ir_entry c) n) n) 1 n 0f
ir_reads c d n h =
    let l = grown (ir_entry c) n in
    sum_same (ir_term c (over l n d) n) (ir_term c l n) 1 n 0f (λ i a b. ap (λ (y : Float). of_int binary64 (pos i) ⊗ c ‼ i ⊗ y) (get_or-append l (drop n d) nan (n - i) (omega (arith, length_grown (ir_entry c) n))))

later : (c l : List Float) (n : ℕ) → 1 ≤ n → sum_from (ir_term c l n) 1 n 0f ⊘ of_int binary64 (pos n) ≡ ir_entry c l n
later c l zero h = absurd (omega arith)
later c l (suc n) h = refl

-- the sums with weights that are made once are the same
weighed_sum : (c ir : List Float) (m n : ℕ) → n < m → sum_from (weighed_term (weights_of m c) ir n) 1 n 0f ≡ sum_from (ir_term c ir n) 1 n 0f
unfolding weights_of
weighed_sum c ir m n h =
    sum_same (weighed_term (grown (λ _. weight c) m) ir n) (ir_term c ir n) 1 n 0f (λ i a b. ap (λ (y : Float). y ⊗ ir ‼ (n - i)) (grown_at (weight c) m i (omega arith)))

ir_turn : (c w ir d : List Float) (m n : ℕ) (s : Float) → w ≡ weights_of m c → s ≡ sum_from (weighed_term w ir n) 1 n 0f → ir ≡ over (grown (ir_entry c) n) n d
    → 1 ≤ n → n < m → n < length d → set ir n (s ⊘ of_int binary64 (pos n)) ≡ over (grown (ir_entry c) (n + 1)) (n + 1) d
ir_turn c w ir d m n s ew es e h hm hd =
    rw (es, ew, weighed_sum c ir m n hm, e, ir_reads c d n h, later c (grown (ir_entry c) n) n h, grown_more (ir_entry c) n) (over_more (grown (ir_entry c) n) d n (ir_entry c (grown (ir_entry c) n) n) (length_grown (ir_entry c) n) hd)

-- the array ir of 576 has the first n entries of c's response, and zeros
abbrev pub Made : (c ir : List Float) (n : ℕ) → Type 0
Made c ir n = (length ir ≡ 576) × (ir ≡ over (grown (ir_entry c) n) n (replicate 576 0f))

-- one more entry, from the sum s; and all of them
pub made_more : (c w ir : List Float) (n : ℕ) (s : Float) → w ≡ weights_of 576 c → s ≡ sum_from (weighed_term w ir n) 1 n 0f → Made c ir n
    → 1 ≤ n → n < 576 → Made c (set ir n (s ⊘ of_int binary64 (pos n))) (n + 1)
made_more c w ir n s ew es m h k = (length-set ir n _ ∙ m.0, ir_turn c w ir (replicate 576 0f) 576 n s ew es m.1 h k (omega arith))

pub made_all : (c ir : List Float) (n : ℕ) → n ≡ 576 → Made c ir n → ir ≡ c2ir_of 576 c
unfolding c2ir_of
made_all c ir n e m = m.1 ∙ over_end (grown (ir_entry c) n) (replicate 576 0f) n (omega arith) ∙ rw e refl

-- one more weight in the array
pub weights_turn : (c w d : List Float) (k : ℕ) → k < length d → w ≡ over (weights_of k c) k d → set w k (weight c k) ≡ over (weights_of (k + 1) c) (k + 1) d
unfolding weights_of
weights_turn c w d k h e =
    let f : List Float → ℕ → Float = λ _. weight c in
    rw (e, grown_more f k) (over_more (grown f k) d k (weight c k) (length_grown f k) h)
