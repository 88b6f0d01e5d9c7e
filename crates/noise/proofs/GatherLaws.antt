-- The three passes of a filling, turn by turn. Assumes nothing.
use mathlib.Core.Path.{◌≡◌, refl, sym, ap, ◌∙◌}
use mathlib.Core.List.{List, [], ◌∷◌, ◌++◌}
use Prim.Native.Nat.{ℕ, zero, suc, ◌+◌, ◌*◌, ◌<◌}
use native.Mathlib.Numerals.{add-one}
use native.Mathlib.Omega.{arith}
use lib.Dec.{T}
use lib.Ieee.{Float, nan}
use lib.ListN.{length, set, length-append}
use lib.Seq.{get_or-set_same, get_or-set_other}
use borrow.Author.Count.{below_more}
use Rattle.number.specs.F64.{◌⊗◌, ◌‼◌}
use Rattle.number.specs.Lists.{over}
use Rattle.root.specs.Root.{root_of}
use Rattle.elementary.specs.Exact.{ln_inside}
use Rattle.history.specs.Steps.{dry, one, Run, running, stopped, steps}
use Rattle.history.proofs.StepLaws.{turn_one, turn_dry}
use Rattle.noise.specs.declared.draw.Try.{Try}
use Rattle.std.specs.Prelude.{None, Some}
use Rattle.noise.specs.Noise.{found_of, multiplier_of, values_of, pair_of, concat, filling_of}
use Rattle.noise.specs.Gathering.{weight_of, pairs_of, Gathered}
use Rattle.noise.proofs.NoiseLaws.{found_inside, pair_is, filling_is, concat_more, over_pair}

-- ---- n pairs

pairs_more : (m : ℕ → Float) (n : ℕ) (a b : List Float) → pairs_of m (n + 1) a b ≡ pairs_of m n a b ++ (a ‼ n ⊗ m n ∷ b ‼ n ⊗ m n ∷ [])
unfolding pairs_of
pairs_more m n a b = rw (add-one n) refl

pub pairs_length : (m : ℕ → Float) (n : ℕ) (a b : List Float) → length (pairs_of m n a b) ≡ 2 * n
unfolding pairs_of
pairs_length m zero a b = refl
pairs_length m (suc n) a b = length-append (pairs_of m n a b) (a ‼ n ⊗ m n ∷ b ‼ n ⊗ m n ∷ []) ∙ (omega (arith, pairs_length m n a b))

-- are those of what is alike below n
pairs_same : (m m' : ℕ → Float) (n : ℕ) (a a' b b' : List Float) → ((k : ℕ) → k < n → m k ≡ m' k) → ((k : ℕ) → k < n → a ‼ k ≡ a' ‼ k) → ((k : ℕ) → k < n → b ‼ k ≡ b' ‼ k)
    → pairs_of m n a b ≡ pairs_of m' n a' b'
unfolding pairs_of
pairs_same m m' zero a a' b b' hm ha hb = refl
pairs_same m m' (suc n) a a' b b' hm ha hb =
    let before = pairs_same m m' n a a' b b' (λ k l. hm k (omega arith)) (λ k l. ha k (omega arith)) (λ k l. hb k (omega arith)) in
    let em = hm n (omega arith) in
    let ea = ha n (omega arith) in
    let eb = hb n (omega arith) in
    rw (before, em, ea, eb) refl

-- ---- the first pass: a pair more is found

-- below i a store at i changes nothing
below : (l : List Float) (i : ℕ) (x : Float) (k : ℕ) → k < i → set l i x ‼ k ≡ l ‼ k
below l i x k h = get_or-set_other l i k x nan (λ e. omega arith)

pub gathered_none : (bound next : ℕ) (a b s : List Float) → Gathered bound next 0 next a b s
unfolding steps pairs_of
gathered_none bound next a b s = record { run = refl; values = refl; inside = λ k l. absurd (omega arith) }

pub gathered_more : (bound next i now : ℕ) (a b s : List Float) (t : Try)
    → Gathered bound next i now a b s → Some t ≡ found_of bound now → i < length a → i < length b → i < length s
    → Gathered bound next (i + 1) t.next (set a i t.r1) (set b i t.r2) (set s i t.s)
gathered_more bound next i now a b s t g e la lb ls =
    let M = (steps (pair_of bound) i next).made in
    let m : ℕ → Float = λ k. multiplier_of (s ‼ k) in
    let m' : ℕ → Float = λ k. multiplier_of (set s i t.s ‼ k) in
    let new : steps (pair_of bound) (i + 1) next ≡ running (M ++ (values_of t ∷ [])) t.next = turn_one (pair_of bound) i next now M (values_of t) t.next g.run (pair_is bound now (Some t) e) in
    let pairs : (steps (pair_of bound) (i + 1) next).made ≡ M ++ (values_of t ∷ []) = ap (λ (r : Run ℕ (List Float)). r.made) new in
    let here : set s i t.s ‼ i ≡ t.s = get_or-set_same s i t.s nan ls in
    let same : pairs_of m' i (set a i t.r1) (set b i t.r2) ≡ pairs_of m i a b =
    pairs_same m' m i (set a i t.r1) a (set b i t.r2) b (λ k l. ap multiplier_of (below s i t.s k l)) (below a i t.r1) (below b i t.r2) in
    record {
      run = new ∙ ap (λ (ms : List (List Float)). running ms t.next) (sym pairs);
      values = ap concat pairs ∙ concat_more M (values_of t) ∙ sym (pairs_more m' i (set a i t.r1) (set b i t.r2) ∙ rw (same, get_or-set_same a i t.r1 nan la, get_or-set_same b i t.r2 nan lb, here, ← g.values) refl);
      inside = below_more (λ (k : ℕ). T (ln_inside (set s i t.s ‼ k))) i (λ k l. rw (below s i t.s k l) (g.inside k l)) (rw here (found_inside bound now t (sym e)));
    }

-- where a pair is dry, so is the filling
pub gathered_dry : (bound next i now : ℕ) (a b s : List Float) → Gathered bound next i now a b s → i < 32 → None ≡ found_of bound now → dry ≡ filling_of bound next
gathered_dry bound next i now a b s g h e =
    let M = (steps (pair_of bound) i next).made in
    sym (filling_is bound next (stopped M now) (turn_dry (pair_of bound) i 32 next now M h g.run (pair_is bound now None e)))

-- ---- the second: a weight more is stored
pub weighed_more : (s w : List Float) (i : ℕ) (x : Float) → ((k : ℕ) → k < i → w ‼ k ≡ weight_of (s ‼ k)) → x ≡ weight_of (s ‼ i) → i < length w
    → (k : ℕ) → k < i + 1 → set w i x ‼ k ≡ weight_of (s ‼ k)
weighed_more s w i x all e h = below_more (λ (k : ℕ). set w i x ‼ k ≡ weight_of (s ‼ k)) i (λ k l. below w i x k l ∙ all k l) (get_or-set_same w i x nan h ∙ e)

-- ---- the third: the values of a pair more are stored
module _ (m : ℕ → Float) (a b before : List Float) where
  pub multiplied_none : before ≡ over (pairs_of m 0 a b) (2 * 0) before
  unfolding pairs_of
  multiplied_none = refl

  pub multiplied_more : (queue : List Float) (k : ℕ) (x : Float) → queue ≡ over (pairs_of m k a b) (2 * k) before → x ≡ m k → 2 * k + 1 < length before
      → set (set queue (2 * k) (a ‼ k ⊗ x)) (2 * k + 1) (b ‼ k ⊗ x) ≡ over (pairs_of m (k + 1) a b) (2 * (k + 1)) before
  multiplied_more queue k x e ex h = rw (ex, e, pairs_more m k a b) (over_pair (pairs_of m k a b) before k (a ‼ k ⊗ m k) (b ‼ k ⊗ m k) (pairs_length m k a b) h)

-- ---- the three together
multiplier_is : (s : Float) → multiplier_of s ≡ root_of (weight_of s)
unfolding multiplier_of weight_of
multiplier_is s = refl

pub gathered_all : (bound next now : ℕ) (a b s w queue : List Float) → Gathered bound next 32 now a b s → ((k : ℕ) → k < 32 → w ‼ k ≡ weight_of (s ‼ k)) → queue ≡ pairs_of (λ k. root_of (w ‼ k)) 32 a b
    → one queue now ≡ filling_of bound next
gathered_all bound next now a b s w queue g weighed e =
    let m : ℕ → Float = λ k. multiplier_of (s ‼ k) in
    let n : ℕ → Float = λ k. root_of (w ‼ k) in
    let roots : (k : ℕ) → k < 32 → n k ≡ m k = λ k l. ap root_of (weighed k l) ∙ sym (multiplier_is (s ‼ k)) in
    let all : queue ≡ concat (steps (pair_of bound) 32 next).made = e ∙ pairs_same n m 32 a a b b roots (λ k l. refl) (λ k l. refl) ∙ sym g.values in
    ap (λ (q : List Float). one q now) all ∙ sym (filling_is bound next (running (steps (pair_of bound) 32 next).made now) g.run)
