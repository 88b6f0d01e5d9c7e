-- Steps may be cut anywhere, and a loop that takes them one by one comes to what they come to. Assumes nothing.
use mathlib.Core.Path.{◌≡◌, refl, sym, ap, ◌∙◌, subst}
use mathlib.Core.List.{List, [], ◌∷◌, ◌++◌, append-nil}
use mathlib.Core.Bool.{Bool, true, false, false≢true}
use Prim.Native.Nat.{ℕ, zero, suc, ◌+◌, ◌-◌, ◌<◌}
use native.Mathlib.Nat.{zero-add, suc-add}
use native.Mathlib.Omega.{arith}
use lib.Dec.{ltb}
use lib.ListN.{length, set}
use borrow.Author.Tests.{lt-ltb, le-ltb}
use Rattle.number.specs.Lists.{over}
use Rattle.number.proofs.Lists.{over_more}
use Rattle.history.specs.Steps.{Step, dry, one, Run, running, stopped, joined, onward, steps, continued}

module _ {State Sample : Type 0} (step : State → Step State Sample) where
  -- where the run goes on, so it does with samples before it
  joined_continued : (x : Sample) (run : Run State Sample) (follows : State → Run State Sample)
      → joined (x ∷ []) (continued run follows) ≡ continued (joined (x ∷ []) run) follows
  joined_continued x run follows = go run.is_dry refl
    where
      go : (b : Bool) → run.is_dry ≡ b → joined (x ∷ []) (continued run follows) ≡ continued (joined (x ∷ []) run) follows
      go true e = rw e refl
      go false e = rw e refl

  -- where the cut is right from every state, it is right a step earlier
  cut_later : (a b : ℕ) → ((u : State) → steps step (a + b) u ≡ continued (steps step a u) (steps step b))
      → (t : Step State Sample) (s : State) → onward t s (steps step (a + b)) ≡ continued (onward t s (steps step a)) (steps step b)
  cut_later a b h dry s = refl
  cut_later a b h (one x u) s = ap (joined (x ∷ [])) (h u) ∙ joined_continued x (steps step a u) (steps step b)

  -- THE CUT: a steps and then b are a + b, samples joined, dry at the same place.
  pub steps_cut : (a b : ℕ) (s : State) → steps step (a + b) s ≡ continued (steps step a s) (steps step b)
  unfolding steps
  steps_cut zero b s = rw (zero-add b) refl
  steps_cut (suc a) b s = rw (suc-add a b) (cut_later a b (steps_cut a b) (step s) s)

  -- a loop that has come to s after i steps, by what its next step is
  pub turn_one : (i : ℕ) (s t : State) (xs : List Sample) (x : Sample) (u : State)
      → steps step i s ≡ running xs t → step t ≡ one x u → steps step (i + 1) s ≡ running (xs ++ (x ∷ [])) u
  unfolding steps
  turn_one i s t xs x u e h = steps_cut i 1 s ∙ rw (e, h) refl

  pub turn_dry : (i n : ℕ) (s t : State) (xs : List Sample)
      → i < n → steps step i s ≡ running xs t → step t ≡ dry → steps step n s ≡ stopped xs t
  unfolding steps
  turn_dry i n s t xs l e h =
      let k : n ≡ i + suc (n - (i + 1)) = omega arith in
      ap (λ (m : ℕ). steps step m s) k ∙ steps_cut i (suc (n - (i + 1))) s ∙ rw (e, h) (ap (λ (ys : List Sample). stopped ys t) (append-nil xs))

  -- a run that is not dry has as many samples as steps, and one that is has fewer
  full_one : (n : ℕ) → ((u : State) → (steps step n u).is_dry ≡ false → length (steps step n u).made ≡ n)
      → (t : Step State Sample) (s : State) → (onward t s (steps step n)).is_dry ≡ false → length (onward t s (steps step n)).made ≡ suc n
  full_one n h dry s e = absurd (false≢true (sym e))
  full_one n h (one x u) s e = ap suc (h u e)

  steps_full : (n : ℕ) (s : State) → (steps step n s).is_dry ≡ false → length (steps step n s).made ≡ n
  unfolding steps
  steps_full zero s e = refl
  steps_full (suc n) s e = full_one n (steps_full n) (step s) s e

  short_one : (n : ℕ) → ((u : State) → (steps step n u).is_dry ≡ true → length (steps step n u).made < n)
      → (t : Step State Sample) (s : State) → (onward t s (steps step n)).is_dry ≡ true → length (onward t s (steps step n)).made < suc n
  short_one n h dry s e = omega arith
  short_one n h (one x u) s e = omega (arith, h u e)

  steps_short : (n : ℕ) (s : State) → (steps step n s).is_dry ≡ true → length (steps step n s).made < n
  unfolding steps
  steps_short zero s e = absurd (false≢true e)
  steps_short (suc n) s e = short_one n (steps_short n) (step s) s e

  -- so it is dry exactly where fewer samples are made than steps are asked for
  pub steps_dry : (n : ℕ) (s : State) → (steps step n s).is_dry ≡ ltb (length (steps step n s).made) n
  steps_dry n s = go (steps step n s).is_dry refl
    where
      go : (b : Bool) → (steps step n s).is_dry ≡ b → b ≡ ltb (length (steps step n s).made) n
      go true e = sym (lt-ltb (length (steps step n s).made) n (steps_short n s e))
      go false e = sym (le-ltb (length (steps step n s).made) n (omega (arith, steps_full n s e)))

  -- ---- a loop that fills a buffer with the samples, one a turn

  -- after i turns from s₀ it has come to s, and the samples made stand in `out`, over what stood there
  pub record Reached (i : ℕ) (s₀ s : State) (out before : List Sample) : Type 0 where
    pub run : steps step i s₀ ≡ running (steps step i s₀).made s
    pub stand : out ≡ over (steps step i s₀).made i before

  reached_count : (i : ℕ) (s₀ s : State) → steps step i s₀ ≡ running (steps step i s₀).made s → length (steps step i s₀).made ≡ i
  reached_count i s₀ s e = steps_full i s₀ (ap (λ (r : Run State Sample). r.is_dry) e)

  pub reached_none : (s : State) (out : List Sample) → Reached 0 s s out out
  unfolding steps
  reached_none s out = record { run = refl; stand = refl }

  pub reached_more : (i : ℕ) (s₀ s t : State) (out before : List Sample) (x : Sample)
      → Reached i s₀ s out before → step s ≡ one x t → i < length before → Reached (i + 1) s₀ t (set out i x) before
  reached_more i s₀ s t out before x r h l =
      let xs = (steps step i s₀).made in
      let e = turn_one i s₀ s xs x t r.run h in
      let made : (steps step (i + 1) s₀).made ≡ xs ++ (x ∷ []) = ap (λ (q : Run State Sample). q.made) e in
      record {
        run = e ∙ ap (λ (ys : List Sample). running ys t) (sym made);
        stand = ap (λ (o : List Sample). set o i x) r.stand ∙ over_more xs before i x (reached_count i s₀ s r.run) l ∙ ap (λ (ys : List Sample). over ys (i + 1) before) (sym made);
      }

  -- what such a loop answers for n steps: the state after them, how many samples there are, and the buffer
  abbrev pub Filled : ℕ → State → State → ℕ → List Sample → List Sample → Type 0
  Filled n s₀ s i out before = (s ≡ (steps step n s₀).state) × (i ≡ length (steps step n s₀).made) × (out ≡ over (steps step n s₀).made i before)

  pub reached_end : (i n : ℕ) (s₀ s : State) (out before : List Sample) → Reached i s₀ s out before → i ≡ n → Filled n s₀ s i out before
  reached_end i n s₀ s out before r e =
      let all : Filled i s₀ s i out before = (sym (ap (λ (q : Run State Sample). q.state) r.run), sym (reached_count i s₀ s r.run), r.stand) in
      subst (λ (m : ℕ). Filled m s₀ s i out before) e all

  pub reached_dry : (i n : ℕ) (s₀ s : State) (out before : List Sample) → Reached i s₀ s out before → i < n → step s ≡ dry → Filled n s₀ s i out before
  reached_dry i n s₀ s out before r l h =
      let e = turn_dry i n s₀ s (steps step i s₀).made l r.run h in
      let made : (steps step n s₀).made ≡ (steps step i s₀).made = ap (λ (q : Run State Sample). q.made) e in
      (sym (ap (λ (q : Run State Sample). q.state) e), rw made (sym (reached_count i s₀ s r.run)), rw made r.stand)
