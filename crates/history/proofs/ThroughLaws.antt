-- Samples may be turned in parts, cut anywhere, in the buffer that they stand in, and by one machine before another. Assumes nothing.
use mathlib.Core.Path.{◌≡◌, refl, sym, ap, ◌∙◌}
use mathlib.Core.List.{List, [], ◌∷◌, ◌++◌, append-nil, append_assoc}
use Prim.Native.Nat.{ℕ, suc, ◌+◌, ◌-◌, ◌≤◌, ◌<◌}
use native.Mathlib.Omega.{arith}
use native.Mathlib.Nat.{le_refl}
use native.Mathlib.Numerals.{add-one}
use lib.ListN.{length, get_or, take, drop, set, take-append-drop, length-append, length-take}
use lib.Seq.{take_all, take_at, take-suc-set, drop-drop, drop-set-lt, append_snoc}
use Rattle.number.proofs.Lists.{row, put_row, put_row_rest, put_row_after, length_row, length_put_row, left_next, left_none}
use Rattle.history.specs.Through.{Turned, Passage, passage, ◌before◌, through}

module _ {State Sample : Type 0} (turn : State → Sample → Turned State Sample) where
  -- THE CUT: xs and then ys are xs ++ ys, from the state that xs led to.
  pub through_cut : (s : State) (xs ys : List Sample)
      → through turn s (xs ++ ys) ≡ (through turn s xs).made before through turn (through turn s xs).state ys
  unfolding through
  through_cut s [] ys = refl
  through_cut s (x ∷ xs) ys = ap (λ (p : Passage State Sample). ((turn s x).sample ∷ []) before p) (through_cut (turn s x).state xs ys)

  -- as many samples come out as went in
  pub through_length : (s : State) (xs : List Sample) → length (through turn s xs).made ≡ length xs
  unfolding through
  through_length s [] = refl
  through_length s (x ∷ xs) = ap suc (through_length (turn s x).state xs)

  -- ---- a loop that turns the samples of a buffer in place, one or more a turn

  -- what it has come to at i: the samples before i are done, and the others are still to be turned from s on
  unfoldable pub from_here : ℕ → State → List Sample → Passage State Sample
  from_here i s d = take i d before through turn s (drop i d)

  pub through_turn : (i : ℕ) (s : State) (d : List Sample) (z : Sample) (t : Turned State Sample)
      → i < length d → t ≡ turn s (get_or d i z) → from_here (i + 1) t.state (set d i t.sample) ≡ from_here i s d
  unfolding from_here through
  through_turn i s d z t h e =
      rw (left_next d i z h, ← e, add-one i, take-suc-set d i t.sample h, drop-set-lt (suc i) d i t.sample (le_refl (suc i)))
      (ap (λ (l : List Sample). passage l (through turn t.state (drop (suc i) d)).state) (append_snoc (take i d) t.sample (through turn t.state (drop (suc i) d)).made))

  pub through_all : (s : State) (d : List Sample) → from_here 0 s d ≡ through turn s d
  unfolding from_here
  through_all s d = refl

  pub through_end : (i : ℕ) (s : State) (d : List Sample) → length d ≤ i → from_here i s d ≡ passage d s
  unfolding from_here through
  through_end i s d h = rw (left_none d i h, take_all i d h) (ap (λ (l : List Sample). passage l s) (append-nil d))

  block_long : (i e : ℕ) (s t : State) (d xs : List Sample) → i ≤ e → e ≤ length d → passage xs t ≡ through turn s (row i e d) → length xs ≡ e - i
  block_long i e s t d xs up h made = ap (λ (p : Passage State Sample). length p.made) made ∙ through_length s (row i e d) ∙ length_row i e d up h

  -- the samples from i up to e at once, which are put back into their row
  pub through_block : (i e : ℕ) (s t : State) (d xs : List Sample) → i ≤ e → e ≤ length d
      → passage xs t ≡ through turn s (row i e d) → from_here e t (put_row i e xs d) ≡ from_here i s d
  unfolding from_here
  through_block i e s t d xs up h made =
      let long = block_long i e s t d xs up h made in
      let front : length (take i d ++ xs) ≡ e = simp (length-append, length-take) (omega (arith, long)) in
      let begins : take e (put_row i e xs d) ≡ take i d ++ xs = rw (put_row_rest i e d up xs, ← append_assoc (take i d) xs (drop e d)) (take_at (take i d ++ xs) (drop e d) e front) in
      let there : i + (e - i) ≡ e = omega arith in
      let rest : drop (e - i) (drop i d) ≡ drop e d = drop-drop (e - i) i d ∙ ap (λ (j : ℕ). drop j d) there in
      let cut = through_cut s (row i e d) (drop (e - i) (drop i d)) in
      let all = rw (take-append-drop (e - i) (drop i d), ← made, rest) at cut in
      rw (begins, put_row_after i e d up h xs long, all) (ap (λ (l : List Sample). passage l (through turn t (drop e d)).state) (append_assoc (take i d) xs (through turn t (drop e d)).made))

  -- such a block leaves the buffer as long as it was
  pub length_block : (i e : ℕ) (s t : State) (d xs : List Sample) → i ≤ e → e ≤ length d
      → passage xs t ≡ through turn s (row i e d) → length (put_row i e xs d) ≡ length d
  length_block i e s t d xs up h made = length_put_row i e d up h xs (block_long i e s t d xs up h made)

  -- THE CUT in a buffer: the samples before a, and then the others, are all of them
  pub through_parts : (s t u : State) (a : ℕ) (d xs ys : List Sample) → a ≤ length d
      → passage xs t ≡ through turn s (row 0 a d)
      → passage ys u ≡ through turn t (row a (length d) (put_row 0 a xs d))
      → passage (put_row a (length d) ys (put_row 0 a xs d)) u ≡ through turn s d
  through_parts s t u a d xs ys h first second =
      let same = length_block 0 a s t d xs (omega arith) h first in
      let end = length_block a (length d) t u (put_row 0 a xs d) ys h (omega (arith, same)) second in
      sym (through_end (length d) u (put_row a (length d) ys (put_row 0 a xs d)) (omega (arith, same, end)))
      ∙ through_block a (length d) t u (put_row 0 a xs d) ys h (omega (arith, same)) second
      ∙ through_block 0 a s t d xs (omega arith) h first
      ∙ through_all s d

-- ONE MACHINE BEFORE ANOTHER: where a turn of both is a turn of one, whose state is a part of the whole, and then a turn of the other, all samples may go
-- through the one and then through the other
pub through_both : {A B Sample : Type 0} (one : A → Sample → Turned A Sample) (other both : B → Sample → Turned B Sample) (part : B → A)
    → ((b : B) (x : Sample) → both b x ≡ other b (one (part b) x).sample)
    → ((b : B) (x : Sample) → part (both b x).state ≡ (one (part b) x).state)
    → (b : B) (xs : List Sample) → through both b xs ≡ through other b (through one (part b) xs).made
unfolding through
through_both one other both part turn on b [] = refl
through_both one other both part turn on b (x ∷ xs) = rw (through_both one other both part turn on (both b x).state xs, on b x, turn b x) refl
