-- A buffer that a machine fills piece by piece. Assumes nothing.
use mathlib.Core.Path.{◌≡◌, refl, sym, ap, ◌∙◌}
use mathlib.Core.List.{List, ◌++◌, append_assoc}
use mathlib.Core.Bool.{true, false}
use Prim.Native.Nat.{ℕ, ◌+◌, ◌-◌, ◌≤◌, ◌<◌}
use native.Mathlib.Omega.{arith}
use lib.ListN.{length, take, drop, length-append, length-drop, take-append-drop}
use lib.Seq.{drop-drop, take_at, drop_at, drop-append-le}
use lib.Ieee.{Float}
use borrow.Author.Tests.{lt-ltb, le-ltb}
use Rattle.number.specs.Lists.{over, row, put_row}
use Rattle.number.proofs.Lists.{length_row}
use Rattle.history.specs.Steps.{Step, Run, running, joined, steps, continued}
use Rattle.history.proofs.StepLaws.{steps_cut, steps_dry, Reached, reached_end, Filled}
use Rattle.excitation.specs.Excitation.{Excitation}
use Rattle.excitation.specs.Window.{Stretches}

-- m more, in the front of a part that is lent and given back
part_filled : {A : Type 0} (xs ys out before : List A) (i e m : ℕ) → length xs ≡ i → out ≡ over xs i before → m ≤ length (row i e out)
    → put_row i e (over ys m (row i e out)) out ≡ over (xs ++ ys) (i + m) before
part_filled {A} xs ys out before i e m count stand few =
    let rest : drop i out ≡ drop i before = ap (drop i) stand ∙ drop_at xs (drop i before) i count in
    let front : take i out ≡ xs = ap (take i) stand ∙ take_at xs (drop i before) i count in
    let both : over ys m (row i e out) ++ drop (e - i) (drop i out) ≡ ys ++ drop m (drop i out) =
    append_assoc ys (drop m (row i e out)) (drop (e - i) (drop i out))
    ∙ ap (λ (l : List A). ys ++ l) (sym (drop-append-le m (row i e out) (drop (e - i) (drop i out)) few) ∙ ap (drop m) (take-append-drop (e - i) (drop i out))) in
    ap (λ (l : List A). take i out ++ l) both ∙ rw (front, rest, drop-drop m i before) (sym (append_assoc xs ys (drop (i + m) before)))

module _ {State Sample : Type 0} (step : State → Step State Sample) (i e m : ℕ) (s₀ s t : State) (out before part : List Sample)
    (r : Reached step i s₀ s out before) (ie : i ≤ e) (eo : e ≤ length out)
    (state : t ≡ (steps step (length (row i e out)) s).state) (count : m ≡ length (steps step (length (row i e out)) s).made)
    (stand : part ≡ over (steps step (length (row i e out)) s).made m (row i e out)) (few : m ≤ length (row i e out)) where
  -- the samples before the piece, and the run of the piece
  made : List Sample
  made = (steps step i s₀).made

  run : Run State Sample
  run = steps step (length (row i e out)) s

  made_count : i ≡ length made
  unfolding made
  made_count = (reached_end step i i s₀ s out before r refl).1

  to_here : steps step (i + length (row i e out)) s₀ ≡ joined made run
  unfolding made run
  to_here = steps_cut step i (length (row i e out)) s₀ ∙ rw r.run refl

  stands : put_row i e part out ≡ over (made ++ run.made) (i + m) before
  unfolding made run
  stands = ap (λ (l : List Sample). put_row i e l out) stand ∙ part_filled made run.made out before i e m (sym made_count) r.stand few

  -- a piece that is full
  pub piece_full : m ≡ length (row i e out) → Reached step (i + m) s₀ t (put_row i e part out) before
  unfolding run
  piece_full full =
      let wet : run.is_dry ≡ false = steps_dry step (length (row i e out)) s ∙ le-ltb (length run.made) (length (row i e out)) (omega (arith, count)) in
      let all : steps step (i + m) s₀ ≡ joined made run = ap (λ (k : ℕ). steps step (i + k) s₀) full ∙ to_here in
      let known : (steps step (i + m) s₀).made ≡ made ++ run.made = ap (λ (q : Run State Sample). q.made) all in
      let there : joined made run ≡ running (made ++ run.made) t = λ j. record { made = made ++ run.made; state = sym state j; is_dry = wet j } in
      record {
        run = all ∙ there ∙ ap (λ (ys : List Sample). running ys t) (sym known);
        stand = stands ∙ ap (λ (ys : List Sample). over ys (i + m) before) (sym known);
      }

  -- a piece that is not: the machine is dry
  pub piece_dry : (n : ℕ) → e ≤ n → m < length (row i e out) → Filled step n s₀ t (i + m) (put_row i e part out) before
  unfolding run
  piece_dry n en less =
      let long : length (row i e out) ≡ e - i = length_row i e out ie eo in
      let sum : n ≡ i + length (row i e out) + (n - e) = omega arith in
      let dry : run.is_dry ≡ true = steps_dry step (length (row i e out)) s ∙ lt-ltb (length run.made) (length (row i e out)) (omega (arith, count)) in
      let all : steps step n s₀ ≡ joined made run =
      ap (λ (k : ℕ). steps step k s₀) sum ∙ steps_cut step (i + length (row i e out)) (n - e) s₀ ∙ ap (λ (q : Run State Sample). continued q (steps step (n - e))) to_here ∙ rw dry refl in
      let known : (steps step n s₀).made ≡ made ++ run.made = ap (λ (q : Run State Sample). q.made) all in (
        state ∙ sym (ap (λ (q : Run State Sample). q.state) all),
        rw known (simp length-append (omega (arith, made_count, count))),
        stands ∙ ap (λ (ys : List Sample). over ys (i + m) before) (sym known),
      )

-- no more samples than there is room for
pub few : {lpf : List Float} {first last : Excitation} {made : ℕ} {before out : List Float} → Stretches lpf first last made before out → length out ≡ length before → made ≤ length before
few s e = omega (arith, simp (length-append, length-drop) at (ap length s.stand), s.count, e)
