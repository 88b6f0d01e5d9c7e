-- A walk of a machine, sample by sample and frame by frame: it is a part of the uncut run, and its frames and its count decide where it ends. Assumes nothing.
use mathlib.Core.Path.{◌≡◌, refl, sym, ap, ◌∙◌}
use mathlib.Core.List.{List, [], ◌∷◌, ◌++◌, append-nil}
use Prim.Native.Nat.{ℕ, zero, suc, ◌<◌}
use native.Mathlib.Omega.{arith}
use lib.ListN.{length, get_or, get_or-append}
use Rattle.history.specs.Steps.{one, steps}
use Rattle.history.specs.Machine.{Machine, Answer, answer, sampled, gave}
use Rattle.history.specs.History.{preceded, onwards, ◌then◌, framed, uncut}

-- a sample in front may be joined before or after what follows
one_before : {State Sample : Type 0} (x : Sample) (n : ℕ) (a : Answer State Sample) (follows : State → Answer State Sample)
    → onwards n (preceded (x ∷ []) a) follows ≡ preceded (x ∷ []) (onwards n a follows)
one_before x zero a follows = refl
one_before x (suc n) a follows = refl

module _ (M : Machine) where
  open M use {State, Frame, Sample, left, fperiod, refusal, given, step}

  -- from one state to another, by these frames and these samples
  pub data Walk : State → List Frame → List Sample → State → Type 0 where
    here : {s : State} → Walk s [] [] s
    sample : {s u t : State} {x : Sample} {fs : List Frame} {xs : List Sample} → left s ≡ suc (left u) → step s ≡ one x u → Walk u fs xs t → Walk s fs (x ∷ xs) t
    frame : {s t : State} {f : Frame} {fs : List Frame} {xs : List Sample} → left s ≡ 0 → refusal f s ≡ 0 → left (given f s) ≡ fperiod (given f s)
        → Walk (given f s) fs xs t → Walk s (f ∷ fs) xs t

  pub walk_on : {s t u : State} {fs gs : List Frame} {xs ys : List Sample} → Walk s fs xs t → Walk t gs ys u → Walk s (fs ++ gs) (xs ++ ys) u
  walk_on here w = w
  walk_on (sample l e v) w = sample l e (walk_on v w)
  walk_on (frame l r p v) w = frame l r p (walk_on v w)

  -- what is left of the frame at s, and then frames, run uncut
  unfoldable pub rest : List Frame → State → Answer State Sample
  rest fs s = sampled (steps step (left s) s) then uncut M fs

  pub rest_none : (fs : List Frame) (s : State) → left s ≡ 0 → rest fs s ≡ uncut M fs s
  unfolding rest steps
  rest_none fs s e = rw e refl

  rest_sample : (fs : List Frame) (s u : State) (x : Sample) → left s ≡ suc (left u) → step s ≡ one x u → rest fs s ≡ preceded (x ∷ []) (rest fs u)
  unfolding rest steps
  rest_sample fs s u x l e = rw (l, e) (one_before x (sampled (steps step (left u) u)).number (sampled (steps step (left u) u)) (uncut M fs))

  rest_frame : (fs : List Frame) (s : State) (f : Frame) → left s ≡ 0 → refusal f s ≡ 0 → left (given f s) ≡ fperiod (given f s) → rest (f ∷ fs) s ≡ rest fs (given f s)
  unfolding rest uncut framed gave steps
  rest_frame fs s f l r p = rw (l, r, p) refl

  -- THE CORE: what is left at s, the frames of a walk and more, run uncut, is the walk's samples and then the same from its end.
  pub walk_rest : {s t : State} {fs : List Frame} {xs : List Sample} → Walk s fs xs t → (gs : List Frame) → rest (fs ++ gs) s ≡ preceded xs (rest gs t)
  walk_rest here gs = refl
  walk_rest {s = s} (sample {u = u} {x = x} {fs = fs} l e w) gs = rest_sample (fs ++ gs) s u x l e ∙ ap (preceded (x ∷ [])) (walk_rest w gs)
  walk_rest {s = s} (frame {f = f} {fs = fs} l r p w) gs = rest_frame (fs ++ gs) s f l r p ∙ walk_rest w gs

  -- with nothing left at both ends the frames, uncut, are the whole of it
  pub walk_uncut : {s t : State} {fs : List Frame} {xs : List Sample} → Walk s fs xs t → left s ≡ 0 → left t ≡ 0 → uncut M fs s ≡ answer 0 xs t
  unfolding uncut
  walk_uncut {s} {t} {fs} {xs} w l e =
      sym (rest_none fs s l)
      ∙ ap (λ (gs : List Frame). rest gs s) (sym (append-nil fs))
      ∙ walk_rest w []
      ∙ ap (preceded xs) (rest_none [] t e)
      ∙ ap (λ (ys : List Sample). answer 0 ys t) (append-nil xs)

  -- two walks from one state by the same frames make the same samples, as far as both go
  pub walk_samples : {s t u : State} {fs : List Frame} {xs ys : List Sample} → Walk s fs xs t → Walk s fs ys u
      → (i : ℕ) (z : Sample) → i < length xs → i < length ys → get_or xs i z ≡ get_or ys i z
  walk_samples {s} {t} {u} {fs} {xs} {ys} v w i z h k =
      sym (get_or-append xs (rest [] t).made z i h)
      ∙ ap (λ (a : Answer State Sample). get_or a.made i z) (sym (walk_rest v []) ∙ walk_rest w [])
      ∙ get_or-append ys (rest [] u).made z i k

  -- and where they have made as many, they have come to the same state
  pub walk_state : {s s' t u : State} {fs gs : List Frame} {xs ys : List Sample} → Walk s fs xs t → Walk s' gs ys u
      → s ≡ s' → fs ≡ gs → length xs ≡ length ys → t ≡ u
  walk_state here here e f n = e
  walk_state here (sample m d w) e f n = absurd (omega arith)
  walk_state here (frame m q p' w) e f n = absurd (let z : ◌≡◌ {A = ℕ} 0 1 = cc in omega arith)
  walk_state (sample l c v) here e f n = absurd (omega arith)
  walk_state (sample l c v) (sample m d w) e f n = walk_state v w (cc) f (omega arith)
  walk_state {s} {s'} (sample l c v) (frame m q p' w) e f n = absurd (omega (arith, ap left e))
  walk_state (frame l r p v) here e f n = absurd (let z : ◌≡◌ {A = ℕ} 0 1 = cc in omega arith)
  walk_state {s} {s'} (frame l r p v) (sample m d w) e f n = absurd (omega (arith, ap left e))
  walk_state (frame l r p v) (frame m q p' w) e f n = walk_state v w (cc) (cc) n
