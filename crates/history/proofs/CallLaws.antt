-- What a machine must supply for demand 3, and what each of document 01's answers then comes to. Assumes nothing.
use mathlib.Core.Path.{◌≡◌, refl}
use mathlib.Core.List.{List, [], ◌∷◌, ◌++◌}
use mathlib.Core.Bool.{Bool, true, false}
use Prim.Native.Nat.{ℕ, zero, suc, ◌+◌, ◌<◌, ◌≤◌, min}
use native.Mathlib.Omega.{arith}
use borrow.Author.Tests.{ne_eqb}
use lib.ListN.{length, length-append}
use Rattle.history.specs.Numbers.{done, noise_dry}
use Rattle.history.specs.Steps.{Step, dry, one, onward, steps}
use Rattle.history.specs.Machine.{Machine, Answer, answer, unless, sampled, gave, draw_refusal, drew, whole_refusal, whole}
use Rattle.history.specs.History.{Calls, Call, give, draw, whole_frame, save, restore, resume, accepted_by, accepted, Fine, answered}
use Rattle.history.proofs.WalkLaws.{Walk, here, sample, frame, walk_on}

-- WHAT A MACHINE MUST SUPPLY. Good is any property of states that open, give and each sample keep.
pub record Laws {M : Machine} (K : Calls M) : Type 1 where
  pub Good : M.State → Type 0
  -- a voice just opened has nothing left and 0 on its meter
  pub opens : (c : K.Configuration) → K.openable c → (K.opened c).number ≡ 0 → let s = (K.opened c).state in Good s × (M.left s ≡ 0) × (K.meter s ≡ 0)
  -- an accepted frame finds nothing left, leaves fperiod samples, one at least, to a voice that can be drawn from, and the meter as it was
  pub gives : (f : M.Frame) (s : M.State) → Good s → K.givable f → M.refusal f s ≡ 0
      → let t = M.given f s in
      (M.left s ≡ 0) × Good t × (M.idle t ≡ false) × (M.left t ≡ M.fperiod t) × (0 < M.left t) × (K.meter t ≡ K.meter s)
  -- a sample takes one from what is left and adds one to the meter
  pub samples : (s : M.State) (x : M.Sample) (t : M.State) → Good s → 0 < M.left s → M.step s ≡ one x t
      → Good t × (M.left t + 1 ≡ M.left s) × (K.meter t ≡ K.meter s + 1)
  -- what was saved, restored into any voice, is the voice that was saved
  pub keeps : (room : ℕ) (s into : M.State) → Good s → (K.saved room s).number ≡ 0 → K.restored (K.saved room s).bytes into ≡ answer 0 [] s
  -- a refused restore changes nothing
  pub rejects : (b : K.Bytes) (s : M.State) → Good s → ((K.restored b s).number ≡ 0 → ⊥) → K.restored b s ≡ answer (K.restored b s).number [] s

module _ {M : Machine} (K : Calls M) (L : Laws K) where
  open M use {State, Frame, Sample, left, step}
  open K use {meter}

  -- from s by frames and samples to t: a walk, with the meter counting the samples
  pub record Carried (s : State) (fs : List Frame) (xs : List Sample) (t : State) : Type 0 where
    pub good : L.Good t
    pub walk : Walk M s fs xs t
    pub counted : meter t ≡ meter s + length xs

  pub stays : (s : State) → L.Good s → Carried s [] [] s
  stays s g = record { good = g; walk = here; counted = omega arith }

  pub carried_on : {s t u : State} {fs gs : List Frame} {xs ys : List Sample} → Carried s fs xs t → Carried t gs ys u → Carried s (fs ++ gs) (xs ++ ys) u
  carried_on p q = record { good = q.good; walk = walk_on M p.walk q.walk; counted = simp length-append (omega (arith, p.counted, q.counted)) }

  -- n samples of those that are left, none dry
  Ran : ℕ → State → Type 0
  Ran n s = L.Good s → n ≤ left s → (steps step n s).is_dry ≡ false → Carried s [] (steps step n s).made (steps step n s).state

  ran_one : (n : ℕ) → ((u : State) → Ran n u) → (s : State) (t : Step State Sample) → step s ≡ t → L.Good s → suc n ≤ left s
      → let r = onward t s (steps step n) in r.is_dry ≡ false → Carried s [] r.made r.state
  unfolding Ran
  ran_one n ran s dry q g h e = absurd (let z : ◌≡◌ {A = ℕ} 0 1 = cc in omega arith)
  ran_one n ran s (one x u) q g h e =
      let l = L.samples s x u g (omega arith) q in
      let r = ran u l.0 (omega arith) e in
      record { good = r.good; walk = sample {s = s} {u = u} (omega arith) q r.walk; counted = omega (arith, r.counted) }

  ran : (n : ℕ) (s : State) → Ran n s
  unfolding steps Ran
  ran zero s g h e = stays s g
  ran (suc n) s g h e = ran_one n (ran n) s (step s) refl g h e

  -- as many as a draw asks for, where it does not answer 11
  all_ran : (n : ℕ) (s : State) → L.Good s → n ≤ left s
      → let a = sampled (steps step n s) in (a.number ≡ noise_dry → ⊥) → (a.number ≡ done) × Carried s [] a.made a.state
  unfolding Ran
  all_ran n s g h = go (steps step n s).is_dry refl
    where
      a : Answer State Sample
      a = sampled (steps step n s)

      go : (b : Bool) → (steps step n s).is_dry ≡ b → (a.number ≡ noise_dry → ⊥) → (a.number ≡ done) × Carried s [] a.made a.state
      go true d q = absurd (q (rw d refl))
      go false d q = (rw d refl, ran n s g h d)

  -- an answer to a call that accepts f where its number is 0
  abbrev Offers : Frame → State → Answer State Sample → Type 0
  Offers f s a = Carried s (accepted_by K a.number f) a.made a.state

  took : (f : Frame) (s : State) → L.Good s → K.givable f → M.refusal f s ≡ 0 → Carried s (f ∷ []) [] (M.given f s)
  took f s g i e =
      let l = L.gives f s g i e in
      record { good = l.1; walk = frame l.0 e l.3 here; counted = omega arith }

  -- what a draw answers just after
  drew_after : (f : Frame) (room : ℕ) (s : State) → L.Good s → K.givable f → M.refusal f s ≡ 0
      → let v = M.given f s in drew M room v ≡ sampled (steps step (min room (left v)) v)
  unfolding drew
  drew_after f room s g i e =
      let l = L.gives f s g i e in
      rw (l.2, ne_eqb (left (M.given f s)) 0 (λ z. omega arith)) refl

  took_and_drew : (f : Frame) (room : ℕ) (s : State) → L.Good s → K.givable f → M.refusal f s ≡ 0
      → let a = drew M room (M.given f s) in (a.number ≡ noise_dry → ⊥) → Offers f s a
  took_and_drew f room s g i e ok =
      let v = M.given f s in
      let is = drew_after f room s g i e in
      let r = all_ran (min room (left v)) v (L.gives f s g i e).1 (omega arith) (rw is at ok) in
      rw (is, r.0) (carried_on (took f s g i e) r.1)

  -- each call, answered as in document 01
  pub carried : (c : Call K) (s : State) → L.Good s → let a = answered K c s in Fine K c a.number → Carried s (accepted K c a.number) a.made a.state
  unfolding answered gave drew whole
  carried (give f) s g ok = go (M.refusal f s) refl
    where
      go : (n : ℕ) → M.refusal f s ≡ n → Offers f s (unless n s (answer done [] (M.given f s)))
      go zero e = took f s g ok e
      go (suc n) e = stays s g
  carried (draw room) s g ok = go (draw_refusal M s) ok
    where
      a : ℕ → Answer State Sample
      a n = unless n s (sampled (steps step (min room (left s)) s))

      go : (n : ℕ) → ((a n).number ≡ noise_dry → ⊥) → Carried s [] (a n).made (a n).state
      go zero q = (all_ran (min room (left s)) s g (omega arith) q).1
      go (suc n) q = stays s g
  carried (whole_frame f room) s g ok = go (whole_refusal M room s) (M.refusal f s) refl ok.1
    where
      a : ℕ → ℕ → Answer State Sample
      a m n = let v : Answer State Sample = unless n s (answer done [] (M.given f s)) in unless m s (unless v.number v.state (drew M room v.state))

      go : (m n : ℕ) → M.refusal f s ≡ n → ((a m n).number ≡ noise_dry → ⊥) → Offers f s (a m n)
      go (suc m) n e q = stays s g
      go zero (suc n) e q = stays s g
      go zero zero e q = took_and_drew f room s g ok.0 e q
  carried (save room) s g ok = stays s g
  carried (restore b) s g ok = rw (L.rejects b s g ok) (stays s g)
  carried (resume room into) s g ok = go (K.saved room s).number refl
    where
      a : ℕ → Answer State Sample
      a n = unless n s (K.restored (K.saved room s).bytes into)

      go : (n : ℕ) → (K.saved room s).number ≡ n → Carried s [] (a n).made (a n).state
      go zero e = rw (L.keeps room s into g e) (stays s g)
      go (suc n) e = stays s g
