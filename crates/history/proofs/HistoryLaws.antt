-- Demand 3 and the law of older saves hold of document 01's answers, for every machine that keeps the laws. Assumes nothing.
use mathlib.Core.Path.{◌≡◌, refl, sym, subst}
use mathlib.Core.List.{List, [], ◌∷◌}
use Prim.Native.Nat.{ℕ}
use native.Mathlib.Omega.{arith}
use Rattle.history.specs.Machine.{Machine, Answer}
use Rattle.history.specs.History.{Calls, Call, told, Smooth, Demand3, answered}
use Rattle.history.specs.Older.{Alike, GoesOn, Older}
use Rattle.history.proofs.WalkLaws.{Walk, walk_uncut, walk_samples, walk_state}
use Rattle.history.proofs.CallLaws.{Laws, Carried, stays, carried_on, carried}

module _ {M : Machine} (K : Calls M) (L : Laws K) where
  open M use {State, Sample}

  -- a smooth history
  carried_all : (h : List (Call K)) (s : State) → L.Good s → Smooth K (answered K) h s
      → let t = told K (answered K) h s in Carried K L s t.frames t.made t.state
  unfolding told Smooth
  carried_all [] s g ok = stays K L s g
  carried_all (c ∷ h) s g ok =
      let first = carried K L c s g ok.0 in
      carried_on K L first (carried_all h (answered K c s).state first.good ok.1)

  pub demand_3 : Demand3 K (answered K)
  unfolding Demand3
  demand_3 c h can o ok =
      let l = L.opens c can o in
      let r = carried_all h (K.opened c).state l.0 ok in
      (λ e. walk_uncut M r.walk l.1 e, omega (arith, r.counted))

  -- two smooth histories from one good state by the same frames
  pub alike : (s : State) (h k : List (Call K)) → L.Good s → Smooth K (answered K) h s → Smooth K (answered K) k s
      → let t = told K (answered K) h s in let u = told K (answered K) k s in
      t.frames ≡ u.frames → Alike K s t u
  alike s h k g p q e =
      let t = told K (answered K) h s in
      let v = carried_all h s g p in
      let w = carried_all k s g q in
      let walk : Walk M s (told K (answered K) k s).frames t.made t.state = rw e at v.walk in
      record { readings = (v.counted, w.counted); samples = walk_samples M walk w.walk; states = walk_state M walk w.walk refl refl }

  -- a save of a good state that was done, restored into any voice
  pub again : (room : ℕ) (s into : State) (onward again : List (Call K)) → L.Good s → (K.saved room s).number ≡ 0
      → GoesOn K (answered K) s (K.restored (K.saved room s).bytes into) onward again
  again room s into h k g e =
      subst (λ (b : Answer State Sample). GoesOn K (answered K) s b h k) (sym (L.keeps room s into g e)) (λ p q. (refl, alike s h k g p q))

  pub older : Older K (answered K)
  unfolding Older
  older c before h k room into can o ok =
      let r = carried_all before (K.opened c).state (L.opens c can o).0 ok in
      again room (told K (answered K) before (K.opened c).state).state into h k r.good
