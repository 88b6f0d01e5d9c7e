-- DEMAND 3 HOLDS OF THE VOICE, and the law of older saves. Assumes nothing.
use mathlib.Core.Path.{◌≡◌, refl, sym, ◌∙◌, ap, subst}
use mathlib.Core.Bool.{Bool, true, false}
use mathlib.Core.List.{List, []}
use Prim.Native.Nat.{ℕ, ◌+◌, ◌<◌}
use native.Mathlib.Omega.{arith}
use lib.Ieee.{Float}
use Rattle.history.specs.Steps.{one}
use Rattle.history.specs.Machine.{answer}
use Rattle.history.proofs.CallLaws.{Laws}
use Rattle.history.proofs.HistoryLaws.{demand_3, older}
use Rattle.noise.specs.Draw.{tries}
use Rattle.configuration.specs.declared.Configuration.{Configuration}
use Rattle.configuration.specs.Limits.{limits_kept}
use Rattle.configuration.proofs.LimitsLaws.{sizes}
use Rattle.voice.specs.declared.Voice.{Voice}
use Rattle.voice.specs.Voice.{at_rest, fresh_voice, idle}
use Rattle.voice.specs.Open.{open_number, opened_voice}
use Rattle.refusing.specs.Refusal.{Frame}
use Rattle.giving.specs.Give.{refusal, given}
use Rattle.drawing.specs.Step.{step}
use Rattle.held.specs.Held.{HeldConfiguration, HeldFrame}
use Rattle.rest.specs.Rest.{save_number, written_by, saved, accepted, restored}
use Rattle.stream.specs.Stream.{voice_calls, VoiceDemand3, VoiceOlder}
use Rattle.stream.proofs.UsableLaws.{given_kept, step_usable}
use Rattle.stream.proofs.TripLaws.{Good, limits, restore_saved}
use Rattle.stream.proofs.GoodLaws.{fresh_good, given_good, step_good}

-- ---- what the voice supplies

opened_kept : (c : Configuration) → open_number c ≡ 0 → limits_kept c ≡ true
opened_kept c e = go (limits_kept c) refl
  where
    go : (b : Bool) → limits_kept c ≡ b → limits_kept c ≡ true
    go true h = h
    go false h = let z : ◌≡◌ {A = ℕ} 1 0 = rw h at e in absurd (omega (arith, z))

opens : (c : Configuration) → HeldConfiguration c → open_number c ≡ 0 → Good (opened_voice c) × ((opened_voice c).left ≡ 0) × ((opened_voice c).meter ≡ 0)
unfolding at_rest
opens c h e =
    let kept = opened_kept c e in
    let fresh : opened_voice c ≡ fresh_voice c = rw kept refl in
    (subst Good (sym fresh) (fresh_good c h kept), ap (λ (v : Voice). v.left) fresh, ap (λ (v : Voice). v.meter) fresh)

gives : (f : Frame) (v : Voice) → Good v → HeldFrame f → refusal f v ≡ 0
    → let t = given f v in
    (v.left ≡ 0) × Good t × (idle t ≡ false) × (t.left ≡ t.configuration.fperiod) × (0 < t.left) × (t.meter ≡ v.meter)
gives f v g k e =
    let kept = given_kept f v e in
    let good = given_good f v k g e in
    let least = (sizes v.configuration (limits v g)).fperiod_least in
    let some : 0 < (given f v).left = omega (arith, kept.1, least) in
    (kept.0, good, good.usable, kept.1 ∙ ap (λ (c : Configuration). c.fperiod) (sym kept.3), some, kept.2)

samples : (bound : ℕ) (v : Voice) (x : Float) (t : Voice) → Good v → 0 < v.left → step bound v ≡ one x t → Good t × (t.left + 1 ≡ v.left) × (t.meter ≡ v.meter + 1)
samples bound v x t g some e =
    let moved = step_usable bound v t x g.usable some e in
    (step_good bound v t x g some e, moved.1, moved.2)

keeps : (room : ℕ) (v into : Voice) → Good v → save_number room v ≡ 0 → restored (saved room v).bytes into ≡ answer 0 [] v
keeps room v into g e = ap (λ (n : ℕ). restored (written_by n v) into) e ∙ restore_saved v g into

rejects : (b : List ℕ) (v : Voice) → Good v → ((restored b v).number ≡ 0 → ⊥) → restored b v ≡ answer (restored b v).number [] v
unfolding restored
rejects b v g never = go (accepted b) refl
  where
    go : (t : Bool) → accepted b ≡ t → restored b v ≡ answer (restored b v).number [] v
    go true e = absurd (never (rw e refl))
    go false e = rw e refl

voice_laws : (bound : ℕ) → Laws (voice_calls bound)
voice_laws bound = record { Good = Good; opens = opens; gives = gives; samples = samples bound; keeps = keeps; rejects = rejects }

-- ---- THE THEOREMS

pub voice_demand_3 : VoiceDemand3
voice_demand_3 = demand_3 (voice_calls tries) (voice_laws tries)

pub voice_older : VoiceOlder
voice_older = older (voice_calls tries) (voice_laws tries)
