-- A voice that is not idle stays so: fresh, after a frame, and after a sample. Assumes nothing.
use mathlib.Core.Path.{◌≡◌, refl, ap}
use mathlib.Core.Bool.{Bool, true, false, not, ◌&&◌, ◌||◌}
use Prim.Native.Nat.{ℕ, ◌+◌, ◌-◌, ◌%◌, ◌≤◌, ◌<◌}
use native.Mathlib.Nat.{zero-mod}
use native.Mathlib.Omega.{arith}
use lib.Dec.{eqb, leb}
use lib.Ieee.{Float}
use borrow.Author.Tests.{leb-true, le-leb, ne_eqb, not-false}
use Rattle.number.proofs.Floats.{both_second}
use Rattle.history.specs.Steps.{one}
use Rattle.elementary.specs.Outcome.{Outcome, outside, inside}
use Rattle.prepare.specs.Preparing.{Spectra}
use Rattle.excitation.specs.Excitation.{Excitation}
use Rattle.configuration.specs.declared.Configuration.{Configuration}
use Rattle.configuration.specs.Limits.{limits_kept}
use Rattle.voice.specs.declared.Voice.{Voice}
use Rattle.voice.specs.Voice.{most_meter, at_rest, fresh_voice, acceptable, idle}
use Rattle.voice.proofs.IdleLaws.{kept_of, left_of, total_of, used_of, frames_of}
use Rattle.refusing.specs.Refusal.{Frame}
use Rattle.refusing.proofs.EarlierLaws.{fits_of}
use Rattle.giving.specs.Give.{prepared, refusal, begun, given}
use Rattle.drawing.specs.Step.{taps_of, excitation_of, step}
use Rattle.whole.proofs.Demand2.{earlier_none}
use Rattle.stream.proofs.PartLaws.{turned, after, at_end, after_step, Few, noise_few, noise_after}

-- A FRESH VOICE is not idle
pub fresh_usable : (c : Configuration) → limits_kept c ≡ true → idle (fresh_voice c) ≡ false
unfolding idle acceptable at_rest
fresh_usable c k = rw (k, le-leb 0 c.fperiod (omega arith), zero-mod c.fperiod) refl

-- ---- A FRAME

pub given_kept : (f : Frame) (v : Voice) → refusal f v ≡ 0
    → (v.left ≡ 0) × ((given f v).left ≡ v.configuration.fperiod) × ((given f v).meter ≡ v.meter) × ((given f v).configuration ≡ v.configuration)
unfolding refusal given begun
given_kept f v e = go (prepared f v) refl
  where
    go : (d : Outcome Spectra) → prepared f v ≡ d
        → (v.left ≡ 0) × ((given f v).left ≡ v.configuration.fperiod) × ((given f v).meter ≡ v.meter) × ((given f v).configuration ≡ v.configuration)
    go outside h = let z : ◌≡◌ {A = ℕ} 9 0 = rw (earlier_none f v e, h) at e in absurd (omega arith)
    go (inside p) h = ((fits_of f v (earlier_none f v e)).none_left, rw h refl, rw h refl, rw h refl)

-- ---- A SAMPLE

module _ (c : Configuration) (meter left : ℕ) (first : Bool) (used : ℕ) where
  -- with samples left it is not the first frame
  first_of : acceptable c meter left first used ≡ true → 0 < left → first ≡ false
  unfolding acceptable
  first_of e some =
      let begins : (not first || (eqb meter 0 && eqb left 0)) ≡ true =
      both_second (leb used 64 && eqb ((meter + left) % c.fperiod) 0) (not first || (eqb meter 0 && eqb left 0))
      (both_second (limits_kept c && leb left c.fperiod && leb (meter + left) most_meter) (leb used 64 && eqb ((meter + left) % c.fperiod) 0 && (not first || (eqb meter 0 && eqb left 0))) e) in
      go first (eqb meter 0) (rw (ne_eqb left 0 (λ (z : left ≡ 0). absurd (omega arith))) at begins)
    where
      go : (a b : Bool) → (not a || (b && false)) ≡ true → a ≡ false
      go false b z = refl
      go true true z = cc
      go true false z = cc

  -- one sample less, and one more on the meter, whatever the noise has used
  moved_on : (used' : ℕ) → acceptable c meter left first used ≡ true → 0 < left → used' ≤ 64 → acceptable c (meter + 1) (left - 1) first used' ≡ true
  unfolding acceptable
  moved_on used' e some few =
      let same : meter + 1 + (left - 1) ≡ meter + left = omega arith in
      rw (
        same,
        first_of e some,
        kept_of c meter left first used e,
        le-leb (left - 1) c.fperiod (omega (arith, left_of c meter left first used e)),
        le-leb (meter + left) most_meter (total_of c meter left first used e),
        le-leb used' 64 few,
        frames_of c meter left first used e,
      ) refl

-- a voice that can be used, one sample after another
record Moved (v t : Voice) : Type 0 where
  pub usable : idle t ≡ false
  pub left : t.left + 1 ≡ v.left
  pub meter : t.meter ≡ v.meter + 1
  pub configuration : t.configuration ≡ v.configuration

module _ (v : Voice) (ready : idle v ≡ false) (some : 0 < v.left) where
  can : acceptable v.configuration v.meter v.left v.first v.random.used ≡ true
  unfolding idle
  can = not-false _ ready

  moved_one : (x : Float) (e : Excitation) → Few e.random → Moved v (after v x e)
  unfolding idle
  moved_one x e few =
      let usable : not (acceptable v.configuration (v.meter + 1) (v.left - 1) v.first e.random.used) ≡ false =
      ap not (moved_on v.configuration v.meter v.left v.first v.random.used e.random.used can some few) in
      let fewer : v.left - 1 + 1 ≡ v.left = omega arith in
      at_end (Moved v) (turned v x e) (record { usable = usable; left = fewer; meter = refl; configuration = refl }) (record { usable = usable; left = fewer; meter = refl; configuration = refl })

  used_now : Few v.random
  used_now = leb-true v.random.used 64 (used_of v.configuration v.meter v.left v.first v.random.used can)

-- one sample moves from those that are left to the meter
pub step_usable : (bound : ℕ) (v t : Voice) (x : Float) → idle v ≡ false → 0 < v.left → step bound v ≡ one x t
    → (idle t ≡ false) × (t.left + 1 ≡ v.left) × (t.meter ≡ v.meter + 1) × (t.configuration ≡ v.configuration)
step_usable bound v t x ready some e =
    let m : Moved v t =
    after_step (Moved v) (λ (s : Excitation). Few s.random) v (moved_one v ready some) bound t x
    (noise_after Few bound (taps_of v) (excitation_of v) (used_now v ready some) (noise_few bound v.random)) e in
    (m.usable, m.left, m.meter, m.configuration)
