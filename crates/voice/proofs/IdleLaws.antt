-- What a voice that is not idle keeps. Assumes nothing.
use mathlib.Core.Path.{◌≡◌, refl, ◌∙◌}
use mathlib.Core.Bool.{Bool, true, false, not, ◌&&◌, ◌||◌}
use Prim.Native.Nat.{ℕ, ◌+◌, ◌%◌, ◌≤◌}
use native.Mathlib.Omega.{arith}
use native.Mathlib.Nat.{le_refl, add-mod, mod_self, zero-mod}
use lib.Dec.{eqb, leb}
use borrow.Author.Tests.{leb-true, eqb-true, le-leb}
use Rattle.number.proofs.Floats.{both_first, both_second}
use Rattle.configuration.specs.declared.Configuration.{Configuration}
use Rattle.configuration.specs.Limits.{limits_kept}
use Rattle.voice.specs.Voice.{most_meter, acceptable}

module _ (c : Configuration) (meter left : ℕ) (first : Bool) (used : ℕ) where
  abbrev rest : Bool
  rest = leb used 64 && eqb ((meter + left) % c.fperiod) 0 && (not first || (eqb meter 0 && eqb left 0))

  sound_of : acceptable c meter left first used ≡ true → (limits_kept c && leb left c.fperiod) ≡ true
  unfolding acceptable
  sound_of e =
      both_first (limits_kept c && leb left c.fperiod) (leb (meter + left) most_meter)
      (both_first (limits_kept c && leb left c.fperiod && leb (meter + left) most_meter) rest e)

  pub kept_of : acceptable c meter left first used ≡ true → limits_kept c ≡ true
  kept_of e = both_first (limits_kept c) (leb left c.fperiod) (sound_of e)

  pub left_of : acceptable c meter left first used ≡ true → left ≤ c.fperiod
  left_of e = leb-true left c.fperiod (both_second (limits_kept c) (leb left c.fperiod) (sound_of e))

  pub total_of : acceptable c meter left first used ≡ true → meter + left ≤ most_meter
  unfolding acceptable
  total_of e =
      leb-true (meter + left) most_meter (both_second (limits_kept c && leb left c.fperiod) (leb (meter + left) most_meter)
      (both_first (limits_kept c && leb left c.fperiod && leb (meter + left) most_meter) rest e))

  others : acceptable c meter left first used ≡ true → rest ≡ true
  unfolding acceptable
  others e = both_second (limits_kept c && leb left c.fperiod && leb (meter + left) most_meter) rest e

  counts : acceptable c meter left first used ≡ true → (leb used 64 && eqb ((meter + left) % c.fperiod) 0) ≡ true
  counts e = both_first (leb used 64 && eqb ((meter + left) % c.fperiod) 0) (not first || (eqb meter 0 && eqb left 0)) (others e)

  pub used_of : acceptable c meter left first used ≡ true → leb used 64 ≡ true
  used_of e = both_first (leb used 64) (eqb ((meter + left) % c.fperiod) 0) (counts e)

  pub frames_of : acceptable c meter left first used ≡ true → (meter + left) % c.fperiod ≡ 0
  frames_of e = eqb-true ((meter + left) % c.fperiod) 0 (both_second (leb used 64) (eqb ((meter + left) % c.fperiod) 0) (counts e))

-- a frame given where none is left leaves a voice that is not idle, as long as the meter has room for it
pub usable_on : (c : Configuration) (meter : ℕ) (first : Bool) (used : ℕ) → acceptable c meter 0 first used ≡ true → meter + c.fperiod ≤ most_meter
    → acceptable c meter c.fperiod false used ≡ true
unfolding acceptable
usable_on c meter first used e room =
    let none : meter + 0 ≡ meter = omega arith in
    let whole : meter % c.fperiod ≡ 0 = rw none at (frames_of c meter 0 first used e) in
    let on : (meter + c.fperiod) % c.fperiod ≡ 0 = add-mod meter c.fperiod c.fperiod ∙ rw (whole, mod_self c.fperiod) refl ∙ zero-mod c.fperiod in
    rw (kept_of c meter 0 first used e, le-leb c.fperiod c.fperiod (le_refl c.fperiod), le-leb (meter + c.fperiod) most_meter room, used_of c meter 0 first used e, on) refl
