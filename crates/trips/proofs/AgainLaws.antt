-- Sound values come back from the voice that they make, which is clean, has arrays of their lengths and is not idle. Assumes nothing.
use mathlib.Core.Path.{◌≡◌, refl, ap}
use mathlib.Core.Bool.{true, false, not}
use mathlib.Core.List.{List}
use Prim.Native.Nat.{ℕ, ◌^◌, ◌≤◌, ◌<◌}
use native.Mathlib.Omega.{arith}
use lib.Dec.{leb}
use lib.ListN.{length, get_or}
use Rattle.number.proofs.Floats.{both_first, both_second}
use Rattle.configuration.specs.declared.Configuration.{Configuration}
use Rattle.voice.specs.Voice.{idle}
use Rattle.slots.specs.Slots.{head_values, values_of, slot_at, noise_at, configuration_in, pulse_in, random_in, voice_with, voice_in}
use Rattle.slots.specs.Sound.{sound}
use Rattle.trips.specs.Clean.{Clean}
use Rattle.slots.proofs.CountLaws.{Long}
use Rattle.reading.proofs.SoundLaws.{Room, room_of, sound_of}
use Rattle.trips.proofs.StandLaws.{flag_back, Back, Stands, stands_on, slot_stands, none_stands, stands_all}
use Rattle.trips.proofs.StandParts.{fits, controls_back, pitches_back, taps_back, excitation_stands, spectrum_stands, filter_stands}
use Rattle.trips.proofs.MadeLaws.{clean_with, long_with}

module _ (ws : List ℕ) (e : sound ws ≡ true) where
  abbrev c : Configuration
  c = configuration_in ws

  room : Room c (length ws)
  room = room_of ws c e refl

  log_flag : leb (slot_at ws 3) 1 ≡ true
  log_flag = both_first (leb (slot_at ws 3) 1) (leb (slot_at ws 14) 1) (sound_of ws e).flags

  first_flag : leb (slot_at ws 14) 1 ≡ true
  first_flag = both_second (leb (slot_at ws 3) 1) (leb (slot_at ws 14) 1) (sound_of ws e).flags

  module _ (below : (i : ℕ) → get_or ws i 0 < 2 ^ 64) where
    -- slots 0 to 18
    head_stands : Stands ws (head_values (voice_in ws)) 0 19
    unfolding configuration_in voice_with pulse_in
    head_stands =
        let forms = (sound_of ws e).forms in
        let controls : Back ws 5 8 = controls_back ws c room below forms in
        let pitches : Back ws 9 12 = pitches_back ws c room below forms in
        let taps : Back ws 15 (noise_at c.nlpf) = taps_back ws c room below forms in
        let long : 19 ≤ length ws = omega (arith, fits ws c room) in
        slot_stands ws (omega arith) refl
        (slot_stands ws (omega arith) refl
        (slot_stands ws (omega arith) refl
        (slot_stands ws (omega arith) (flag_back (slot_at ws 3) log_flag)
        (slot_stands ws (omega arith) refl
        (slot_stands ws (omega arith) (controls 5 (omega arith) (omega arith))
        (slot_stands ws (omega arith) (controls 6 (omega arith) (omega arith))
        (slot_stands ws (omega arith) (controls 7 (omega arith) (omega arith))
        (slot_stands ws (omega arith) refl
        (slot_stands ws (omega arith) (pitches 9 (omega arith) (omega arith))
        (slot_stands ws (omega arith) (pitches 10 (omega arith) (omega arith))
        (slot_stands ws (omega arith) (pitches 11 (omega arith) (omega arith))
        (slot_stands ws (omega arith) refl
        (slot_stands ws (omega arith) refl
        (slot_stands ws (omega arith) (flag_back (slot_at ws 14) first_flag)
        (slot_stands ws (omega arith) (taps 15 (omega arith) (omega arith))
        (slot_stands ws (omega arith) (taps 16 (omega arith) (omega arith))
        (slot_stands ws (omega arith) (taps 17 (omega arith) (omega arith))
        (slot_stands ws (omega arith) (taps 18 (omega arith) (omega arith)) (none_stands ws 19)))))))))))))))))))

    values_stand : Stands ws (values_of (voice_in ws)) 0 (length ws)
    unfolding values_of
    values_stand =
        let forms = (sound_of ws e).forms in
        stands_on ws head_stands
        (stands_on ws (excitation_stands ws c room below forms) (stands_on ws (spectrum_stands ws c room below forms) (filter_stands ws c room below forms)))

-- SOUND VALUES COME BACK from the voice that they make,
pub values_again : (ws : List ℕ) → ((i : ℕ) → get_or ws i 0 < 2 ^ 64) → sound ws ≡ true → values_of (voice_in ws) ≡ ws
values_again ws below e = stands_all ws (values_of (voice_in ws)) (values_stand ws e below)

-- which is clean, has arrays of their lengths, and is not idle
pub clean_in : (ws : List ℕ) → sound ws ≡ true → Clean (voice_in ws)
clean_in ws e = clean_with ws (configuration_in ws) (room ws e)

pub long_in : (ws : List ℕ) → sound ws ≡ true → Long (voice_in ws)
long_in ws e = long_with ws (configuration_in ws) (room ws e)

pub usable_in : (ws : List ℕ) → sound ws ≡ true → idle (voice_in ws) ≡ false
unfolding idle voice_with random_in
usable_in ws e = ap not (sound_of ws e).rules
