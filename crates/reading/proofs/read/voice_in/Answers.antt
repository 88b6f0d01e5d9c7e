-- `voice_in` meets its contract: part by part. Assumes nothing.
use mathlib.Core.Path.{ap}
use native.Mathlib.Omega.{arith}
use lib.ListN.{length}
use Rattle.configuration.specs.declared.Configuration.{Configuration}
use Rattle.slots.specs.Slots.{voice_with}
use Rattle.reading.proofs.SoundLaws.{Room, room_of, sound_of}
use Rattle.reading.proofs.read.voice_in.Goals as goal
use Rattle.reading.proofs.read.voice_in.Goals.{After-configuration_in-c}

here : (c : After-configuration_in-c) → Room c.configuration_in-c.result (length c.args.slots.now)
here c = room_of _ _ c.requires c.configuration_in-c.ensures

pub configuration_in-c-requires : goal.configuration_in-c-requires
configuration_in-c-requires c = let all = sound_of _ c.requires in omega (arith, all.room)

pub filter_at-filter-requires : goal.filter_at-filter-requires
filter_at-filter-requires c = ((here c).nlpf, (here c).nmcp)

pub bounds-slots-12 : goal.bounds-slots-12
bounds-slots-12 c = let f = here (goal.at.bounds-slots-12 c).After-configuration_in-c in omega (arith, f.room)

pub bounds-slots-13 : goal.bounds-slots-13
bounds-slots-13 c = let f = here (goal.at.bounds-slots-13 c).After-configuration_in-c in omega (arith, f.room)

pub bounds-slots-14 : goal.bounds-slots-14
bounds-slots-14 c = let f = here (goal.at.bounds-slots-14 c).After-configuration_in-c in omega (arith, f.room)

pub pulse_in-requires : goal.pulse_in-requires
pulse_in-requires c = let f = here (goal.at.pulse_in-requires c).After-configuration_in-c in omega (arith, f.room)

pub array_in-requires : goal.array_in-requires
array_in-requires c = let f = here (goal.at.array_in-requires c).After-configuration_in-c in (f.nlpf, omega (arith, f.room))

pub array_in-requires-2 : goal.array_in-requires-2
array_in-requires-2 c = let f = here (goal.at.array_in-requires-2 c).After-configuration_in-c in (f.nlpf, omega (arith, f.room))

pub noise_at-requires : goal.noise_at-requires
noise_at-requires c = (here (goal.at.noise_at-requires c).After-configuration_in-c).nlpf

pub random_in-requires : goal.random_in-requires
random_in-requires c = let f = here (goal.at.random_in-requires c).After-configuration_in-c in omega (arith, f.room, c.noise_at.ensures)

pub spectrum_at-requires : goal.spectrum_at-requires
spectrum_at-requires c = (here (goal.at.spectrum_at-requires c).After-configuration_in-c).nlpf

pub array_in-requires-3 : goal.array_in-requires-3
array_in-requires-3 c = let f = here (goal.at.array_in-requires-3 c).After-configuration_in-c in (f.nmcp, omega (arith, f.room, c.spectrum_at.ensures))

pub increments_at-requires : goal.increments_at-requires
increments_at-requires c = let f = here (goal.at.increments_at-requires c).After-configuration_in-c in (f.nlpf, f.nmcp)

pub array_in-requires-4 : goal.array_in-requires-4
array_in-requires-4 c = let f = here (goal.at.array_in-requires-4 c).After-configuration_in-c in (f.nmcp, omega (arith, f.room, c.increments_at.ensures))

pub targets_at-requires : goal.targets_at-requires
targets_at-requires c = let f = here (goal.at.targets_at-requires c).After-configuration_in-c in (f.nlpf, f.nmcp)

pub array_in-requires-5 : goal.array_in-requires-5
array_in-requires-5 c = let f = here (goal.at.array_in-requires-5 c).After-configuration_in-c in (f.nmcp, omega (arith, f.room, c.targets_at.ensures))

pub zero_of-requires : goal.zero_of-requires
zero_of-requires c = let f = here (goal.at.zero_of-requires c).After-configuration_in-c in (f.limits, omega (arith, f.room, c.filter_at-filter.ensures))

pub nonzero_of-requires : goal.nonzero_of-requires
nonzero_of-requires c = let f = here (goal.at.nonzero_of-requires c).After-configuration_in-c in (f.limits, omega (arith, f.room, c.filter_at-filter.ensures))

pub returns : goal.returns
unfolding voice_with
returns c =
    rw (c.pulse_in.ensures, c.is_set.ensures, c.array_in.ensures, c.array_in-2.ensures, c.random_in.ensures, c.noise_at.ensures, c.array_in-3.ensures, c.spectrum_at.ensures, c.array_in-4.ensures, c.increments_at.ensures, c.array_in-5.ensures, c.targets_at.ensures, c.zero_of.ensures, c.nonzero_of.ensures, c.filter_at-filter.ensures) (ap (λ (k : Configuration). voice_with k c.args.slots.now) c.configuration_in-c.ensures)
