-- `put_excitation` meets its contract: the parts stand one after the other. Assumes nothing.
use native.Mathlib.Omega.{arith}
use Rattle.configuration.proofs.LimitsLaws.{Sizes, sizes}
use Rattle.slots.proofs.CountLaws.{Long, held_long}
use Rattle.slots.proofs.GatherLaws.{excitation_stored}
use Rattle.slots.proofs.gather.put_excitation.Goals as goal
use Rattle.slots.proofs.gather.put_excitation.Goals.{Start}

long : (c : Start) → Long c.args.voice
long c = held_long c.args.voice _ c.well_formed.0

small : (c : Start) → Sizes c.args.voice.configuration
small c = sizes c.args.voice.configuration c.requires.0

pub slice_bounds-put_floats-end : goal.slice_bounds-put_floats-end
slice_bounds-put_floats-end c = omega (arith, (long (goal.at.slice_bounds-put_floats-end c).Start).line, (small (goal.at.slice_bounds-put_floats-end c).Start).nlpf_most)

pub returns : goal.returns
returns c =
    excitation_stored c.args.voice (long (goal.at.returns c).Start) _ _ _ _ c.requires.0 _ c.put_floats.ensures c.put_floats-2.ensures (rw c.noise_at.ensures at c.put_numbers.ensures) (rw c.queue_at.ensures at c.put_floats-3.ensures)
