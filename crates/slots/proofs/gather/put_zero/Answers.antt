-- `put_zero` meets its contract: the parts stand one after the other. Assumes nothing.
use native.Mathlib.Omega.{arith}
use Rattle.configuration.proofs.LimitsLaws.{sizes}
use Rattle.slots.proofs.CountLaws.{Long, held_long}
use Rattle.slots.proofs.GatherLaws.{zero_stored}
use Rattle.slots.proofs.gather.put_zero.Goals as goal
use Rattle.slots.proofs.gather.put_zero.Goals.{Start}

long : (c : Start) → Long c.args.voice
long c = held_long c.args.voice _ c.well_formed.0

pub slice_bounds-put_floats-end-4 : goal.slice_bounds-put_floats-end-4
slice_bounds-put_floats-end-4 c =
    omega (arith, (long (goal.at.slice_bounds-put_floats-end-4 c).Start).d21, (sizes c.args.voice.configuration c.requires.0).nmcp_most)

pub returns : goal.returns
returns c =
    zero_stored c.args.voice (long (goal.at.returns c).Start) _ _ _ _ _ c.args.at c.requires.1 c.put_floats.ensures c.put_floats-2.ensures c.put_floats-3.ensures c.put_floats-4.ensures
