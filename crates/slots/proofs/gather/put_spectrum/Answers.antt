-- `put_spectrum` meets its contract: the parts stand one after the other. Assumes nothing.
use native.Mathlib.Omega.{arith}
use Rattle.configuration.proofs.LimitsLaws.{sizes}
use Rattle.slots.proofs.CountLaws.{Long, held_long}
use Rattle.slots.proofs.GatherLaws.{spectrum_stored}
use Rattle.slots.proofs.gather.put_spectrum.Goals as goal
use Rattle.slots.proofs.gather.put_spectrum.Goals.{Start}

long : (c : Start) → Long c.args.voice
long c = held_long c.args.voice _ c.well_formed.0

pub slice_bounds-put_floats-end : goal.slice_bounds-put_floats-end
slice_bounds-put_floats-end c =
    omega (arith, (long (goal.at.slice_bounds-put_floats-end c).Start).coefficients, (sizes c.args.voice.configuration c.requires.0).nmcp_most)

pub returns : goal.returns
returns c =
    spectrum_stored c.args.voice (long (goal.at.returns c).Start) _ _ _ _ c.requires.0 c.args.at c.put_floats.ensures c.put_floats-2.ensures c.put_floats-3.ensures
