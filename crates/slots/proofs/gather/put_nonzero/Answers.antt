-- `put_nonzero` meets its contract: the rows stand in front of their array. Assumes nothing.
use mathlib.Core.Path.{◌≡◌}
use native.Mathlib.Omega.{arith}
use lib.ListN.{length}
use Rattle.slots.proofs.CountLaws.{held_long, rows_most}
use Rattle.slots.proofs.gather.put_nonzero.Goals as goal
use Rattle.slots.proofs.gather.put_nonzero.Goals.{Start}

long : (c : Start) → length c.args.voice.nonzero.d ≡ 512
long c = (held_long c.args.voice _ c.well_formed.0).d

pub slice_bounds-put_floats-end : goal.slice_bounds-put_floats-end
slice_bounds-put_floats-end c =
    omega (arith, long (goal.at.slice_bounds-put_floats-end c).Start, rows_most c.args.voice.configuration c.requires.0)
