-- `random_in` meets its contract. Assumes nothing.
use mathlib.Core.Path.{ap}
use mathlib.Core.List.{List}
use Prim.Native.Nat.{◌+◌}
use lib.Ieee.{Float}
use Rattle.slots.specs.Slots.{slot_at, random_in}
use Rattle.reading.proofs.read.random_in.Goals as goal

pub returns : goal.returns
unfolding random_in
returns c = ap (λ (q : List Float). record { next = slot_at c.args.slots.now c.args.at; used = slot_at c.args.slots.now (c.args.at + 1); queue = q }) c.read_floats.ensures
