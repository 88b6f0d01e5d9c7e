-- `nonzero_in` meets its contract. Assumes nothing.
use mathlib.Core.Path.{ap}
use mathlib.Core.List.{List}
use lib.Ieee.{Float}
use lib.ListN.{replicate}
use Rattle.number.specs.F64.{0f}
use Rattle.mglsa.specs.declared.MelGeneralizedLogSpectrumApproximation.{MelGeneralizedLogSpectrumApproximation}
use Rattle.slots.specs.Slots.{nonzero_in}
use Rattle.reading.proofs.ReadLaws.{array_of}
use Rattle.reading.proofs.read.nonzero_in.Goals as goal

abbrev rows : List Float → MelGeneralizedLogSpectrumApproximation
rows d = record { d = d }

pub returns : goal.returns
unfolding nonzero_in
returns c = ap rows (array_of (replicate 512 0f) _ c.args.slots.now c.args.at c.args.count c.requires.0 c.requires.1 c.read_floats.ensures)
