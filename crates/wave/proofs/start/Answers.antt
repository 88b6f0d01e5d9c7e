-- `start` meets its contract: the definition's sums, on the eight elements one by one. Assumes nothing.
use mathlib.Core.Path.{refl, ap}
use mathlib.Core.List.{List}
use lib.Ieee.{Float}
use Rattle.wave.specs.Wave.{first_after, seconds_of}
use Rattle.wave.proofs.WaveLaws.{eight_elements}
use Rattle.wave.proofs.start.Goals as goal

pub returns : goal.returns
unfolding seconds_of
returns c =
    let e = eight_elements c.args.x.now c.requires in
    (ap (λ (l : List Float). first_after c.args.alpha l c.args.first) e, refl, ap (λ (l : List Float). seconds_of c.args.alpha l c.args.first c.args.second) e)
