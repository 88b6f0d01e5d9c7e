-- `is_held`: two comparisons with the ends. Assumes nothing.
use Rattle.pcm.proofs.SampleLaws.{held_of}
use Rattle.pcm.proofs.is_held.Goals as goal

pub returns : goal.returns
returns c h l = held_of c.args.x c.args.scale c.args.low c.args.high h l
