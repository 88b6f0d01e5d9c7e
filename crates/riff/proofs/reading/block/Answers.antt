-- `block`: by its test. Assumes nothing.
use mathlib.Core.Path.{refl}
use Rattle.riff.specs.Reading.{block_of}
use Rattle.riff.proofs.reading.block.Goals as goal

pub returns-then-pcm-channels : goal.returns-then-pcm-channels
unfolding block_of
returns-then-pcm-channels c = rw (← c.is_pcm-pcm.ensures, ← c.two-channels.ensures.0, ← c.two-k.ensures.0, ← c.two-bits.ensures.0, c.if-pcm-channels.true) c.width_of.ensures

pub returns-else-pcm-channels : goal.returns-else-pcm-channels
unfolding block_of
returns-else-pcm-channels c = rw (← c.is_pcm-pcm.ensures, ← c.two-channels.ensures.0, ← c.two-k.ensures.0, ← c.two-bits.ensures.0, c.if-pcm-channels.false) refl
