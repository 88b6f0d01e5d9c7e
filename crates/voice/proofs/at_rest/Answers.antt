-- `at_rest` meets its contract. Assumes nothing.
use mathlib.Core.Path.{refl}
use Rattle.voice.specs.Voice.{at_rest}
use Rattle.voice.proofs.at_rest.Goals as goal

pub returns : goal.returns
unfolding at_rest
returns c = rw (c.new.ensures, c.new-2.ensures, c.new-3.ensures) refl
