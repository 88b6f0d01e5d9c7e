-- `refusal` meets its contract. Assumes nothing.
use mathlib.Core.Path.{refl}
use borrow.Author.Tests.{eq-eqb, ne_eqb}
use Rattle.voice.specs.Voice.{idle}
use Rattle.drawing.proofs.refusal.Goals as goal

pub returns-then-not-is_usable : goal.returns-then-not-is_usable
unfolding idle
returns-then-not-is_usable c = rw (← c.is_usable.ensures, c.if-not-is_usable.true) refl

pub returns-then-voice-eq0 : goal.returns-then-voice-eq0
unfolding idle
returns-then-voice-eq0 c = rw (← c.is_usable.ensures, c.if-not-is_usable.false, eq-eqb _ _ c.if-voice-eq0.true) refl

pub returns : goal.returns
unfolding idle
returns c = rw (← c.is_usable.ensures, c.if-not-is_usable.false, ne_eqb _ _ c.if-voice-eq0.false) refl
