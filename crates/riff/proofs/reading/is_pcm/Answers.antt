-- `is_pcm`: by its tests. Assumes nothing.
use mathlib.Core.Path.{refl}
use borrow.Author.Tests.{eq-eqb, ne_eqb}
use Rattle.riff.specs.Reading.{is_pcm}
use Rattle.riff.proofs.reading.is_pcm.Goals as goal

pub returns-then-tag-eq1 : goal.returns-then-tag-eq1
unfolding is_pcm
returns-then-tag-eq1 c = rw (← c.two-tag.ensures.0, eq-eqb _ 1 c.if-tag-eq1.true) refl

pub returns-then-size-eq40 : goal.returns-then-size-eq40
unfolding is_pcm
returns-then-size-eq40 c =
    rw (c.extended.ensures, ← c.two-tag.ensures.0, ne_eqb c.two-tag.result 1 c.if-tag-eq1.false, eq-eqb _ 40 c.if-size-eq40.true) refl

pub returns-else-size-eq40 : goal.returns-else-size-eq40
unfolding is_pcm
returns-else-size-eq40 c =
    rw (← c.two-tag.ensures.0, ne_eqb c.two-tag.result 1 c.if-tag-eq1.false, ne_eqb c.args.size 40 c.if-size-eq40.false) refl
