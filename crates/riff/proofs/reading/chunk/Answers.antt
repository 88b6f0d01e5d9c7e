-- `chunk`: by its tests. Assumes nothing.
use mathlib.Core.Path.{refl}
use native.Mathlib.Omega.{arith}
use borrow.Author.Tests.{lt-ltb, le-ltb, eq-eqb, ne_eqb}
use Rattle.riff.specs.Reading.{chunk_of, skipped_of}
use Rattle.riff.proofs.reading.chunk.Goals as goal

pub returns-then-end-at-lt8 : goal.returns-then-end-at-lt8
unfolding chunk_of
returns-then-end-at-lt8 c = rw (lt-ltb _ _ c.if-end-at-lt8.true) refl

pub returns-in-544501094 : goal.returns-in-544501094
unfolding chunk_of
returns-in-544501094 c = rw (le-ltb _ _ c.if-end-at-lt8.false, ← c.four-tag.ensures.0, eq-eqb _ 0x2074_6d66 c.in-544501094.is, ← c.four-size.ensures.0) c.formatted.ensures

pub returns-in-1635017060 : goal.returns-in-1635017060
unfolding chunk_of
returns-in-1635017060 c = rw (le-ltb _ _ c.if-end-at-lt8.false, ← c.four-tag.ensures.0, ne_eqb c.four-tag.result 0x2074_6d66 (λ e. omega (arith, c.in-1635017060.is)), eq-eqb _ 0x6174_6164 c.in-1635017060.is, ← c.four-size.ensures.0) c.sampled.ensures

pub returns-in_default : goal.returns-in_default
unfolding chunk_of skipped_of
returns-in_default c =
    rw (le-ltb _ _ c.if-end-at-lt8.false, ← c.four-tag.ensures.0, ne_eqb c.four-tag.result 0x2074_6d66 (λ e. omega arith), ne_eqb c.four-tag.result 0x6174_6164 (λ e. omega arith), ← c.four-size.ensures.0, lt-ltb _ _ c.if-room-size.true) refl

pub returns-in_default-2 : goal.returns-in_default-2
unfolding chunk_of skipped_of
returns-in_default-2 c =
    rw (le-ltb _ _ c.if-end-at-lt8.false, ← c.four-tag.ensures.0, ne_eqb c.four-tag.result 0x2074_6d66 (λ e. omega arith), ne_eqb c.four-tag.result 0x6174_6164 (λ e. omega arith), ← c.four-size.ensures.0, le-ltb _ _ c.if-room-size.false) refl
