-- `gather` meets its contract: the parts stand one after the other. Assumes nothing.
use native.Mathlib.Omega.{arith}
use Rattle.configuration.proofs.LimitsLaws.{Sizes, sizes}
use Rattle.slots.proofs.CountLaws.{Long, held_long, count_parts}
use Rattle.slots.proofs.GatherLaws.{gathered}
use Rattle.slots.proofs.gather.gather.Goals as goal
use Rattle.slots.proofs.gather.gather.Goals.{Start}

long : (c : Start) → Long c.args.voice
long c = held_long c.args.voice _ c.well_formed.0

small : (c : Start) → Sizes c.args.voice.configuration
small c = sizes c.args.voice.configuration c.requires.0

pub put_head-requires : goal.put_head-requires
put_head-requires c = omega (arith, count_parts c.args.voice.configuration)

pub put_excitation-requires : goal.put_excitation-requires
put_excitation-requires c = (c.requires.0, omega (arith, count_parts c.args.voice.configuration))

pub spectrum_at-requires : goal.spectrum_at-requires
spectrum_at-requires c = (small (goal.at.spectrum_at-requires c).Start).nlpf_most

pub put_spectrum-requires : goal.put_spectrum-requires
put_spectrum-requires c =
    (c.requires.0, omega (arith, count_parts c.args.voice.configuration, c.spectrum_at.ensures))

pub filter_at-requires : goal.filter_at-requires
filter_at-requires c = let f = small (goal.at.filter_at-requires c).Start in (f.nlpf_most, f.nmcp_most)

pub put_zero-requires : goal.put_zero-requires
put_zero-requires c =
    (c.requires.0, omega (arith, c.if-c-eq0.true), omega (arith, count_parts c.args.voice.configuration, c.filter_at.ensures, c.put_head.auto.slots, c.put_excitation.auto.slots, c.put_spectrum.auto.slots))

pub filter_at-requires-else-c-eq0 : goal.filter_at-requires-else-c-eq0
filter_at-requires-else-c-eq0 c = let f = small (goal.at.filter_at-requires-else-c-eq0 c).Start in (f.nlpf_most, f.nmcp_most)

pub put_nonzero-requires : goal.put_nonzero-requires
put_nonzero-requires c =
    (c.requires.0, omega (arith, c.if-c-eq0.false), omega (arith, count_parts c.args.voice.configuration, c.filter_at-else-c-eq0.ensures, c.put_head.auto.slots, c.put_excitation.auto.slots, c.put_spectrum.auto.slots))

pub returns-then-c-eq0 : goal.returns-then-c-eq0
returns-then-c-eq0 c =
    gathered c.args.voice (long (goal.at.returns-then-c-eq0 c).Start) _ _ _ _ c.requires.0 _ c.put_head.ensures c.put_excitation.ensures (rw c.spectrum_at.ensures at c.put_spectrum.ensures) (rw c.filter_at.ensures at c.put_zero.ensures)

pub returns-else-c-eq0 : goal.returns-else-c-eq0
returns-else-c-eq0 c =
    gathered c.args.voice (long (goal.at.returns-else-c-eq0 c).Start) _ _ _ _ c.requires.0 _ c.put_head.ensures c.put_excitation.ensures (rw c.spectrum_at.ensures at c.put_spectrum.ensures) (rw c.filter_at-else-c-eq0.ensures at c.put_nonzero.ensures)
