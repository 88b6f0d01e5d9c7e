-- `filter_stage` meets its contract, whichever of the two filters is run. Assumes nothing.
use borrow.Author.Rules.{rules}
use mathlib.Core.Path.{◌≡◌, ap, ◌∙◌}
use native.Mathlib.Omega.{arith}
use Prim.Native.Nat.{◌≤◌}
use lib.ListN.{length}
use lib.Seq.{length-take-le}
use borrow.Author.Tests.{eq-eqb, ne_eqb}
use Rattle.history.specs.Through.{passage}
use Rattle.configuration.proofs.LimitsLaws.{sizes}
use Rattle.drawing.specs.Step.{filtered}
use Rattle.drawing.proofs.SoundLaws.{refiltered, filtered_zero, filtered_nonzero, ended_is}
use Rattle.drawing.proofs.sound.filter_stage.Goals as goal
use Rattle.drawing.proofs.sound.filter_stage.Goals.{Start, then-configuration-eq0, else-configuration-eq0}

-- the coefficients that are lent are nmcp
entries : (c : Start) → length c.args.c.now ≡ c.args.voice.configuration.nmcp
entries c =
    let long : length c.args.voice.coefficients ≡ 64 = search rules in
    ap length c.requires.1 ∙ length-take-le c.args.voice.configuration.nmcp c.args.voice.coefficients (omega (arith, (sizes c.args.voice.configuration c.requires.0).nmcp_most, long))

-- and the voice has as many increments
some : (c : Start) → length c.args.c.now ≤ length c.args.voice.increments
some c = let long : length c.args.voice.increments ≡ 64 = search rules in omega (arith, (sizes c.args.voice.configuration c.requires.0).nmcp_most, entries c, long)

pub stretch-zero-requires : goal.stretch-zero-requires
stretch-zero-requires c =
    let here = (goal.at.stretch-zero-requires c).Start in
    let size = sizes c.args.voice.configuration c.requires.0 in
    (omega (arith, entries here, size.nmcp_least), omega (arith, entries here, size.nmcp_most), length-take-le _ _ (some here))

pub stretch-nonzero-requires : goal.stretch-nonzero-requires
stretch-nonzero-requires c =
    let here = (goal.at.stretch-nonzero-requires c).Start in
    let size = sizes c.args.voice.configuration c.requires.0 in
    (omega (arith, entries here, size.nmcp_least), omega (arith, entries here, size.nmcp_most), length-take-le _ _ (some here), size.stage_most)

pub close-pulse-requires : goal.close-pulse-requires
close-pulse-requires c = (c.requires.0, c.if-configuration-eq0.auto.c ∙ entries (goal.at.close-pulse-requires c).Start)

pub returns : goal.returns
returns c =
    let here = (goal.at.returns c).Start in
    let lent : length c.if-configuration-eq0.c ≡ c.args.voice.configuration.nmcp = c.if-configuration-eq0.auto.c ∙ entries here in
    let long : length c.args.voice.targets ≡ 64 = search rules in
    let over-them : passage c.if-configuration-eq0.samples (refiltered c.args.voice c.if-configuration-eq0.c c.if-configuration-eq0.zero c.if-configuration-eq0.nonzero) ≡ filtered c.args.voice c.args.samples.now =
    elim c.if-configuration-eq0.branch [
      | then-configuration-eq0 w ↦ rw (w.c-is, w.samples-is, w.zero-is, w.nonzero-is) (filtered_zero c.args.voice (length c.args.c.now) (entries here) _ _ _ c.args.c.now c.requires.1 w.stretch-zero.result (eq-eqb _ _ w.if-configuration-eq0.true) w.stretch-zero.ensures)
      | else-configuration-eq0 w ↦ rw (w.c-is, w.samples-is, w.zero-is, w.nonzero-is) (filtered_nonzero c.args.voice (length c.args.c.now) (entries here) _ _ _ c.args.c.now c.requires.1 w.stretch-nonzero.result (ne_eqb _ _ w.if-configuration-eq0.false) w.stretch-nonzero.ensures)
    ] in
    ended_is c.args.voice _ _ _ _ _ lent (omega (arith, (sizes c.args.voice.configuration c.requires.0).nmcp_most, long)) over-them _ _ c.close-pulse.ensures
