-- `usable` meets its contract. Assumes nothing.
use mathlib.Core.Path.{refl, sym, ◌∙◌}
use native.Mathlib.Omega.{arith}
use Prim.Native.Nat.{◌+◌, ◌≤◌, ◌<◌}
use borrow.Author.Tests.{lt-leb, le-leb}
use Rattle.configuration.proofs.LimitsLaws.{sizes}
use Rattle.voice.specs.Voice.{most_meter, acceptable}
use Rattle.voice.proofs.usable.Goals as goal

pub returns-then-not-kept : goal.returns-then-not-kept
unfolding acceptable
returns-then-not-kept c = rw (sym c.kept.ensures ∙ c.if-not-kept.true) refl

pub returns-then-left-configuration : goal.returns-then-left-configuration
unfolding acceptable
returns-then-left-configuration c = rw (sym c.kept.ensures ∙ c.if-not-kept.false, lt-leb _ _ c.if-left-configuration.true) refl

pub overflow_sub-left : goal.overflow_sub-left
overflow_sub-left c =
    let k = (sizes c.args.configuration (sym c.kept.ensures ∙ c.if-not-kept.false)).fperiod_most in
    omega (arith, k, c.if-left-configuration.false)

pub returns-then-meter-left : goal.returns-then-meter-left
unfolding acceptable
returns-then-meter-left c =
    let k = (sizes c.args.configuration (sym c.kept.ensures ∙ c.if-not-kept.false)).fperiod_most in
    let above : most_meter < c.args.meter + c.args.left = omega (arith, k, c.if-left-configuration.false, c.if-meter-left.true) in
    rw (sym c.kept.ensures ∙ c.if-not-kept.false, le-leb _ _ c.if-left-configuration.false, lt-leb _ _ above) refl

pub nonzero_rem-frames : goal.nonzero_rem-frames
nonzero_rem-frames c = omega (arith, (sizes c.args.configuration (sym c.kept.ensures ∙ c.if-not-kept.false)).fperiod_least)

pub returns : goal.returns
unfolding acceptable
returns c =
    let k = (sizes c.args.configuration (sym c.kept.ensures ∙ c.if-not-kept.false)).fperiod_most in
    let within : c.args.meter + c.args.left ≤ most_meter = omega (arith, k, c.if-left-configuration.false, c.if-meter-left.false) in
    rw (sym c.kept.ensures ∙ c.if-not-kept.false, le-leb _ _ c.if-left-configuration.false, le-leb _ _ within) refl
