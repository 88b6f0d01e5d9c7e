-- `refusal` meets its contract. Assumes nothing.
use mathlib.Core.Path.{refl}
use Prim.Native.Nat.{◌-◌, ◌<◌, ◌≤◌}
use native.Mathlib.Omega.{arith}
use borrow.Author.Tests.{lt-ltb, le-ltb}
use Rattle.voice.specs.Voice.{idle}
use Rattle.whole.proofs.refusal.Goals as goal

pub returns-then-not-is_usable : goal.returns-then-not-is_usable
unfolding idle
returns-then-not-is_usable c = rw (← c.is_usable.ensures, c.if-not-is_usable.true) refl

pub returns-then-saturating_sub-voice : goal.returns-then-saturating_sub-voice
unfolding idle
returns-then-saturating_sub-voice c =
    let short : c.args.len - c.args.start < c.args.voice.now.configuration.fperiod = omega arith in
    rw (← c.is_usable.ensures, c.if-not-is_usable.false, lt-ltb _ _ short) refl

pub returns : goal.returns
unfolding idle
returns c =
    let room : c.args.voice.now.configuration.fperiod ≤ c.args.len - c.args.start = omega arith in
    rw (← c.is_usable.ensures, c.if-not-is_usable.false, le-ltb _ _ room) refl
