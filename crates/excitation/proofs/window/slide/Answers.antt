-- `slide` meets its contract: after i turns the state is that after i samples, its line standing at i, with only zeros past it. Assumes nothing.
use mathlib.Core.Path.{◌≡◌, refl, sym, ap, ◌∙◌}
use Prim.Native.Nat.{◌+◌, ◌<◌}
use native.Mathlib.Omega.{arith}
use lib.Ieee.{Float}
use mathlib.Core.List.{List}
use lib.ListN.{length, length-set}
use Rattle.std.specs.Prelude.{Option}
use Rattle.number.specs.Lists.{put_row}
use Rattle.number.proofs.Lists.{length_put_row}
use Rattle.history.proofs.StepLaws.{reached_none, reached_more, reached_dry}
use Rattle.noise.specs.Draw.{tries}
use Rattle.delay.specs.Line.{shifted}
use Rattle.excitation.specs.Excitation.{Excitation, state, step_of, sampled_of}
use Rattle.excitation.specs.Window.{line_at}
use Rattle.excitation.proofs.WindowLaws.{lent_whole, same_window, zeros_on, window_made, window_dry}
use Rattle.excitation.proofs.window.slide.Goals as goal

pub loop-i-init : goal.loop-i-init
loop-i-init c =
    let none : 0 + c.args.taps ≡ c.args.taps = omega arith in
    (refl, refl, rw none c.requires.2, reached_none (step_of tries c.args.lpf.now) _ _)

pub get_mixed-requires : goal.get_mixed-requires
get_mixed-requires c =
    let whole = lent_whole c.loop-i.i c.args.taps c.loop-i.window (omega arith) in
    omega (arith, whole)

pub loop-i-preserved : goal.loop-i-preserved
loop-i-preserved c =
    let room : c.loop-i.i + c.args.taps < length c.loop-i.window = omega (arith, c.requires.1, c.loop-i.invariant.0) in
    let whole : length c.get_mixed.new.line ≡ c.args.taps = c.get_mixed.auto.line ∙ lent_whole c.loop-i.i c.args.taps c.loop-i.window (omega arith) in
    let e = ap (λ (r : Option Float). sampled_of r (state c.get_mixed.new.pulse c.get_mixed.new.random (shifted c.get_mixed.new.line))) (sym c.in-Some.is) ∙ c.get_mixed.ensures.line_after in
    let made = window_made tries c.args.lpf.now c.loop-i.pulse c.loop-i.random c.loop-i.i c.args.taps c.loop-i.window c.requires.0 room _ _ _ c.get_mixed.new.line c.loop-i.invariant.2 whole e in (
      length_put_row c.loop-i.i (c.loop-i.i + c.args.taps) c.loop-i.window (omega arith) (omega arith) c.get_mixed.new.line (omega arith) ∙ c.loop-i.invariant.0,
      length-set c.loop-i.out c.loop-i.i _ ∙ c.loop-i.invariant.1,
      zeros_on c.loop-i.i c.args.taps c.loop-i.window room c.loop-i.invariant.2 c.get_mixed.new.line whole,
      reached_more (step_of tries c.args.lpf.now) c.loop-i.i _ _ _ c.loop-i.out _ _ c.loop-i.invariant.3 made (omega (arith, c.loop-i.invariant.1)),
    )

pub returns-in_default : goal.returns-in_default
returns-in_default c =
    let stays = c.get_mixed.ensures.unchanged c.in_default.is in
    let e = ap (λ (r : Option Float). sampled_of r (state c.get_mixed.new.pulse c.get_mixed.new.random (shifted c.get_mixed.new.line))) (sym c.in_default.is) ∙ c.get_mixed.ensures.line_after in
    let dry = window_dry tries c.args.lpf.now c.loop-i.pulse c.loop-i.random c.loop-i.i c.args.taps c.loop-i.window c.requires.0 (omega (arith, c.requires.1, c.loop-i.invariant.0)) e in
    let f = reached_dry (step_of tries c.args.lpf.now) c.loop-i.i (length c.args.out.now) _ _ c.loop-i.out c.args.out.now c.loop-i.invariant.3 (omega arith) dry in
    let i = c.loop-i.i in
    record {
      state = ap (λ (s : Excitation). state s.pulse s.random (line_at i c.args.taps (put_row i (i + c.args.taps) s.line c.loop-i.window))) stays
          ∙ ap (λ (w : List Float). state c.loop-i.pulse c.loop-i.random (line_at i c.args.taps w)) (same_window i c.args.taps c.loop-i.window) ∙ f.0;
      count = f.1;
      stand = f.2;
    }
