-- `finish` meets its contract. Assumes nothing.
use borrow.Author.Rules.{rules}
use mathlib.Core.Path.{◌≡◌, sym}
use native.Mathlib.Omega.{arith}
use Prim.Native.Nat.{◌≤◌}
use lib.ListN.{length}
use lib.Seq.{length-take-le}
use Rattle.configuration.proofs.LimitsLaws.{sizes}
use Rattle.drawing.proofs.sound.finish.Goals as goal
use Rattle.drawing.proofs.sound.finish.Goals.{Start}

long_coefficients : (c : Start) → c.args.voice.configuration.nmcp ≤ length c.args.voice.coefficients
long_coefficients c = let long : length c.args.voice.coefficients ≡ 64 = search rules in omega (arith, (sizes c.args.voice.configuration c.requires).nmcp_most, long)

pub slice_bounds-c-end : goal.slice_bounds-c-end
slice_bounds-c-end c = long_coefficients (goal.at.slice_bounds-c-end c).Start

pub slice_bounds-filter_stage-end : goal.slice_bounds-filter_stage-end
slice_bounds-filter_stage-end c = sym (length-take-le _ _ (long_coefficients (goal.at.slice_bounds-filter_stage-end c).Start))
