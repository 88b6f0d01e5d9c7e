-- `close` meets its contract, whether a sample is left or not. Assumes nothing.
use borrow.Author.Rules.{rules}
use mathlib.Core.Path.{◌≡◌, sym}
use Prim.Native.Nat.{◌≤◌}
use native.Mathlib.Omega.{arith}
use lib.ListN.{length}
use lib.Seq.{length-take-le}
use Rattle.configuration.proofs.LimitsLaws.{sizes}
use Rattle.drawing.proofs.sound.close.Goals as goal
use Rattle.drawing.proofs.sound.close.Goals.{Start}

-- the voice has as many targets
some : (c : Start) → length c.args.c.now ≤ length c.args.voice.targets
some c = let long : length c.args.voice.targets ≡ 64 = search rules in omega (arith, (sizes c.args.voice.configuration c.requires.0).nmcp_most, c.requires.1, long)

pub slice_bounds-targets-end : goal.slice_bounds-targets-end
slice_bounds-targets-end c = some (goal.at.slice_bounds-targets-end c).Start

pub slice_bounds-copy_from_slice-end : goal.slice_bounds-copy_from_slice-end
slice_bounds-copy_from_slice-end c = sym (length-take-le _ _ (some (goal.at.slice_bounds-copy_from_slice-end c).Start))

pub copy_from_slice-requires : goal.copy_from_slice-requires
copy_from_slice-requires c = sym (length-take-le _ _ (some (goal.at.copy_from_slice-requires c).Start))
