-- `excite` meets its contract: what is lent of the line and of the taps is their front. Assumes nothing.
use borrow.Author.Rules.{rules}
use mathlib.Core.Path.{◌≡◌, sym}
use Prim.Native.Nat.{◌≤◌}
use native.Mathlib.Omega.{arith}
use lib.ListN.{length}
use lib.Seq.{length-take-le}
use Rattle.configuration.proofs.LimitsLaws.{sizes}
use Rattle.drawing.proofs.sound.excite.Goals as goal
use Rattle.drawing.proofs.sound.excite.Goals.{Start}

-- the line and the taps are long enough for what is lent of them
long_line : (c : Start) → c.args.voice.configuration.nlpf ≤ length c.args.voice.line
long_line c = let long : length c.args.voice.line ≡ 64 = search rules in omega (arith, (sizes c.args.voice.configuration c.requires.0).nlpf_most, long)

long_lpf : (c : Start) → c.args.voice.configuration.nlpf ≤ length c.args.voice.lpf
long_lpf c = let long : length c.args.voice.lpf ≡ 64 = search rules in omega (arith, (sizes c.args.voice.configuration c.requires.0).nlpf_most, long)

pub slice_bounds-line-end : goal.slice_bounds-line-end
slice_bounds-line-end c = long_line (goal.at.slice_bounds-line-end c).Start

pub slice_bounds-stretch-end : goal.slice_bounds-stretch-end
slice_bounds-stretch-end c = sym (length-take-le _ _ (long_line (goal.at.slice_bounds-stretch-end c).Start))

pub slice_bounds-lpf-end : goal.slice_bounds-lpf-end
slice_bounds-lpf-end c = long_lpf (goal.at.slice_bounds-lpf-end c).Start

pub slice_bounds-stretch-end-2 : goal.slice_bounds-stretch-end-2
slice_bounds-stretch-end-2 c = sym (length-take-le _ _ (long_lpf (goal.at.slice_bounds-stretch-end-2 c).Start))
