-- `whole_frame` meets its contract. Assumes nothing.
use mathlib.Core.Path.{sym}
use Rattle.refusing.specs.Given.{frame_of}
use Rattle.whole.proofs.WholeLaws.{renders_refused, renders_drawn}
use Rattle.whole.proofs.whole_frame.Goals as goal

pub returns-in-Ok : goal.returns-in-Ok
returns-in-Ok c = renders_drawn (frame_of c.args.frame) c.args.voice c.args.out.now c.args.start _ _ _ (sym c.in-Ok.ensures.number) c.in-Ok.ensures.after c.draw.ensures

pub returns-in-Err : goal.returns-in-Err
returns-in-Err c = rw c.number.ensures (renders_refused (frame_of c.args.frame) c.args.voice c.args.out.now c.args.start c.in-Err.refusal c.in-Err.ensures.number)
