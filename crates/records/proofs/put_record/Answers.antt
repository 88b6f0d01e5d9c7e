-- `put_record` meets its contract: two numbers, one after the other. Assumes nothing.
use mathlib.Core.Path.{◌∙◌, ap}
use mathlib.Core.List.{List}
use Prim.Native.Nat.{ℕ, ◌+◌, ◌*◌}
use Rattle.number.specs.Bytes.{put_at}
use Rattle.records.proofs.RecordLaws.{record_put}
use Rattle.records.proofs.put_record.Goals as goal

pub returns : goal.returns
returns c = c.put_word-2.ensures.put ∙ ap (λ (l : List ℕ). put_at l (16 * c.args.number + 8) c.args.value) c.put_word.ensures.put ∙ record_put _ _ _ c.requires
