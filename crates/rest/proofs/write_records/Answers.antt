-- `write_records` meets its contract: the slots, and their records. Assumes nothing.
use mathlib.Core.Path.{◌∙◌, ap}
use mathlib.Core.List.{List}
use Prim.Native.Nat.{ℕ}
use lib.Seq.{sets}
use Rattle.records.specs.Records.{encoded, numbered}
use Rattle.slots.proofs.CountLaws.{held_long}
use Rattle.rest.proofs.RestLaws.{records_written}
use Rattle.rest.proofs.write_records.Goals as goal

pub returns : goal.returns
returns c =
    c.encode.ensures
    ∙ ap (λ (vs : List ℕ). sets c.args.out.now 0 (encoded (numbered 0 vs))) c.gather.ensures
    ∙ records_written c.args.voice c.args.slots.now c.args.out.now (held_long c.args.voice _ c.well_formed.0) c.requires.0 c.requires.1 c.requires.2
