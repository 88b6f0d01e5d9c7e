-- `size` meets its contract: no acceptable records have another size. Assumes nothing.
use mathlib.Core.Path.{◌≡◌}
use Prim.Native.Nat.{◌%◌, ◌<◌}
use native.Mathlib.Omega.{arith}
use lib.ListN.{length}
use Rattle.rest.specs.Rest.{record_count}
use Rattle.rest.proofs.RestLaws.{part_refused, few_refused, many_refused}
use Rattle.rest.proofs.size.Goals as goal

pub returns-then-bytes-ne0 : goal.returns-then-bytes-ne0
returns-then-bytes-ne0 c =
    let part : length c.args.bytes.now % 16 ≡ 0 → ⊥ = λ e. omega (arith, e, c.if-bytes-ne0.true) in
    part_refused c.args.bytes.now part

pub returns-then-count-lt-CONFIGURATION_SLOTS : goal.returns-then-count-lt-CONFIGURATION_SLOTS
returns-then-count-lt-CONFIGURATION_SLOTS c =
    let few : record_count c.args.bytes.now < 12 = omega (arith, c.if-count-lt-CONFIGURATION_SLOTS.true) in
    few_refused c.args.bytes.now few

pub returns-then-count-gt-MOST_SLOTS : goal.returns-then-count-gt-MOST_SLOTS
returns-then-count-gt-MOST_SLOTS c =
    let many : 917 < record_count c.args.bytes.now = omega (arith, c.if-count-gt-MOST_SLOTS.true) in
    many_refused c.args.bytes.now many
