-- `count_of` meets its contract: the stage picks the count. Assumes nothing.
use mathlib.Core.Path.{◌≡◌}
use Prim.Native.Nat.{◌+◌, ◌*◌, ◌≤◌}
use native.Mathlib.Nat.{mul-le-mul}
use native.Mathlib.Omega.{arith}
use borrow.Author.Tests.{eq-eqb, ne_eqb}
use Rattle.configuration.proofs.LimitsLaws.{Sizes, sizes}
use Rattle.slots.specs.Slots.{count_of}
use Rattle.slots.proofs.count_of.Goals as goal
use Rattle.slots.proofs.count_of.Goals.{Start}

small : (c : Start) → Sizes c.args.c
small c = sizes c.args.c c.requires

-- at most 11 rows of 64
rows : (c : Start) → (3 + c.args.c.stage) * c.args.c.nmcp ≤ 704
rows c = let n : 3 + c.args.c.stage ≤ 11 = omega (arith, (small c).stage_most) in mul-le-mul n (small c).nmcp_most

pub overflow_mul-result : goal.overflow_mul-result
overflow_mul-result c = record { fits = omega (arith, (small (goal.at.overflow_mul-result c).Start).nlpf_most) }

pub overflow_add-result : goal.overflow_add-result
overflow_add-result c = record { fits = omega (arith, (small (goal.at.overflow_add-result c).Start).nlpf_most) }

pub overflow_mul-result-then-c-eq0 : goal.overflow_mul-result-then-c-eq0
overflow_mul-result-then-c-eq0 c = record { fits = omega (arith, (small (goal.at.overflow_mul-result-then-c-eq0 c).Start).nmcp_most) }

pub overflow_add-result-then-c-eq0 : goal.overflow_add-result-then-c-eq0
overflow_add-result-then-c-eq0 c =
    record { fits = omega (arith, (small (goal.at.overflow_add-result-then-c-eq0 c).Start).nlpf_most, (small (goal.at.overflow_add-result-then-c-eq0 c).Start).nmcp_most) }

pub returns-then-c-eq0 : goal.returns-then-c-eq0
unfolding count_of
returns-then-c-eq0 c = rw (eq-eqb c.args.c.stage 0 (omega (arith, c.if-c-eq0.true))) (omega arith)

pub overflow_mul-result-2 : goal.overflow_mul-result-2
overflow_mul-result-2 c = record { fits = omega (arith, (small (goal.at.overflow_mul-result-2 c).Start).nlpf_most) }

pub overflow_add-result-2 : goal.overflow_add-result-2
overflow_add-result-2 c = record { fits = omega (arith, (small (goal.at.overflow_add-result-2 c).Start).nlpf_most) }

pub overflow_add-result-3 : goal.overflow_add-result-3
overflow_add-result-3 c = record { fits = omega (arith, (small (goal.at.overflow_add-result-3 c).Start).stage_most) }

pub overflow_mul-result-3 : goal.overflow_mul-result-3
overflow_mul-result-3 c = record { fits = omega (arith, rows (goal.at.overflow_mul-result-3 c).Start) }

pub overflow_add-result-4 : goal.overflow_add-result-4
overflow_add-result-4 c =
    record { fits = omega (arith, (small (goal.at.overflow_add-result-4 c).Start).nlpf_most, rows (goal.at.overflow_add-result-4 c).Start) }

pub returns : goal.returns
unfolding count_of
returns c =
    rw (ne_eqb c.args.c.stage 0 (λ (e : c.args.c.stage ≡ 0). absurd (omega (arith, e, c.if-c-eq0.false)))) (omega arith)
