-- `find_pairs` meets its contract: after i turns the first i pairs are gathered. Assumes nothing.
use mathlib.Core.Path.{◌≡◌, sym, ◌∙◌}
use native.Mathlib.Omega.{arith}
use lib.ListN.{length-set}
use borrow.Author.Rules.{rules}
use Rattle.std.specs.Prelude.{None, Some}
use Rattle.noise.specs.Draw.{tries}
use Rattle.noise.specs.Noise.{found_of}
use Rattle.noise.proofs.GatherLaws.{gathered_none, gathered_more, gathered_dry}
use Rattle.noise.proofs.gather.find_pairs.Goals as goal

pub loop-i-init : goal.loop-i-init
loop-i-init c = (search rules, search rules, search rules, gathered_none tries c.args.next _ _ _)

pub loop-i-preserved : goal.loop-i-preserved
loop-i-preserved c =
    let e : Some c.in-Some.t ≡ found_of tries c.loop-i.last = sym c.in-Some.is ∙ c.find_pair.ensures in (
      length-set c.loop-i.firsts c.loop-i.i _ ∙ c.loop-i.invariant.0,
      length-set c.loop-i.seconds c.loop-i.i _ ∙ c.loop-i.invariant.1,
      length-set c.loop-i.sums c.loop-i.i _ ∙ c.loop-i.invariant.2,
      gathered_more tries c.args.next c.loop-i.i c.loop-i.last c.loop-i.firsts c.loop-i.seconds c.loop-i.sums c.in-Some.t c.loop-i.invariant.3 e (omega arith) (omega arith) (omega arith),
    )

pub returns-in_default : goal.returns-in_default
returns-in_default c =
    let e : None ≡ found_of tries c.loop-i.last = sym c.in_default.is ∙ c.find_pair.ensures in
    gathered_dry tries c.args.next c.loop-i.i c.loop-i.last c.loop-i.firsts c.loop-i.seconds c.loop-i.sums c.loop-i.invariant.3 (omega arith) e
