-- `sums` meets its contract: of both, the terms that are left give what all of them give; where none can change either sum, both are done. Assumes nothing.
use mathlib.Core.Path.{◌≡◌, refl, sym, ◌∙◌}
use Prim.Native.Nat.{ℕ, ◌+◌, ◌-◌, ◌*◌, ◌/◌}
use native.Mathlib.Omega.{arith}
use lib.Ieee.{Float}
use Rattle.number.specs.F64.{0f}
use Rattle.vectors.specs.Vectors.{sum_from}
use Rattle.cepstrum.specs.Weights.{weighed_term}
use Rattle.energies.specs.Pairs.{evens, odds}
use Rattle.energies.proofs.PairLaws.{sum_cut, even_stays, odd_stays}
use Rattle.energies.proofs.sums.Goals as goal
use Rattle.energies.proofs.sums.Goals.{After-terms-d}

pub loop-t-init : goal.loop-t-init
loop-t-init c =
    let all : c.args.n + 1 - 1 ≡ c.args.n = omega arith in
    (rw all refl, rw all refl)

-- the sums with 32 more terms
module _ (c : After-terms-d) where
  abbrev k : ℕ
  k = 1 + 32 * c.loop-t.t

  abbrev even_term : ℕ → Float
  even_term = weighed_term (evens c.args.w.now) (evens c.args.r.now) c.args.n

  abbrev odd_term : ℕ → Float
  odd_term = weighed_term (odds c.args.w.now) (odds c.args.r.now) c.args.n

  even_more : sum_from even_term (k + 32) (c.args.n + 1 - (k + 32)) c.terms-d.result.0 ≡ sum_from even_term 1 c.args.n 0f
  even_more = sum_cut even_term k (k + 32) (c.args.n + 1) c.loop-t.d.0 c.terms-d.result.0 (omega arith) (omega arith) c.terms-d.ensures.0 ∙ c.loop-t.invariant.0

  odd_more : sum_from odd_term (k + 32) (c.args.n + 1 - (k + 32)) c.terms-d.result.1 ≡ sum_from odd_term 1 c.args.n 0f
  odd_more = sum_cut odd_term k (k + 32) (c.args.n + 1) c.loop-t.d.1 c.terms-d.result.1 (omega arith) (omega arith) c.terms-d.ensures.1 ∙ c.loop-t.invariant.1

pub returns-then-unmoved-2 : goal.returns-then-unmoved-2
returns-then-unmoved-2 c =
    let made = (goal.at.returns-then-unmoved-2 c).After-terms-d in
    let w = c.args.w.now in
    let r = c.args.r.now in
    let n = c.args.n in
    let k = 1 + 32 * c.loop-t.t + 32 in
    let even = even_stays w r c.args.tops.now c.args.high n k _ c.terms-d.result.0 c.requires.tops.0 c.requires.tops.1 (omega arith) (omega arith) refl (c.unmoved.ensures c.if-unmoved.true) in
    let odd = odd_stays w r c.args.tops.now c.args.high n k _ c.terms-d.result.1 c.requires.tops.0 c.requires.tops.1 (omega arith) (omega arith) refl (c.unmoved-then-unmoved.ensures c.if-unmoved-2.true) in
    (sym even ∙ even_more made, sym odd ∙ odd_more made)

pub loop-t-preserved : goal.loop-t-preserved
loop-t-preserved c =
    let made = (goal.at.loop-t-preserved c).After-terms-d in
    let on : 1 + 32 * (c.loop-t.t + 1) ≡ 1 + 32 * c.loop-t.t + 32 = omega arith in
    (rw on (even_more made), rw on (odd_more made))

pub returns : goal.returns
returns c =
    let here : 1 + 32 * (c.args.n / 32) ≡ 1 + 32 * c.loop-t.t = omega arith in
    ((rw here at c.terms.ensures.0) ∙ c.loop-t.invariant.0, (rw here at c.terms.ensures.1) ∙ c.loop-t.invariant.1)
