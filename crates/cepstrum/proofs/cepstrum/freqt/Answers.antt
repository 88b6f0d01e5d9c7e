-- `freqt` meets its contract: the passes that are left, on the array as it is, give what all of them give. Assumes nothing.
use Rattle.std.proofs.Common.{◌≡◌, ℕ, ◌+◌, ◌*◌, ◌/◌, sym, ◌∙◌, ap, length, drop, arith}
use Rattle.number.specs.Lists.{row}
use Rattle.cepstrum.specs.Cepstrum.{passes, freqt_of}
use Rattle.cepstrum.proofs.CepstrumLaws.{passes_turn, passes_done}
use Rattle.cepstrum.proofs.WarpLaws.{wave_passes, passes_row}
use Rattle.cepstrum.proofs.cepstrum.freqt.Goals as goal

pub loop-k-preserved : goal.loop-k-preserved
loop-k-preserved c =
    let a = c.args.alpha in
    let from = 8 * c.loop-k.k in
    let made = c.eight_in.ensures ∙ wave_passes a (row from (from + 8) c.args.c.now) c.loop-k.g (omega arith) in
    let on : 8 * (c.loop-k.k + 1) ≡ from + 8 = omega arith in
    rw on (ap (passes a (drop (from + 8) c.args.c.now)) made ∙ passes_row a c.args.c.now from (from + 8) c.loop-k.g (omega arith) ∙ c.loop-k.invariant)

pub loop-i-preserved : goal.loop-i-preserved
loop-i-preserved c =
    ap (passes c.args.alpha (drop (c.loop-i.i + 1) c.args.c.now)) c.pass_in.ensures ∙ passes_turn c.args.alpha c.args.c.now c.loop-i.i c.loop-i.g (omega arith) ∙ c.loop-i.invariant

pub returns : goal.returns
unfolding freqt_of
returns c =
    let a = c.args.alpha in
    let done : length c.args.c.now / 8 * 8 ≡ 8 * c.loop-k.k = omega (arith, c.loop-k-test.false) in
    sym (passes_done a c.args.c.now c.loop-i.i c.loop-i.g (omega arith)) ∙ c.loop-i.invariant ∙ ap (λ (n : ℕ). passes a (drop n c.args.c.now) c.loop-k.g) done ∙ c.loop-k.invariant
