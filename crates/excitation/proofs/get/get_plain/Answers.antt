-- `get_plain` meets its contract. Assumes nothing.
use mathlib.Core.Path.{ap, ◌∙◌}
use Rattle.pulse.specs.declared.Pulsed.{Pulsed}
use Rattle.history.specs.Steps.{one}
use Rattle.noise.specs.Draw.{tries}
use Rattle.excitation.specs.Excitation.{state}
use Rattle.excitation.proofs.GetLaws.{plain_pulse, plain_taken}
use Rattle.excitation.proofs.get.get_plain.Goals as goal

pub returns-then-pulse-clause-value : goal.returns-then-pulse-clause-value
returns-then-pulse-clause-value c =
    λ line. ap (λ (p : Pulsed). one p.sample (state p.pulse c.args.random.now line)) c.next-pulsed.ensures ∙ plain_pulse tries (state c.args.pulse.now c.args.random.now line) c.if-pulse.true

pub returns-clause-value : goal.returns-clause-value
returns-clause-value c =
    λ line. plain_taken tries (state c.args.pulse.now c.args.random.now line) c.nrandom.result c.nrandom.new.self c.if-pulse.false c.nrandom.ensures.value
