-- `sound` meets its contract: the excitation, counted, and what is left to do. Assumes nothing.
use borrow.Author.Rules.{rules}
use mathlib.Core.Path.{◌≡◌}
use native.Mathlib.Omega.{arith}
use lib.ListN.{length}
use Rattle.noise.specs.Draw.{tries}
use Rattle.configuration.proofs.LimitsLaws.{sizes}
use Rattle.drawing.proofs.StepLaws.{Long}
use Rattle.drawing.proofs.SoundLaws.{sounded_is}
use Rattle.drawing.proofs.sound.sound.Goals as goal
use Rattle.drawing.proofs.sound.sound.Goals.{Start}

long_line : (c : Start) → length c.args.voice.line ≡ 64
long_line c = search rules

long_coefficients : (c : Start) → length c.args.voice.coefficients ≡ 64
long_coefficients c = search rules

pub returns : goal.returns
returns c =
    let size = sizes c.args.voice.configuration c.requires.0 in
    let long : Long c.args.voice = record { line = omega (arith, size.nlpf_most, long_line (goal.at.returns c).Start); coefficients = omega (arith, size.nmcp_most, long_coefficients (goal.at.returns c).Start) } in
    let r = sounded_is tries (length c.args.samples.now) c.args.voice long c.requires.3 c.requires.1 _ _ _ _ _ _ c.excite-excited.ensures.voice_value c.excite-excited.ensures.made_value c.excite-excited.ensures.samples_after c.finish.ensures in
    record { voice_value = r.0; made_value = r.1; samples_after = r.2 }
