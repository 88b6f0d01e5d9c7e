-- Every array keeps its length: in a fresh voice, after a frame, and after a sample. Assumes nothing.
use mathlib.Core.Path.{◌≡◌, ◌∙◌}
use mathlib.Core.Bool.{true}
use Prim.Native.Nat.{ℕ}
use lib.ListN.{length-replicate}
use lib.Ieee.{Float}
use Rattle.number.specs.F64.{0f}
use Rattle.history.specs.Steps.{one}
use Rattle.configuration.specs.declared.Configuration.{Configuration}
use Rattle.configuration.specs.Limits.{limits_kept}
use Rattle.voice.specs.declared.Voice.{Voice}
use Rattle.voice.specs.Voice.{at_rest, fresh_voice}
use Rattle.refusing.specs.Refusal.{Frame, earlier}
use Rattle.giving.specs.Give.{given}
use Rattle.drawing.specs.Step.{step}
use Rattle.slots.proofs.CountLaws.{Long}
use Rattle.stream.proofs.KeptLaws.{Kept, given_keeps}
use Rattle.stream.proofs.SampleLaws.{step_keeps}

pub fresh_long : (c : Configuration) → Long (fresh_voice c)
unfolding at_rest
fresh_long c = record {
  line = length-replicate 64 0f;
  lpf = length-replicate 64 0f;
  queue = length-replicate 64 0f;
  coefficients = length-replicate 64 0f;
  increments = length-replicate 64 0f;
  targets = length-replicate 64 0f;
  d11 = length-replicate 6 0f;
  d12 = length-replicate 6 0f;
  d21 = length-replicate 384 0f;
  d22 = length-replicate 6 0f;
  d = length-replicate 512 0f;
}

long_still : (v t : Voice) → Kept v t → Long v → Long t
long_still v t k long = record {
  line = k.line.size ∙ long.line;
  lpf = k.lpf.size ∙ long.lpf;
  queue = k.queue ∙ long.queue;
  coefficients = k.coefficients.size ∙ long.coefficients;
  increments = k.increments.size ∙ long.increments;
  targets = k.targets.size ∙ long.targets;
  d11 = k.filters.zero.d11 ∙ long.d11;
  d12 = k.filters.zero.d12 ∙ long.d12;
  d21 = k.filters.zero.d21.size ∙ long.d21;
  d22 = k.filters.zero.d22 ∙ long.d22;
  d = k.filters.nonzero.size ∙ long.d;
}

pub given_long : (f : Frame) (v : Voice) → Long v → earlier f v ≡ 0 → Long (given f v)
given_long f v long e = long_still v (given f v) (given_keeps f v long e) long

pub step_long : (bound : ℕ) (v t : Voice) (x : Float) → Long v → limits_kept v.configuration ≡ true → step bound v ≡ one x t → Long t
step_long bound v t x long kept e = long_still v t (step_keeps bound v t x long kept e) long
