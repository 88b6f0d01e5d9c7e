-- What no slot saves: entries past nmcp or nlpf, and the filter of the other stages. It is clean where it is as in a fresh voice. Assumes nothing.
use Rattle.std.specs.Prelude.{◌≡◌, cond, List, ℕ, ◌*◌, eqb, Float, take, replicate}
use Rattle.number.specs.F64.{0f}
use Rattle.mlsa.specs.declared.MelLogSpectrumApproximation.{MelLogSpectrumApproximation}
use Rattle.mlsa.specs.Mlsa.{filter, fresh_filter}
use Rattle.mglsa.specs.declared.MelGeneralizedLogSpectrumApproximation.{MelGeneralizedLogSpectrumApproximation}
use Rattle.mglsa.specs.Mglsa.{fresh_rows}
use Rattle.configuration.specs.declared.Configuration.{Configuration}
use Rattle.voice.specs.declared.Voice.{Voice}
use Rattle.voice.specs.Voice.{in_front}

-- an array of so many entries with zeros from the nth on
abbrev pub zeros_from : (n size : ℕ) → List Float → List Float
zeros_from n size array = in_front (take n array) (replicate size 0f)

-- the filters with zeros in what is not in use
unfoldable pub clean_zero : Configuration → MelLogSpectrumApproximation → MelLogSpectrumApproximation
clean_zero c f = cond (eqb c.stage 0) (filter f.d11 f.d12 (zeros_from (6 * c.nmcp) 384 f.d21) f.d22) fresh_filter

unfoldable pub clean_nonzero : Configuration → MelGeneralizedLogSpectrumApproximation → MelGeneralizedLogSpectrumApproximation
clean_nonzero c f = cond (eqb c.stage 0) fresh_rows (record { d = zeros_from (c.stage * c.nmcp) 512 f.d })

pub record Clean (v : Voice) : Type 0 where
  pub line : v.line ≡ zeros_from v.configuration.nlpf 64 v.line
  pub lpf : v.lpf ≡ zeros_from v.configuration.nlpf 64 v.lpf
  pub coefficients : v.coefficients ≡ zeros_from v.configuration.nmcp 64 v.coefficients
  pub increments : v.increments ≡ zeros_from v.configuration.nmcp 64 v.increments
  pub targets : v.targets ≡ zeros_from v.configuration.nmcp 64 v.targets
  pub zero : v.zero ≡ clean_zero v.configuration v.zero
  pub nonzero : v.nonzero ≡ clean_nonzero v.configuration v.nonzero
