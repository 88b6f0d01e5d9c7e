-- What each answer makes of `lsp2mgc`. Assumes nothing.
use mathlib.Core.Path.{◌≡◌, refl}
use mathlib.Core.List.{List}
use mathlib.Core.Bool.{Bool}
use Prim.Native.Nat.{ℕ}
use lib.IntN.{pos}
use lib.Ieee.{Float, binary64, of_int}
use lib.ListN.{length, set}
use Rattle.number.specs.F64.{−◌, ◌‼◌}
use Rattle.elementary.specs.Outcome.{outside, inside}
use Rattle.vectors.specs.Vectors.{energy_of, times_from}
use Rattle.generalized.specs.Generalized.{ignorm_of, mgc2mgc_of}
use Rattle.lattice.specs.Lattice.{lsp2lpc_of}
use Rattle.lsp.specs.Lsp.{gain_of, lsp2mgc_of, lsp2en_of}

module _ (log : Bool) (s : ℕ) (lsp : List Float) where
  pub mgc_outside_lpc : lsp2lpc_of lsp ≡ outside → lsp2mgc_of log s lsp ≡ outside
  unfolding lsp2mgc_of
  mgc_outside_lpc o = rw o refl

  module _ (lpc : List Float) (g : Float) (i : lsp2lpc_of lsp ≡ inside lpc) (e : g ≡ gain_of log (lsp ‼ 0)) where
    pub mgc_outside_gain : ignorm_of s (set lpc 0 g) ≡ outside → lsp2mgc_of log s lsp ≡ outside
    unfolding lsp2mgc_of
    mgc_outside_gain o = rw (i, ← e, o) refl

    pub mgc_of : (c d : List Float) → ignorm_of s (set lpc 0 g) ≡ inside c → d ≡ times_from 1 (− (of_int binary64 (pos s))) c → lsp2mgc_of log s lsp ≡ mgc2mgc_of s (length lsp) d
    unfolding lsp2mgc_of
    mgc_of c d j f = rw (i, ← e, j, f) refl

  pub en_outside : lsp2mgc_of log s lsp ≡ outside → lsp2en_of log s lsp ≡ outside
  unfolding lsp2en_of
  en_outside o = rw o refl

  pub en_inside : (mgc : List Float) → lsp2mgc_of log s lsp ≡ inside mgc → lsp2en_of log s lsp ≡ inside (energy_of mgc)
  unfolding lsp2en_of
  en_inside mgc i = rw i refl
