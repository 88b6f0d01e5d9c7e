-- `ln_inside` meets its contract. Assumes nothing.
use Rattle.std.specs.Prelude.{Ok}
use mathlib.Core.Path.{◌≡◌, refl, sym, ap, ◌∙◌, subst}
use mathlib.Core.Bool.{Bool, true, false}
use lib.Dec.{T}
use lib.Ieee.{Float, binary64, fits, to_bits}
use Rattle.elementary.specs.Exact.{ln_inside, LnAnswer}
use Rattle.logarithm.specs.Ln.{of_pattern, ln_of}
use Rattle.logarithm.proofs.Inside.{bits_least, bits_most}
use Rattle.logarithm.proofs.Found.{meets}
use Rattle.logarithm.proofs.ln_inside.Goals as goal
use Rattle.logarithm.proofs.ln_inside.Goals.{Start}

held : (c : Start) → T (fits binary64 c.args.x)
held c = subst T (sym c.well_formed.0.1) tt

pub of_pattern-requires : goal.of_pattern-requires
of_pattern-requires c = (bits_least c.args.x (held c) c.requires, bits_most c.args.x (held c) c.requires)

at_inside : (x : Float) → T (ln_inside x) → Ok (of_pattern (to_bits binary64 x)) ≡ ln_of x
unfolding ln_of
at_inside x i = go (ln_inside x) refl i
  where
    go : (b : Bool) → ln_inside x ≡ b → T b → Ok (of_pattern (to_bits binary64 x)) ≡ ln_of x
    go true e t = rw e refl
    go false e t = absurd t

pub returns : goal.returns
returns c =
    let same : Ok c.of_pattern.result ≡ ln_of c.args.x = ap Ok c.of_pattern.ensures ∙ at_inside c.args.x c.requires in
    record { result_value = same; ln_answer = subst (LnAnswer c.args.x) (sym same) (meets c.args.x (held (goal.at.returns c).Start)) }
