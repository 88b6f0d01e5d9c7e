-- `start` meets its contract. Assumes nothing.
use mathlib.Core.Path.{◌≡◌, refl, sym, ap, ◌∙◌}
use Prim.Native.Nat.{ℕ}
use mathlib.Core.Bool.{true, false, ◌&&◌}
use lib.IntN.{pos}
use Rattle.std.specs.Prelude.{Option}
use lib.Ieee.{Float, binary64, of_int}
use Rattle.number.specs.F64.{◌⊖◌, ◌⊘◌, 0f}
use Rattle.pulse.specs.declared.Pulse.{Pulse}
use Rattle.pulse.specs.Train.{period_of, voiced, train, start_of}
use Rattle.pulse.proofs.Pulse.start.Goals as goal
use Rattle.pulse.proofs.Pulse.start.Goals.{else-self-via-then-self+else-end, else-self-via-else-self}

-- from one voiced pitch to another, and else
by_steps : (t : Pulse) (pitch : Option Float) (fperiod : ℕ) → voiced t.pitch ≡ true → voiced (period_of pitch) ≡ true
    → train t.pitch t.counter ((period_of pitch ⊖ t.pitch) ⊘ of_int binary64 (pos fperiod)) (period_of pitch) ≡ start_of t pitch fperiod
unfolding start_of
by_steps t pitch fperiod h g = rw (h, g) refl

at_once : (t : Pulse) (pitch : Option Float) (fperiod : ℕ) → (voiced t.pitch && voiced (period_of pitch)) ≡ false
    → train (period_of pitch) (period_of pitch) 0f (period_of pitch) ≡ start_of t pitch fperiod
unfolding start_of
at_once t pitch fperiod h = rw h refl

pub returns-then-end : goal.returns-then-end
returns-then-end c =
    let to : voiced (period_of c.args.pitch) ≡ true = ap voiced (sym c.unwrap_or-end.ensures) ∙ c.if-end.true in
    ap (λ (p : Float). train c.args.self.pitch c.args.self.counter ((p ⊖ c.args.self.pitch) ⊘ of_int binary64 (pos c.args.fperiod)) p) c.unwrap_or-end.ensures ∙ by_steps c.args.self c.args.pitch c.args.fperiod c.if-self.true to

pub returns : goal.returns
returns c =
    let one_is_not : (voiced c.args.self.pitch && voiced (period_of c.args.pitch)) ≡ false =
    elim c.else-self.branch [ else-self-via-then-self+else-end w ↦ rw (← c.unwrap_or-end.ensures, w.if-self.true) w.if-end.false | else-self-via-else-self w ↦ rw w.if-self.false refl ] in
    ap (λ (p : Float). train p p 0f p) c.unwrap_or-end.ensures ∙ at_once c.args.self c.args.pitch c.args.fperiod one_is_not
