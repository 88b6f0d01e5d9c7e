-- A frame of f64s given keeps a voice one of f64s. Assumes nothing.
use mathlib.Core.Bool.{◌&&◌}
use mathlib.Core.List.{List, [], ◌∷◌}
use Prim.Native.Nat.{ℕ}
use lib.IntN.{pos}
use lib.ListN.{take}
use lib.Ieee.{Float, binary64, of_int, eq}
use lib.Ieee.Fits.{div-fits}
use Rattle.number.specs.F64.{◌⊖◌, ◌⊘◌, 0f}
use Rattle.number.specs.Range.{clamp_of}
use Rattle.exponential.specs.Exp.{exp_of}
use Rattle.elementary.specs.Outcome.{Outcome, outside, inside}
use Rattle.pulse.specs.declared.Pulse.{Pulse}
use Rattle.std.specs.Prelude.{Option, None, Some}
use Rattle.pulse.specs.Train.{period_of, train, voiced, start_of}
use Rattle.prepare.specs.Preparing.{Spectra}
use Rattle.configuration.specs.declared.Configuration.{Configuration}
use Rattle.voice.specs.declared.Voice.{Voice}
use Rattle.refusing.specs.Refusal.{Frame}
use Rattle.giving.specs.Pitch.{pitch_of}
use Rattle.giving.specs.Begin.{increments_of}
use Rattle.giving.specs.Give.{prepared, begun, begun_with, given}
use Rattle.held.specs.Held.{Holds, AllHeld, HeldPulse, Held, HeldFrame}
use Rattle.held.proofs.OutcomesKeep.{either, Inside, Both}
use Rattle.held.proofs.HeldLists.{zero_held, held_take, held_front}
use Rattle.held.proofs.HeldSpectrum.{prepared_held}

-- the period is a quotient, or 0
period_held : (c : Configuration) (lf0 : Float) → Holds (period_of (pitch_of c lf0))
unfolding pitch_of
period_held c lf0 =
    let rate = of_int binary64 (pos c.rate) in
    let e = exp_of (clamp_of lf0 c.low c.high) in
    either (λ (p : Option Float). Holds (period_of p)) (eq lf0 c.nodata) None (Some (rate ⊘ e)) zero_held (div-fits binary64 rate e)

start_held : (t : Pulse) (pitch : Option Float) (fperiod : ℕ) → HeldPulse t → Holds (period_of pitch) → HeldPulse (start_of t pitch fperiod)
unfolding start_of
start_held t pitch fperiod h k =
    let p = period_of pitch in
    let n = of_int binary64 (pos fperiod) in
    either HeldPulse (voiced t.pitch && voiced p) (train t.pitch t.counter ((p ⊖ t.pitch) ⊘ n) p) (train p p 0f p)
    (record { pitch = h.pitch; counter = h.counter; increment = div-fits binary64 (p ⊖ t.pitch) n; end = k })
    (record { pitch = k; counter = k; increment = zero_held; end = k })

increments_held : (n : ℕ) (targets start : List Float) → AllHeld (increments_of n targets start)
unfolding increments_of
increments_held n [] start = tt
increments_held n (t ∷ targets) [] = tt
increments_held n (t ∷ targets) (s ∷ start) = (div-fits binary64 (t ⊖ s) (of_int binary64 (pos n)), increments_held n targets start)

module _ (f : Frame) (v : Voice) (k : HeldFrame f) (h : Held v) where
  begun_held : (p : Spectra) → Both AllHeld p → Held (begun f p v)
  unfolding begun
  begun_held p s =
      let c = v.configuration in
      let increments = increments_of c.fperiod p.targets p.start in
      record {
        configuration = h.configuration;
        pulse = start_held v.pulse (pitch_of c f.lf0) c.fperiod h.pulse (period_held c f.lf0);
        line = h.line;
        lpf = held_front f.lpf v.lpf k.lpf h.lpf;
        queue = h.queue;
        coefficients = held_front p.start v.coefficients s.start h.coefficients;
        increments = held_front increments v.increments (increments_held c.fperiod p.targets p.start) h.increments;
        targets = held_front p.targets v.targets s.targets h.targets;
        zero = h.zero;
        nonzero = h.nonzero;
      }

  with_outcome : (o : Outcome Spectra) → Inside (Both AllHeld) o → Held (begun_with f v o)
  with_outcome outside s = h
  with_outcome (inside p) s = begun_held p s

-- A FRAME KEEPS A VOICE ONE OF f64s, whether it is accepted or not
pub given_held : (f : Frame) (v : Voice) → HeldFrame f → Held v → Held (given f v)
unfolding given prepared
given_held f v k h =
    let now = take v.configuration.nmcp v.coefficients in
    with_outcome f v k h (prepared f v) (prepared_held v.configuration v.first now f.spectrum (held_take v.configuration.nmcp v.coefficients h.coefficients) k.spectrum)
