-- The pulse train, as in the Rust's `start`, `get` and `end`. Assumes nothing.
use Rattle.std.specs.Prelude.{Bool, cond, ◌&&◌, ℕ, pos, Float, Option, unwrap_or}
use Rattle.std.specs.Float.{binary64}
use Rattle.std.specs.Float.Ieee.{of_int, ne, le}
use Rattle.number.specs.F64.{◌⊕◌, ◌⊖◌, ◌⊘◌, 0f, 1f}
use Rattle.root.specs.Root.{root_of}
use Rattle.pulse.specs.declared.Pulse.{Pulse}
use Rattle.pulse.specs.declared.Pulsed.{Pulsed}

-- the document's value for each case: an unvoiced frame has the pitch 0
abbrev pub period_of : Option Float → Float
period_of pitch = unwrap_or pitch 0f

-- a pitch that is not 0: the NaN is not 0, and -0 is
abbrev pub voiced : Float → Bool
voiced p = ne p 0f

abbrev pub train : Float → Float → Float → Float → Pulse
train pitch counter increment end = record { pitch = pitch; counter = counter; increment = increment; end = end }

-- at rest
abbrev pub fresh_pulse : Pulse
fresh_pulse = train 0f 0f 0f 0f

-- a frame begins
unfoldable pub start_of : Pulse → Option Float → ℕ → Pulse
start_of t pitch fperiod =
    let p = period_of pitch in
    cond (voiced t.pitch && voiced p)
    (train t.pitch t.counter ((p ⊖ t.pitch) ⊘ of_int binary64 (pos fperiod)) p)
    (train p p 0f p)

-- the pulse of a voiced sample: where the counter, one more, has come to the pitch, the pitch's root, and the counter is less by the pitch
unfoldable pub pulse_of : Pulse → Pulsed
pulse_of t =
    let counter = t.counter ⊕ 1f in
    let pitch = t.pitch ⊕ t.increment in
    cond (le t.pitch counter)
    (record { sample = root_of t.pitch; pulse = train pitch (counter ⊖ t.pitch) t.increment t.end })
    (record { sample = 0f; pulse = train pitch counter t.increment t.end })

-- a frame ends
unfoldable pub end_of : Pulse → Pulse
end_of t = train t.end t.counter t.increment t.end

-- the train after a sample: where the pitch is 0 it stands still, and the increment is not added
unfoldable pub pulse_after : Pulse → Pulse
pulse_after t = cond (voiced t.pitch) (pulse_of t).pulse t
