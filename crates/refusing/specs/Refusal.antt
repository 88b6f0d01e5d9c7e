-- A frame, and what give refuses of it before it prepares. Assumes nothing.
use Rattle.std.specs.Prelude.{◌≡◌, refl, Bool, true, false, not, ◌&&◌, List, [], ◌∷◌, ℕ, ◌+◌, eqb, ltb, leb, pos, negsuc, length, Float}
use Rattle.std.specs.Float.{nan, fin, inf, binary64}
use Rattle.std.specs.Float.Ieee.{of_bits, neg, le, lt}
use Rattle.number.specs.F64.{−◌, 1f}
use Rattle.number.specs.Range.{finite, is_within}
use Rattle.history.specs.Numbers.{voice_idle, samples_left, spectrum_length, tap_count, not_finite, entry_beyond, meter_full}
use Rattle.history.specs.Machine.{◌⇒◌, first_of}
use Rattle.voice.specs.declared.Voice.{Voice}
use Rattle.configuration.specs.Limits.{limits_kept, usual}
use Rattle.voice.specs.Voice.{at_rest, fresh_voice, idle_voice, acceptable, idle, most_meter}

-- log pitch, spectrum and filter taps
pub record Frame : Type 0 where
  pub lf0 : Float
  pub spectrum : List Float
  pub lpf : List Float

abbrev pub frame : Float → List Float → List Float → Frame
frame lf0 spectrum lpf = record { lf0 = lf0; spectrum = spectrum; lpf = lpf }

-- a test that every entry passes
unfoldable pub every : {A : Type 0} → (A → Bool) → List A → Bool
every test [] = true
every test (x ∷ l) = test x && every test l

-- 2^20
abbrev pub most_size : Float
most_size = of_bits binary64 0x4130_0000_0000_0000

-- not beyond it in size
unfoldable pub small : Float → Bool
small x = is_within x (− most_size) most_size

abbrev pub all_finite : Frame → Bool
all_finite f = finite f.lf0 && every finite f.spectrum && every finite f.lpf

-- ROWS 2 TO 8 OF THE TABLE, in its order
unfoldable pub earlier : Frame → Voice → ℕ
earlier f v =
    let c = v.configuration in
    first_of
    (idle v ⇒ voice_idle
    ∷ not (eqb v.left 0) ⇒ samples_left
    ∷ not (eqb (length f.spectrum) c.nmcp) ⇒ spectrum_length
    ∷ not (eqb (length f.lpf) c.nlpf) ⇒ tap_count
    ∷ not (all_finite f) ⇒ not_finite
    ∷ (leb 1 c.stage && not (every small f.spectrum)) ⇒ entry_beyond
    ∷ ltb most_meter (v.meter + c.fperiod) ⇒ meter_full
    ∷ [])

-- ---- at computed points

pub every_finite : every finite (1f ∷ inf true ∷ []) ≡ false
unfolding every of_bits
every_finite = refl

-- 2^20 is not beyond, and the next float is
pub size_at_end : small (fin true 1 (pos 20)) ≡ true
unfolding small of_bits neg le lt
size_at_end = refl

pub size_beyond : small (fin false 4503599627370497 (negsuc 31)) ≡ false
unfolding small of_bits neg le lt
size_beyond = refl

-- a spectrum and taps of wrong lengths, and a NaN: 4 stands first; a voice that is idle besides: 2
pub first_of_three : earlier (frame nan [] (1f ∷ [])) (fresh_voice usual) ≡ 4
unfolding earlier idle acceptable at_rest limits_kept every of_bits neg lt le
first_of_three = refl

pub idle_before_all : earlier (frame nan [] (1f ∷ [])) idle_voice ≡ 2
unfolding earlier idle acceptable at_rest limits_kept
idle_before_all = refl
