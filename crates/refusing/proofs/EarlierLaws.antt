-- What holds of a frame and a voice where none of the rows 2 to 8 applies. Assumes nothing.
use mathlib.Core.Path.{◌≡◌, refl}
use mathlib.Core.Bool.{Bool, true, false, not, ◌&&◌}
use mathlib.Core.List.{List, [], ◌∷◌}
use Prim.Native.Nat.{ℕ, suc, ◌+◌, ◌≤◌}
use native.Mathlib.Omega.{arith}
use lib.Dec.{eqb, ltb, leb}
use lib.ListN.{length}
use borrow.Author.Tests.{eqb-true, ltb-false, not-false}
use Rattle.history.specs.Numbers.{samples_left, spectrum_length, tap_count, not_finite, entry_beyond, meter_full}
use Rattle.history.specs.Machine.{Row, ◌⇒◌, first_of}
use Rattle.configuration.proofs.LimitsLaws.{Sizes, sizes}
use Rattle.voice.specs.declared.Voice.{Voice}
use Rattle.voice.specs.Voice.{idle, acceptable, most_meter}
use Rattle.voice.proofs.IdleLaws.{kept_of}
use Rattle.refusing.specs.Refusal.{Frame, every, small, all_finite, earlier}

-- where no row applies, the first does not, and none of the others does
pub first_none : (test : Bool) (n : ℕ) (rows : List Row) → first_of (test ⇒ suc n ∷ rows) ≡ 0 → (test ≡ false) × (first_of rows ≡ 0)
first_none true n rows e = absurd (omega arith)
first_none false n rows e = (refl, e)

pub record Fits (f : Frame) (v : Voice) : Type 0 where
  pub usable : acceptable v.configuration v.meter v.left v.first v.random.used ≡ true
  pub none_left : v.left ≡ 0
  pub entries : length f.spectrum ≡ v.configuration.nmcp
  pub taps : length f.lpf ≡ v.configuration.nlpf
  pub room : v.meter + v.configuration.fperiod ≤ most_meter

pub sizes_of : (f : Frame) (v : Voice) → Fits f v → Sizes v.configuration
sizes_of f v e = sizes v.configuration (kept_of v.configuration v.meter v.left v.first v.random.used e.usable)

module _ (f : Frame) (v : Voice) where
  abbrev rows_6 : List Row
  rows_6 =
      (leb 1 v.configuration.stage && not (every small f.spectrum)) ⇒ entry_beyond
      ∷ ltb most_meter (v.meter + v.configuration.fperiod) ⇒ meter_full
      ∷ []

  abbrev rows_5 : List Row
  rows_5 = not (all_finite f) ⇒ not_finite ∷ rows_6

  abbrev rows_4 : List Row
  rows_4 = not (eqb (length f.lpf) v.configuration.nlpf) ⇒ tap_count ∷ rows_5

  abbrev rows_3 : List Row
  rows_3 = not (eqb (length f.spectrum) v.configuration.nmcp) ⇒ spectrum_length ∷ rows_4

  pub fits_of : earlier f v ≡ 0 → Fits f v
  unfolding earlier idle
  fits_of e =
      let one = first_none (not (acceptable v.configuration v.meter v.left v.first v.random.used)) 1 (not (eqb v.left 0) ⇒ samples_left ∷ rows_3) e in
      let two = first_none (not (eqb v.left 0)) 2 rows_3 one.1 in
      let three = first_none (not (eqb (length f.spectrum) v.configuration.nmcp)) 3 rows_4 two.1 in
      let four = first_none (not (eqb (length f.lpf) v.configuration.nlpf)) 4 rows_5 three.1 in
      let five = first_none (not (all_finite f)) 5 rows_6 four.1 in
      let six = first_none (leb 1 v.configuration.stage && not (every small f.spectrum)) 6 (ltb most_meter (v.meter + v.configuration.fperiod) ⇒ meter_full ∷ []) five.1 in
      let seven = first_none (ltb most_meter (v.meter + v.configuration.fperiod)) 7 [] six.1 in
      record {
        usable = not-false _ one.0;
        none_left = eqb-true v.left 0 (not-false _ two.0);
        entries = eqb-true (length f.spectrum) v.configuration.nmcp (not-false _ three.0);
        taps = eqb-true (length f.lpf) v.configuration.nlpf (not-false _ four.0);
        room = ltb-false most_meter (v.meter + v.configuration.fperiod) seven.0;
      }
