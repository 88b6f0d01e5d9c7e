-- A sample in the window: the next line stands one place on, and only zeros are past it. Assumes nothing.
use mathlib.Core.Path.{◌≡◌, refl, sym, ap, ◌∙◌}
use mathlib.Core.List.{List, [], ◌∷◌, ◌++◌}
use Prim.Native.Nat.{ℕ, ◌+◌, ◌-◌, ◌≤◌, ◌<◌}
use native.Mathlib.Omega.{arith}
use lib.Ieee.{Float, nan}
use lib.ListN.{length, take, drop, replicate, length-append, length-drop, get_or-replicate}
use lib.Seq.{length-take-le, get_or-drop, drop-drop, take_at, drop_at, drop-append-le, append_snoc}
use borrow.Author.Tests.{ne_eqb}
use Rattle.number.specs.F64.{◌‼◌, 0f}
use Rattle.number.specs.Lists.{row, put_row}
use Rattle.number.proofs.Lists.{left_next, put_row_rest, put_row_row, length_row, length_put_row, put_row_after}
use Rattle.history.specs.Steps.{dry, one}
use Rattle.noise.specs.declared.Random.{Random}
use Rattle.pulse.specs.declared.Pulse.{Pulse}
use Rattle.delay.specs.Line.{shifted}
use Rattle.excitation.specs.Excitation.{state, mixed_step, step_of}
use Rattle.excitation.specs.Window.{line_at, ZeroFrom}
use Rattle.excitation.proofs.GetLaws.{step_mixed}

module _ (i taps : ℕ) (window : List Float) where
  -- what `&mut window[i..i + taps]` lends
  pub lent_line : row i (i + taps) window ≡ line_at i taps window
  lent_line = let n : i + taps - i ≡ taps = omega arith in rw n refl

  pub lent_whole : i + taps ≤ length window → length (row i (i + taps) window) ≡ taps
  lent_whole h = length_row i (i + taps) window (omega arith) h ∙ (omega arith)

  -- and given back as it was
  pub same_window : put_row i (i + taps) (row i (i + taps) window) window ≡ window
  same_window = put_row_row i (i + taps) window (omega arith)

  module _ (room : i + taps < length window) (zeros : ZeroFrom (i + taps) window) where
    -- past the line there is a zero
    zero_past : window ‼ (i + taps) ≡ 0f
    zero_past =
        let e = i + taps in
        let at : e + 0 ≡ e = omega arith in
        let there = replicate (length window) 0f in
        ap (λ (k : ℕ). window ‼ k) (sym at) ∙ sym (get_or-drop e window 0 nan) ∙ ap (λ (l : List Float). l ‼ 0) zeros ∙ get_or-drop e there 0 nan ∙ get_or-replicate (length window) (e + 0) 0f nan (omega arith)

    module _ (part : List Float) (whole : length part ≡ taps) where
      back_length : length (put_row i (i + taps) part window) ≡ length window
      back_length = length_put_row i (i + taps) window (omega arith) (omega arith) part (omega arith)

      -- after the line that the sample has left, only zeros
      pub zeros_on : ZeroFrom (i + 1 + taps) (put_row i (i + taps) part window)
      zeros_on =
          let e = i + taps in
          let next : i + 1 + taps ≡ e + 1 = omega arith in
          let there = replicate (length window) 0f in
          rw (back_length, next, ← drop-drop 1 e (put_row i e part window), put_row_after i e window (omega arith) (omega arith) part (omega arith), ← drop-drop 1 e there) (ap (drop 1) zeros)

      -- one place on, the line is shifted
      pub next_line : 0 < taps → line_at (i + 1) taps (put_row i (i + taps) part window) ≡ shifted part
      unfolding shifted
      next_line some =
          let e = i + taps in
          let rest = drop (e + 1) window in
          let front : length (take i window) ≡ i = length-take-le i window (omega arith) in
          let size : length (drop 1 part ++ (0f ∷ [])) ≡ taps = simp (length-append, length-drop) (omega arith) in
          let past : drop e window ≡ 0f ∷ rest = left_next window e nan room ∙ ap (λ (x : Float). x ∷ rest) zero_past in
          let on : drop (i + 1) (put_row i e part window) ≡ drop 1 part ++ (0f ∷ rest) =
          sym (drop-drop 1 i (put_row i e part window)) ∙ ap (λ (l : List Float). drop 1 (drop i l)) (put_row_rest i e window (omega arith) part) ∙ ap (drop 1) (drop_at (take i window) (part ++ drop e window) i front) ∙ drop-append-le 1 part (drop e window) (omega arith) ∙ ap (λ (l : List Float). drop 1 part ++ l) past in
          ap (take taps) (on ∙ sym (append_snoc (drop 1 part) 0f rest)) ∙ take_at (drop 1 part ++ (0f ∷ [])) rest taps size

-- ---- what the sample comes to, by what `get_mixed` answers
module _ (bound : ℕ) (lpf : List Float) (pulse : Pulse) (random : Random) (i taps : ℕ) (window : List Float) (some : 0 < taps) (room : i + taps < length window) where
  lent_step : mixed_step bound lpf (state pulse random (row i (i + taps) window)) ≡ step_of bound lpf (state pulse random (line_at i taps window))
  lent_step =
      let n : length (row i (i + taps) window) ≡ taps = lent_whole i taps window (omega arith) in
      step_mixed bound (state pulse random (row i (i + taps) window)) lpf (ne_eqb (length (row i (i + taps) window)) 0 (omega arith)) ∙ ap (λ (l : List Float). step_of bound lpf (state pulse random l)) (lent_line i taps window)

  pub window_made : (x : Float) (next : Pulse) (z : Random) (part : List Float) → ZeroFrom (i + taps) window → length part ≡ taps
      → one x (state next z (shifted part)) ≡ mixed_step bound lpf (state pulse random (row i (i + taps) window))
      → step_of bound lpf (state pulse random (line_at i taps window)) ≡ one x (state next z (line_at (i + 1) taps (put_row i (i + taps) part window)))
  window_made x next z part zeros whole e = sym lent_step ∙ sym e ∙ ap (λ (l : List Float). one x (state next z l)) (sym (next_line i taps window room zeros part whole some))

  pub window_dry : dry ≡ mixed_step bound lpf (state pulse random (row i (i + taps) window)) → step_of bound lpf (state pulse random (line_at i taps window)) ≡ dry
  window_dry e = sym lent_step ∙ sym e
