-- The row as it would stand without the shift: at the start, a turn on, and pushed at the end. Assumes nothing.
use mathlib.Core.Path.{◌≡◌, refl, sym, ◌∙◌, ap}
use mathlib.Core.List.{List, [], ◌∷◌, ◌++◌, append_assoc}
use Prim.Native.Nat.{ℕ, ◌+◌, ◌-◌, ◌≤◌, ◌<◌}
use native.Mathlib.Numerals.{add-one}
use native.Mathlib.Omega.{arith}
use lib.Ieee.{Float, nan}
use lib.ListN.{length, take, drop, set, length-append, length-take, length-drop}
use lib.Seq.{take-suc-set, take-set-le, drop-set-lt, drop-append-le, take_all, length-take-le, set_at, get_or_at, get_or-append-add}
use Rattle.number.specs.F64.{◌⊕◌, ◌⊖◌, ◌⊗◌, 1f, ◌‼◌}
use Rattle.number.proofs.Lists.{left_next, left_none}
use Rattle.mglsa.specs.Mglsa.{passed, warp_at, warped, pushed, dff_of}
use Rattle.mglsa.specs.declared.pair.Row.{Row}
use Rattle.mglsa.specs.Pair.{standing, between, carried, WarpedRow}
use Rattle.mglsa.proofs.MglsaLaws.{dff_of_lem}

-- ---- at tap i

module _ (d : List Float) (i : ℕ) (some : 1 ≤ i) (most : i + 1 ≤ length d) where
  -- the taps before it
  abbrev front : List Float
  front = take 1 d ++ drop 2 (take (i + 1) d)

  front_length : length front ≡ i
  front_length = simp (length-append, length-take, length-drop) (omega arith)

  standing_here : (here : Float) → standing i here d ‼ i ≡ here
  unfolding standing
  standing_here here = get_or_at front here (drop (i + 1) d) nan i front_length

  standing_next : (here : Float) → i + 1 < length d → standing i here d ‼ (i + 1) ≡ d ‼ (i + 1)
  unfolding standing
  standing_next here h =
      ap (λ (k : ℕ). (front ++ here ∷ drop (i + 1) d) ‼ (k + 1)) (sym front_length)
      ∙ get_or-append-add front (here ∷ drop (i + 1) d) 1 nan ∙ ap (λ (l : List Float). l ‼ 0) (left_next d (i + 1) nan h)

  standing_set : (here tap : Float) → set (standing i here d) i tap ≡ standing i tap d
  unfolding standing
  standing_set here tap = set_at front here (drop (i + 1) d) tap i front_length

  -- the store of the tap at the next place, whose old tap is carried on
  standing_turn : (tap : Float) → i + 1 < length d → standing (i + 1) (d ‼ (i + 1)) (set d (i + 1) tap) ≡ standing i tap d
  unfolding standing
  standing_turn tap h =
      let size : length (take (i + 1) d) ≡ i + 1 = length-take-le (i + 1) d most in
      let done : drop 2 (take (i + 1 + 1) (set d (i + 1) tap)) ≡ drop 2 (take (i + 1) d) ++ (tap ∷ []) = rw (add-one (i + 1), take-suc-set d (i + 1) tap h) (drop-append-le 2 (take (i + 1) d) (tap ∷ []) (omega arith)) in
      rw (take-set-le 1 d (i + 1) tap (omega arith), done, drop-set-lt (i + 1 + 1) d (i + 1) tap (omega arith), left_next d (i + 1) nan h) (simp append_assoc)

-- ---- a turn of one row

module _ (alpha : Float) (c d after : List Float) (i : ℕ) (s : Row) (next : Float) (some : 1 ≤ i) (most : i + 1 < length d) where
  abbrev r : Row
  r = carried (between next alpha s) next (c ‼ (i + 1)) s

  module _ (b : s.before ≡ standing i s.here d ‼ (i - 1)) (n : next ≡ d ‼ (i + 1)) (e : after ≡ set d (i + 1) r.before) where
    moved : standing (i + 1) next after ≡ standing i r.before d
    moved = rw (e, n) (standing_turn d i some (omega arith) _ most)

    tap_warped : passed (standing (i + 1) next after) r.sum ≡ warp_at alpha c i (passed (standing i s.here d) s.sum)
    unfolding warp_at
    tap_warped = rw (moved, standing_here d i some (omega arith) s.here, standing_next d i some (omega arith) s.here most, ← n, ← b, standing_set d i some (omega arith) s.here r.before) refl

    pub row_warped : WarpedRow alpha c i s d r after
    row_warped = record { tap = tap_warped; before = rw moved (sym (standing_here d i some (omega arith) r.before)) }

-- ---- the start and the end of a row

pub standing_start : (d : List Float) (here : Float) → 2 ≤ length d → here ≡ d ‼ 1 → standing 1 here d ≡ d
unfolding standing
standing_start [] here h e = absurd (omega arith)
standing_start (x ∷ []) here h e = absurd (omega arith)
standing_start (x ∷ y ∷ d) here h e = ap (λ (z : Float). x ∷ z ∷ d) e

-- the last is lost
pushed_last : (first last : Float) (d : List Float) → pushed first (d ++ last ∷ []) ≡ first ∷ d
unfolding pushed
pushed_last first last [] = refl
pushed_last first last (x ∷ d) = ap (λ (l : List Float). first ∷ l) (pushed_last x last d)

-- the two stores after the loop
standing_pushed : (d : List Float) (n : ℕ) (first here : Float) → 2 ≤ n → length d ≡ n → pushed first (standing (n - 1) here d) ≡ set (set d 1 (d ‼ 0)) 0 first
unfolding standing
standing_pushed d n first here h e =
    let all : n - 1 + 1 ≡ n = omega arith in
    rw (all, left_none d n (omega arith), take_all n d (omega arith)) (pushed_last first here _ ∙ ends d (omega arith))
  where
    ends : (d : List Float) → 2 ≤ length d → first ∷ (take 1 d ++ drop 2 d) ≡ set (set d 1 (d ‼ 0)) 0 first
    ends [] h = absurd (omega arith)
    ends (x ∷ []) h = absurd (omega arith)
    ends (x ∷ y ∷ d) h = refl

standing_first : (d : List Float) (i : ℕ) (here : Float) → 1 ≤ length d → standing i here d ‼ 0 ≡ d ‼ 0
unfolding standing
standing_first [] i here h = absurd (omega arith)
standing_first (x ∷ d) i here h = refl

-- a stage by what its taps come to
pub stage_made : (alpha : Float) (c d taps after : List Float) (n : ℕ) (here x y : Float) → 2 ≤ n → length taps ≡ n
    → passed (standing (n - 1) here taps) y ≡ warped alpha c d
    → after ≡ set (set taps 1 (taps ‼ 0)) 0 (alpha ⊗ taps ‼ 0 ⊕ (1f ⊖ alpha ⊗ alpha) ⊗ (x ⊖ y))
    → passed after (x ⊖ y) ≡ dff_of alpha c (passed d x)
stage_made alpha c d taps after n here x y h e w put =
    dff_of_lem alpha c d (standing (n - 1) here taps) after x y w
    (put ∙ rw (standing_first taps (n - 1) here (omega arith)) (sym (standing_pushed taps n _ here h e)))
