-- Two rows side by side: a tap of each, all taps, both stages, and where the rows lie. Assumes nothing.
use mathlib.Core.Path.{◌≡◌, refl, sym, ◌∙◌, ap}
use mathlib.Core.List.{List, ◌++◌, append_assoc}
use Prim.Native.Nat.{ℕ, ◌+◌, ◌-◌, ◌*◌, ◌≤◌, ◌<◌}
use native.Mathlib.Nat.{add-zero, suc-mul}
use native.Mathlib.Numerals.{add-one}
use native.Mathlib.Omega.{arith}
use lib.Ieee.{Float, nan}
use lib.ListN.{length, take, drop, set, length-drop, length-append, take-append-drop}
use lib.Seq.{take-append-add, length-take-le, take-take, drop-drop, take_at, drop_at, take-set-le, take-set-lt, drop-set-add, drop-set-lt, get_or-take, get_or-drop}
use Rattle.number.specs.F64.{◌⊕◌, ◌⊖◌, ◌⊗◌, 1f, ◌‼◌}
use Rattle.number.specs.Lists.{row, put_row}
use Rattle.number.proofs.Lists.{length_row, later_row, put_row_rest}
use Rattle.mglsa.specs.declared.pair.Row.{Row}
use Rattle.mglsa.specs.declared.pair.Both.{Both}
use Rattle.mglsa.specs.Mglsa.{Passed, passed, warps, warped, dff_of, stage_of}
use Rattle.mglsa.specs.Pair.{standing, started, between, carried, WarpedRow, Warped, both_of}
use Rattle.mglsa.proofs.MglsaLaws.{warp_turn, warp_end, length_stage}
use Rattle.mglsa.proofs.StandingLaws.{standing_start, row_warped, stage_made}

-- ---- a tap of each row

module _ (alpha : Float) (c d : List Float) (i n : ℕ) (s : Both) where
  abbrev first : Row
  first = carried (between (d ‼ (i + 1)) alpha s.first) (d ‼ (i + 1)) (c ‼ (i + 1)) s.first

  abbrev second : Row
  second = carried (between (d ‼ (n + i + 1)) alpha s.second) (d ‼ (n + i + 1)) (c ‼ (i + 1)) s.second

  abbrev after : List Float
  after = set (set d (i + 1) first.before) (n + i + 1) second.before

  module _ (some : 1 ≤ i) (most : i + 1 < n) (long : n + n ≤ length d)
      (b : s.first.before ≡ standing i s.first.here (take n d) ‼ (i - 1)) (b2 : s.second.before ≡ standing i s.second.here (drop n d) ‼ (i - 1)) where
    first_half : take n after ≡ set (take n d) (i + 1) first.before
    first_half = take-set-le n (set d (i + 1) first.before) (n + i + 1) second.before (omega arith) ∙ take-set-lt n d (i + 1) first.before (omega arith)

    on : n + i + 1 ≡ n + (i + 1)
    on = omega arith

    second_half : drop n after ≡ set (drop n d) (i + 1) second.before
    second_half = ap (λ (k : ℕ). drop n (set (set d (i + 1) first.before) k second.before)) on ∙ drop-set-add n (set d (i + 1) first.before) (i + 1) second.before ∙ ap (λ (l : List Float). set l (i + 1) second.before) (drop-set-lt n d (i + 1) first.before (omega arith))

    pub warped_both : Warped alpha c i n s d (record { first = first; second = second }) after
    warped_both =
        let fits : i + 1 < length (take n d) = rw (length-take-le n d (omega arith)) most in
        let fits2 : i + 1 < length (drop n d) = rw length-drop (omega arith) in
        let next : d ‼ (i + 1) ≡ take n d ‼ (i + 1) = sym (get_or-take n d (i + 1) nan (omega arith)) in
        let next2 : d ‼ (n + i + 1) ≡ drop n d ‼ (i + 1) = ap (λ (k : ℕ). d ‼ k) on ∙ sym (get_or-drop n d (i + 1) nan) in
        record {
          first = row_warped alpha c (take n d) (take n after) i s.first _ some fits b next first_half;
          second = row_warped alpha c (drop n d) (drop n after) i s.second _ some fits2 b2 next2 second_half;
        }

-- ---- all taps of a row

-- by its length, and the product of its first tap
pub warped_start : (alpha : Float) (c l : List Float) (n : ℕ) (y : Float) → length l ≡ n → y ≡ l ‼ 0 ⊗ c ‼ 1 → warps alpha c (n - 2) 1 (passed l y) ≡ warped alpha c l
unfolding warped
warped_start alpha c l n y e p = rw (e, p) refl

-- a row l at tap i: the taps that are left make of it what all of them make of l, and the tap before is carried
pub record OnRow (alpha : Float) (c : List Float) (i : ℕ) (l now : List Float) (s : Row) : Type 0 where
  pub taps : warps alpha c (length c - 1 - i) i (passed (standing i s.here now) s.sum) ≡ warped alpha c l
  pub before : s.before ≡ standing i s.here now ‼ (i - 1)

module _ (alpha : Float) (c l : List Float) where
  pub row_started : (s : Row) → 2 ≤ length c → length l ≡ length c → s ≡ started l 0 (c ‼ 1) → OnRow alpha c 1 l l s
  row_started s some e made =
      let as_is : standing 1 s.here l ≡ l = standing_start l s.here (omega arith) (ap (λ (r : Row). r.here) made) in
      let all : length c - 1 - 1 ≡ length c - 2 = omega arith in
      record {
        taps = rw (all, as_is) (warped_start alpha c l (length c) s.sum e (ap (λ (r : Row). r.sum) made));
        before = ap (λ (r : Row). r.before) made ∙ sym (ap (λ (t : List Float). t ‼ 0) as_is);
      }

  pub row_on : (i : ℕ) (now after : List Float) (s next : Row) → i < length c - 1 → OnRow alpha c i l now s → WarpedRow alpha c i s now next after → OnRow alpha c (i + 1) l after next
  row_on i now after s next h o w =
      let back : i + 1 - 1 ≡ i = omega arith in
      record {
        taps = ap (warps alpha c (length c - 1 - (i + 1)) (i + 1)) w.tap ∙ warp_turn alpha c (length c - 1) i _ h ∙ o.taps;
        before = rw back w.before;
      }

  pub row_done : (i : ℕ) (now : List Float) (s : Row) → i ≡ length c - 1 → OnRow alpha c i l now s → passed (standing (length c - 1) s.here now) s.sum ≡ warped alpha c l
  row_done i now s e o =
      ap (λ (k : ℕ). passed (standing k s.here now) s.sum) (sym e) ∙ sym (warp_end alpha c (length c - 1) i _ (omega arith)) ∙ o.taps

-- the rows of a list of n + n
module _ (d : List Float) (n : ℕ) (some : 2 ≤ n) (e : length d ≡ n + n) where
  pub first_length : length (take n d) ≡ n
  first_length = length-take-le n d (omega arith)

  pub second_length : length (drop n d) ≡ n
  second_length = rw length-drop (omega arith)

  pub first_tap : take n d ‼ 0 ≡ d ‼ 0
  first_tap = get_or-take n d 0 nan (omega arith)

  pub second_tap : drop n d ‼ 0 ≡ d ‼ n
  second_tap = get_or-drop n d 0 nan ∙ rw add-zero refl

  -- each begins as the list has it
  pub first_started : (factor : Float) → started d 0 factor ≡ started (take n d) 0 factor
  first_started factor = rw (first_tap, get_or-take n d 1 nan some) refl

  pub second_started : (factor : Float) → started d n factor ≡ started (drop n d) 0 factor
  second_started factor = rw (second_tap, get_or-drop n d 1 nan) refl

-- ---- both stages

-- both, by what each row comes to
both_of_lem : (alpha : Float) (c d p q after : List Float) (x y y2 : Float)
    → passed p (x ⊖ y) ≡ dff_of alpha c (passed (take (length c) d) x)
    → passed q (x ⊖ y ⊖ y2) ≡ dff_of alpha c (passed (drop (length c) d) (x ⊖ y))
    → after ≡ p ++ q → passed after (x ⊖ y ⊖ y2) ≡ both_of alpha c (passed d x)
unfolding both_of
both_of_lem alpha c d p q after x y y2 a b e = rw (e, ← a, ← b) refl

-- both, as the loop and the stores after it leave the rows
module _ (alpha : Float) (c d taps : List Float) (s : Both) (x : Float) where
  abbrev size : ℕ
  size = length c

  abbrev out : Float
  out = x ⊖ s.first.sum

  abbrev out2 : Float
  out2 = out ⊖ s.second.sum

  -- what goes in at the front of either row
  abbrev in1 : Float
  in1 = alpha ⊗ taps ‼ 0 ⊕ (1f ⊖ alpha ⊗ alpha) ⊗ out

  abbrev in2 : Float
  in2 = alpha ⊗ taps ‼ size ⊕ (1f ⊖ alpha ⊗ alpha) ⊗ out2

  abbrev moved : List Float
  moved = set (set taps 1 (taps ‼ 0)) (size + 1) (taps ‼ size)

  abbrev stored : List Float
  stored = set (set moved 0 in1) size in2

  module _ (some : 2 ≤ size) (e : length taps ≡ size + size) where
    first_stored : take size stored ≡ set (set (take size taps) 1 (take size taps ‼ 0)) 0 (alpha ⊗ take size taps ‼ 0 ⊕ (1f ⊖ alpha ⊗ alpha) ⊗ out)
    first_stored =
        rw (first_tap taps size some e) (
        take-set-le size (set moved 0 in1) size in2 (omega arith) ∙ take-set-lt size moved 0 in1 (omega arith)
        ∙ ap (λ (l : List Float). set l 0 in1) (take-set-le size (set taps 1 (taps ‼ 0)) (size + 1) (taps ‼ size) (omega arith) ∙ take-set-lt size taps 1 (taps ‼ 0) (omega arith)))

    second_stored : drop size stored ≡ set (set (drop size taps) 1 (drop size taps ‼ 0)) 0 (alpha ⊗ drop size taps ‼ 0 ⊕ (1f ⊖ alpha ⊗ alpha) ⊗ out2)
    second_stored =
        let at : size ≡ size + 0 = omega arith in
        rw (second_tap taps size some e) (
        ap (λ (k : ℕ). drop size (set (set moved 0 in1) k in2)) at ∙ drop-set-add size (set moved 0 in1) 0 in2
        ∙ ap (λ (l : List Float). set l 0 in2) (drop-set-lt size moved 0 in1 (omega arith) ∙ drop-set-add size (set taps 1 (taps ‼ 0)) 1 (taps ‼ size)
        ∙ ap (λ (l : List Float). set l 1 (taps ‼ size)) (drop-set-lt size taps 1 (taps ‼ 0) (omega arith))))

    pub both_made : passed (standing (size - 1) s.first.here (take size taps)) s.first.sum ≡ warped alpha c (take size d)
        → passed (standing (size - 1) s.second.here (drop size taps)) s.second.sum ≡ warped alpha c (drop size d)
        → passed stored out2 ≡ both_of alpha c (passed d x)
    both_made first second =
        both_of_lem alpha c d (take size stored) (drop size stored) stored x s.first.sum s.second.sum
        (stage_made alpha c (take size d) (take size taps) (take size stored) size s.first.here x s.first.sum some (first_length taps size some e) first first_stored)
        (stage_made alpha c (drop size d) (drop size taps) (drop size stored) size s.second.here out s.second.sum some (second_length taps size some e) second second_stored)
        (sym (take-append-drop size stored))

-- ---- where the rows lie

-- what is left of the first n + k
drop_take : (n k : ℕ) (l : List Float) → n ≤ length l → drop n (take (n + k) l) ≡ take k (drop n l)
drop_take n k l h =
    let size : length (take n l) ≡ n = length-take-le n l h in
    let cut : take (n + k) l ≡ take n l ++ take k (drop n l) = rw (size, take-append-drop n l) at (take-append-add (take n l) (drop n l) k) in
    rw cut (drop_at (take n l) (take k (drop n l)) n size)

-- two rows put as one part are the one, and then the other
rows_joined : (d p q : List Float) (a n : ℕ) → length p ≡ n → a + n + n ≤ length d
    → put_row a (a + n + n) (p ++ q) d ≡ put_row (a + n) (a + n + n) q (put_row a (a + n) p d)
rows_joined d p q a n lp fits =
    let front : length (take a d ++ p) ≡ a + n = rw (length-append, length-take-le a d (omega arith), lp) refl in
    let one : put_row a (a + n) p d ≡ (take a d ++ p) ++ drop (a + n) d = put_row_rest a (a + n) d (omega arith) p ∙ sym (append_assoc (take a d) p (drop (a + n) d)) in
    let left : drop (a + n + n) ((take a d ++ p) ++ drop (a + n) d) ≡ drop (a + n + n) d = sym (drop-drop n (a + n) ((take a d ++ p) ++ drop (a + n) d)) ∙ ap (drop n) (drop_at (take a d ++ p) (drop (a + n) d) (a + n) front) ∙ drop-drop n (a + n) d in
    put_row_rest a (a + n + n) d (omega arith) (p ++ q)
    ∙ rw (one, put_row_rest (a + n) (a + n + n) ((take a d ++ p) ++ drop (a + n) d) (omega arith) q, take_at (take a d ++ p) (drop (a + n) d) (a + n) front, left) (simp append_assoc)

module _ (alpha : Float) (c d : List Float) (i : ℕ) (x : Float) where
  abbrev n : ℕ
  n = length c

  abbrev from : ℕ
  from = i * n

  -- two rows lent as one part
  module _ (fits : from + n + n ≤ length d) where
    abbrev two : List Float
    two = row from (from + n + n) d

    two_first : take n two ≡ row from (from + n) d
    two_first =
        let whole : from + n + n - from ≡ n + n = omega arith in
        let half : from + n - from ≡ n = omega arith in
        rw (whole, half) (take-take n (n + n) (drop from d) (omega arith))

    two_second : drop n two ≡ row (from + n) (from + n + n) d
    two_second =
        let whole : from + n + n - from ≡ n + n = omega arith in
        let half : from + n + n - (from + n) ≡ n = omega arith in
        rw (whole, half, drop_take n n (drop from d) (rw length-drop (omega arith)), drop-drop n from d) refl

    pub two_stages_of : (taps : List Float) (y : Float) → passed taps y ≡ both_of alpha c (passed two x)
        → passed (put_row from (from + n + n) taps d) y ≡ stage_of alpha c (i + 1) (stage_of alpha c i (passed d x))
    unfolding both_of stage_of
    two_stages_of taps y e =
        let a = dff_of alpha c (passed (row from (from + n) d) x) in
        let next : (i + 1) * n ≡ from + n = rw add-one (suc-mul i n) in
        let size : length a.d ≡ from + n - from = length_stage alpha c (passed (row from (from + n) d) x) ∙ length_row from (from + n) d (omega arith) (omega arith) in
        let there : row (from + n) (from + n + n) (put_row from (from + n) a.d d) ≡ row (from + n) (from + n + n) d = later_row from (from + n) d (omega arith) (omega arith) a.d size (from + n) (from + n + n) (omega arith) in
        let b = dff_of alpha c (passed (row (from + n) (from + n + n) d) a.x) in
        let joined : put_row from (from + n + n) (a.d ++ b.d) d ≡ put_row (from + n) (from + n + n) b.d (put_row from (from + n) a.d d) = rows_joined d a.d b.d from n (size ∙ omega arith) (omega arith) in
        let made : taps ≡ a.d ++ b.d = ap (λ (s : Passed). s.d) e ∙ rw (two_first, two_second) refl in
        let out : y ≡ b.x = ap (λ (s : Passed). s.x) e ∙ rw (two_first, two_second) refl in
        rw (made, out, next, there, joined) refl
