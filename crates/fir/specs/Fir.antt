-- The filter `fir` of mlsa.rs. Assumes nothing.
use Rattle.std.specs.Prelude.{List, ℕ, zero, suc, ◌+◌, ◌-◌, ◌*◌, ◌/◌, ◌%◌, length, set, Float}
use Rattle.number.specs.F64.{◌⊕◌, ◌⊖◌, ◌⊗◌, −◌, 0f, 1f, ◌‼◌}
use Rattle.fir.specs.declared.Carried.{Carried}

-- the taps, and what is carried on to the next of them
pub record Taps : Type 0 where
  pub d : List Float
  pub on : Carried

-- the first two taps
abbrev pub start : Float → Float → List Float → Taps
start a x d = record {
  d = set (set d 0 (a ⊗ x)) 1 ((1f ⊖ a ⊗ a) ⊗ x ⊕ a ⊗ d ‼ 1);
  on = record { rem = − a ⊗ x ⊕ d ‼ 1; y0 = 0f; y1 = 0f };
}

-- four taps from index i on, each over the old ones
abbrev pub group : Float → List Float → ℕ → Taps → Taps
group a c i t =
    let aa = a ⊗ a in
    let aaaa = aa ⊗ aa in
    let iaa = 1f ⊖ aa in
    let rem = t.on.rem in
    let d0 = t.d ‼ i in
    let d1 = t.d ‼ (i + 1) in
    let d2 = t.d ‼ (i + 2) in
    let d3 = t.d ‼ (i + 3) in
    let e0 = iaa ⊗ rem ⊕ a ⊗ d0 in
    let e1 = iaa ⊗ (− a ⊗ rem ⊕ d0) ⊕ a ⊗ d1 in
    let e2 = iaa ⊗ (aa ⊗ rem ⊕ (− a ⊗ d0 ⊕ d1)) ⊕ a ⊗ d2 in
    let e3 = iaa ⊗ (aa ⊗ (− a ⊗ rem ⊕ d0) ⊕ (− a ⊗ d1 ⊕ d2)) ⊕ a ⊗ d3 in
    record {
      d = set (set (set (set t.d i e0) (i + 1) e1) (i + 2) e2) (i + 3) e3;
      on = record {
        rem = aaaa ⊗ rem ⊕ (aa ⊗ (− a ⊗ d0 ⊕ d1) ⊕ (− a ⊗ d2 ⊕ d3));
        y0 = t.on.y0 ⊕ (c ‼ i ⊗ e0 ⊕ c ‼ (i + 2) ⊗ e2);
        y1 = t.on.y1 ⊕ (c ‼ (i + 1) ⊗ e1 ⊕ c ‼ (i + 3) ⊗ e3);
      };
    }

-- one tap, at index i
abbrev pub tap : Float → List Float → ℕ → Taps → Taps
tap a c i t =
    let rem = t.on.rem in
    let d0 = t.d ‼ i in
    let e0 = (1f ⊖ a ⊗ a) ⊗ rem ⊕ a ⊗ d0 in
    record {
      d = set t.d i e0;
      on = record { rem = − a ⊗ rem ⊕ d0; y0 = t.on.y0 ⊕ c ‼ i ⊗ e0; y1 = t.on.y1 };
    }

-- n groups, and n single taps, from index i on
unfoldable pub groups : Float → List Float → ℕ → ℕ → Taps → Taps
groups a c zero i t = t
groups a c (suc n) i t = groups a c n (i + 4) (group a c i t)

unfoldable pub singles : Float → List Float → ℕ → ℕ → Taps → Taps
singles a c zero i t = t
singles a c (suc n) i t = singles a c n (i + 1) (tap a c i t)

-- n taps from index i on: in groups of four, then one by one
unfoldable pub taps : Float → List Float → ℕ → ℕ → Taps → Taps
unfolding groups singles
taps a c n i t = singles a c (n % 4) (i + n / 4 * 4) (groups a c (n / 4) i t)

-- the taps after the filter, and its answer, the sum of the two running sums
pub record Filtered : Type 0 where
  pub d : List Float
  pub y : Float

unfoldable pub fir_of : Float → Float → List Float → List Float → Filtered
unfolding taps
fir_of a x c d =
    let all = taps a c (length d - 2) 2 (start a x d) in
    record { d = all.d; y = all.on.y0 ⊕ all.on.y1 }
