-- Document 01's items 1 and 2, and a case that reaches a group of four. Assumes nothing.
use Rattle.std.specs.Prelude.{ℕ, ◌≡◌, refl, false, true, List, [], ◌∷◌, pos, negsuc, replicate, Float}
use Rattle.std.specs.Float.{fin}
use Rattle.std.specs.Float.Ieee.{of_bits, add, sub, mul, neg}
use Rattle.number.specs.F64.{◌⊕◌, ◌⊖◌, ◌⊗◌, −◌, 1f, ◌‼◌}
use Rattle.fir.specs.Fir.{Taps, start, singles, fir_of}

-- m * 2^e, for an odd m (or 0)
abbrev ◌·2^◌ : ℕ → ℕ → Float
m ·2^ e = fin false m (pos e)

infix 95 ◌·2^◌
abbrev zero! : Float
zero! = 0 ·2^ 0

abbrev half : Float
half = fin false 1 (negsuc 0)

-- item 1: alpha 0, d [0, 1, 2, 3], x 5, coefficients [0, 0, 10, 100] give 210 and d [0, 5, 1, 2]
pub item_1 : fir_of zero! (5 ·2^ 0) (zero! ∷ zero! ∷ 5 ·2^ 1 ∷ 25 ·2^ 2 ∷ []) (zero! ∷ 1 ·2^ 0 ∷ 1 ·2^ 1 ∷ 3 ·2^ 0 ∷ [])
    ≡ record { d = zero! ∷ 5 ·2^ 0 ∷ 1 ·2^ 0 ∷ 1 ·2^ 1 ∷ []; y = 105 ·2^ 1 }
unfolding fir_of of_bits add sub mul neg
item_1 = refl

-- item 2: alpha 0.5, d [0, 4], x 2 give 0 and d [1, 3.5]
pub item_2 : fir_of half (1 ·2^ 1) (zero! ∷ zero! ∷ []) (zero! ∷ 1 ·2^ 2 ∷ []) ≡ record { d = 1 ·2^ 0 ∷ fin false 7 (negsuc 0) ∷ []; y = zero! }
unfolding fir_of of_bits add sub mul neg
item_2 = refl

-- ---- alpha 0.5, x 0, d [0, 0, 4, 1, 0, 2^54], coefficients [0, 0, 1, 1, 1, 1]
abbrev pub d_of_four : List Float
d_of_four = zero! ∷ zero! ∷ 1 ·2^ 2 ∷ 1 ·2^ 0 ∷ zero! ∷ 1 ·2^ 54 ∷ []

abbrev pub c_of_four : List Float
c_of_four = zero! ∷ zero! ∷ 1 ·2^ 0 ∷ 1 ·2^ 0 ∷ 1 ·2^ 0 ∷ 1 ·2^ 0 ∷ []

-- as a group of four: 2^53 + 6 and d [0, 0, 2, 3.5, -0.75, 2^53]
pub a_group_of_four : fir_of half zero! c_of_four d_of_four
    ≡ record { d = zero! ∷ zero! ∷ 1 ·2^ 1 ∷ fin false 7 (negsuc 0) ∷ fin true 3 (negsuc 1) ∷ 1 ·2^ 53 ∷ []; y = 4503599627370499 ·2^ 1 }
unfolding fir_of of_bits add sub mul neg
a_group_of_four = refl

-- one by one it would be 2^53 + 4
abbrev one_by_one : Taps
one_by_one = singles half c_of_four 4 2 (start half zero! d_of_four)

pub not_one_by_one : one_by_one.on.y0 ≡ 2251799813685249 ·2^ 2
unfolding singles of_bits add sub mul neg
not_one_by_one = refl

-- with the group's first tap overwritten before the later three read it, it would be 2^53 + 4 too, and the taps 2, 2, 0, 2^53
abbrev overwritten : Taps
overwritten =
    let aa = half ⊗ half in
    let iaa = 1f ⊖ aa in
    let t = start half zero! d_of_four in
    let rem = t.on.rem in
    let e0 = iaa ⊗ rem ⊕ half ⊗ t.d ‼ 2 in
    let e1 = iaa ⊗ (− half ⊗ rem ⊕ e0) ⊕ half ⊗ t.d ‼ 3 in
    let e2 = iaa ⊗ (aa ⊗ rem ⊕ (− half ⊗ e0 ⊕ t.d ‼ 3)) ⊕ half ⊗ t.d ‼ 4 in
    let e3 = iaa ⊗ (aa ⊗ (− half ⊗ rem ⊕ e0) ⊕ (− half ⊗ t.d ‼ 3 ⊕ t.d ‼ 4)) ⊕ half ⊗ t.d ‼ 5 in
    record { d = e0 ∷ e1 ∷ e2 ∷ e3 ∷ []; on = record { rem = rem; y0 = e0 ⊕ e2; y1 = e1 ⊕ e3 } }

pub not_overwritten : overwritten.d ≡ 1 ·2^ 1 ∷ 1 ·2^ 1 ∷ zero! ∷ 1 ·2^ 53 ∷ []
unfolding of_bits add sub mul neg
not_overwritten = refl

pub not_overwritten_sum : overwritten.on.y0 ⊕ overwritten.on.y1 ≡ 2251799813685249 ·2^ 2
unfolding of_bits add sub mul neg
not_overwritten_sum = refl

-- ---- two running sums: alpha 0, x 0, d [0, 1, 2^53, 0, 0, 1, 0], all coefficients 1 give (1 + 1) + 2^53; one sum would give 2^53
pub two_sums : (fir_of zero! zero! (replicate 7 (1 ·2^ 0)) (zero! ∷ 1 ·2^ 0 ∷ 1 ·2^ 53 ∷ zero! ∷ zero! ∷ 1 ·2^ 0 ∷ zero! ∷ [])).y ≡ 4503599627370497 ·2^ 1
unfolding fir_of of_bits add sub mul neg
two_sums = refl
