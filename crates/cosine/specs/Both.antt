-- The cosines of two arguments: inside with both where both are inside. Definitions, and the definition at computed points.
use Rattle.std.specs.Prelude.{◌≡◌, refl, Float, Result, Ok, Err}
use Rattle.number.specs.F64.{0f, 1f}
use Rattle.elementary.specs.declared.answer.Outside.{Outside}

-- two answers as one, which has numbers where both have one
abbrev pub both_of : Result Float Outside → Result Float Outside → Result (Float × Float) Outside
both_of (Err o) b = Err o
both_of (Ok y) (Err o) = Err o
both_of (Ok y) (Ok z) = Ok (y, z)

pub both_inside : both_of (Ok 0f) (Ok 1f) ≡ Ok (0f, 1f)
both_inside = refl

pub first_outside : both_of (Err (record {})) (Ok 1f) ≡ Err (record {})
first_outside = refl

pub second_outside : both_of (Ok 0f) (Err (record {})) ≡ Err (record {})
second_outside = refl
