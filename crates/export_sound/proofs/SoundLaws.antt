-- What is promised by the bits that were asked for. Assumes nothing.
use mathlib.Core.Path.{◌≡◌, refl}
use mathlib.Core.List.{List}
use Prim.Native.Nat.{ℕ}
use Rattle.riff.specs.declared.writing.Width.{Width}
use Rattle.std.specs.Prelude.{Option, None, Some}
use Rattle.riff.specs.declared.writing.Written.{Written}
use Rattle.riff.specs.Writing.{refused, Writes}
use Rattle.export_sound.specs.Sound.{answer_by, bytes_by}

module _ (asked : Option Width) (f : Width → Written) (g : Width → List ℕ) (out : List ℕ) (r : Written) where
  pub no_width : asked ≡ None → r ≡ refused 1 → Writes (answer_by asked f) (bytes_by asked g) out r out
  no_width e told = rw e (record { told = told; buffer = refl })

  pub of_width : (width : Width) (after : List ℕ) → asked ≡ Some width → Writes (f width) (g width) out r after → Writes (answer_by asked f) (bytes_by asked g) out r after
  of_width width after e w = rw e w
