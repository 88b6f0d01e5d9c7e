-- Any two outcomes that the descriptions of save and restore allow are the same: stated over what each call promises, with no other premise. Assumes nothing.
use mathlib.Core.Path.{◌≡◌, sym, ◌∙◌, ap}
use mathlib.Core.List.{List}
use Prim.Native.Nat.{ℕ}
use lib.ListN.{length}
use Rattle.number.specs.Lists.{over}
use Rattle.voice.specs.declared.Voice.{Voice}
use Rattle.voice.specs.declared.Answered.{Answered}
use Rattle.rest.specs.declared.Saved.{Saved}
use Rattle.rest.specs.Rest.{saved, Saves, Restores}

-- SAVE, with the bytes written and the rest of the buffer
pub save_agrees : (v : Voice) (out : List ℕ) (r s : Saved) (a b : List ℕ) → Saves v out r a → Saves v out s b → (r ≡ s) × (a ≡ b)
save_agrees v out r s a b p q =
    let number : r.number ≡ s.number = p.number ∙ sym q.number in
    let bytes : r.bytes ≡ s.bytes = p.bytes ∙ sym q.bytes in
    (λ i. record { number = number i; bytes = bytes i }, p.buffer ∙ ap (λ (n : ℕ). over (saved (length out) v).bytes n out) bytes ∙ sym q.buffer)

-- RESTORE
pub restore_agrees : (bytes : List ℕ) (v : Voice) (r s : Answered) → Restores bytes v r → Restores bytes v s → r ≡ s
restore_agrees bytes v r s p q =
    let number : r.number ≡ s.number = p.number ∙ sym q.number in
    let voice : r.voice ≡ s.voice = p.voice ∙ sym q.voice in
    λ i. record { number = number i; voice = voice i }
