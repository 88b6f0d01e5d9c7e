-- Floats that come back from their bits: their lists, and the one form of the NaN. Assumes nothing.
use mathlib.Core.Path.{◌≡◌, refl, ◌∙◌, ap}
use mathlib.Core.Bool.{Bool, true, false, not}
use mathlib.Core.List.{List, [], ◌∷◌, ◌++◌, map}
use Prim.Native.Nat.{ℕ, zero, suc}
use lib.Ieee.{Float, of_bits, to_bits}
use lib.ListN.{length, get_or, take, drop}
use Rattle.number.specs.F64.{0f}
use Rattle.number.specs.Bits.{bits_of, float_of, other_nan}
use Rattle.number.proofs.Floats.{both_first, both_second}
use Rattle.number.proofs.BitLaws.{other_nan_lost}
use Rattle.refusing.specs.Refusal.{every}
use Rattle.voice.specs.declared.Voice.{Voice}
use Rattle.slots.specs.Slots.{bits, floats_at}
use Rattle.slots.specs.Sound.{one_form}
use Rattle.trips.proofs.PartLaws.{part_here}

-- x comes back from its bits, as every f64 does
abbrev pub Stays : Float → Type 0
Stays x = float_of (bits_of x) ≡ x

-- and so does every entry
abbrev pub AllStay : List Float → Type 0
AllStay xs = map float_of (bits xs) ≡ xs

pub zero_stays : AllStay (0f ∷ 0f ∷ [])
unfolding of_bits to_bits
zero_stays = refl

-- every float of a voice comes back from its bits
pub record Same (v : Voice) : Type 0 where
  pub alpha : Stays v.configuration.alpha
  pub beta : Stays v.configuration.beta
  pub volume : Stays v.configuration.volume
  pub nodata : Stays v.configuration.nodata
  pub low : Stays v.configuration.low
  pub high : Stays v.configuration.high
  pub pitch : Stays v.pulse.pitch
  pub counter : Stays v.pulse.counter
  pub increment : Stays v.pulse.increment
  pub end : Stays v.pulse.end
  pub line : AllStay v.line
  pub lpf : AllStay v.lpf
  pub queue : AllStay v.random.queue
  pub coefficients : AllStay v.coefficients
  pub increments : AllStay v.increments
  pub targets : AllStay v.targets
  pub d11 : AllStay v.zero.d11
  pub d12 : AllStay v.zero.d12
  pub d21 : AllStay v.zero.d21
  pub d22 : AllStay v.zero.d22
  pub d : AllStay v.nonzero.d

-- ---- lists

map_take : {A B : Type 0} (f : A → B) (n : ℕ) (l : List A) → map f (take n l) ≡ take n (map f l)
map_take f zero l = refl
map_take f (suc n) [] = refl
map_take f (suc n) (x ∷ l) = ap (λ (m : List _). f x ∷ m) (map_take f n l)

-- the front of a list that stays stays
pub front_stays : (n : ℕ) (xs : List Float) → AllStay xs → AllStay (take n xs)
front_stays n xs e = ap (λ (l : List ℕ). map float_of l) (map_take bits_of n xs) ∙ map_take float_of n (bits xs) ∙ ap (λ (l : List Float). take n l) e

-- the floats read where the bits of xs lie
pub read_back : (ws rest : List ℕ) (at n : ℕ) (xs : List Float) → drop at ws ≡ bits xs ++ rest → length (bits xs) ≡ n → AllStay xs → floats_at ws at n ≡ xs
read_back ws rest at n xs here size stay = ap (λ (l : List ℕ). map float_of l) (part_here ws (bits xs) rest at n here size) ∙ stay

-- ---- the one form of the NaN

pub one_form_lem : (x : Float) → Stays x → one_form (bits_of x) ≡ true
unfolding one_form
one_form_lem x stay = go (other_nan (bits_of x)) refl
  where
    go : (t : Bool) → other_nan (bits_of x) ≡ t → not t ≡ true
    go true e = absurd (other_nan_lost (bits_of x) e (ap bits_of stay))
    go false e = refl

pub one_forms : (xs : List Float) → AllStay xs → every one_form (bits xs) ≡ true
unfolding every
one_forms [] stay = refl
one_forms (x ∷ xs) stay =
    rw (one_form_lem x (ap (λ (l : List Float). get_or l 0 0f) stay)) (one_forms xs (ap (λ (l : List Float). drop 1 l) stay))

-- a test that both of two lists pass
pub every_both : {A : Type 0} (test : A → Bool) (xs ys : List A) → every test xs ≡ true → every test ys ≡ true → every test (xs ++ ys) ≡ true
unfolding every
every_both test [] ys first second = second
every_both test (x ∷ xs) ys first second =
    rw (both_first (test x) (every test xs) first) (every_both test xs ys (both_second (test x) (every test xs) first) second)
