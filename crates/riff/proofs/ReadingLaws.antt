-- Fields of a file, and the steps of the reader by the answers of its tests. Assumes nothing.
use mathlib.Core.Path.{◌≡◌, refl, sym, ap, ◌∙◌}
use mathlib.Core.Bool.{Bool, true, false, not, ◌&&◌, ◌||◌, cond}
use mathlib.Core.List.{List, []}
use Prim.Native.Nat.{ℕ, zero, suc, ◌+◌, ◌-◌, ◌*◌, ◌/◌, ◌%◌, ◌^◌, ◌≤◌, ◌<◌}
use native.Mathlib.Nat.{mul_comm, mul-le-mul_left, div-mul-le_self, mod-lt, mod-eq_of_lt, add-mul-mod_self_left}
use native.Mathlib.Decide.{dec_le}
use native.Mathlib.Numerals.{add-one}
use native.Mathlib.Omega.{arith}
use mir.Syntax.{w32}
use mir.Val.{SFits, to_z, of_z}
use mir.Facts.{to_z_pos, to_z-of_z}
use Rattle.std.specs.Prelude.{Option, None, Some, is_some, Result, Ok, Err}
use Rattle.std.specs.Option.{ok_or}
use lib.IntN.{ℤ, pos, neg_ℤ, ◌-ℤ◌}
use lib.Dec.{T, leb, ltb, eqb}
use lib.ListN.{length, get_or, set}
use lib.Seq.{sets}
use borrow.Author.Tests.{ne_eqb, le-leb, lt-leb, lt-ltb, le-ltb, leb-false, ltb-true, ltb-false}
use Rattle.number.specs.Bytes.{number_of}
use Rattle.number.proofs.Lists.{left_next, over, sets_front}
use Rattle.riff.specs.declared.reading.Cursor.{Cursor}
use Rattle.riff.specs.declared.reading.Format.{Format}
use Rattle.riff.specs.declared.reading.Place.{Place}
use Rattle.riff.specs.declared.reading.Found.{Found}
use Rattle.riff.specs.declared.refusal.Refusal.{Refusal}
use Rattle.riff.specs.declared.refusal.Refusal.TheVariants.{NotSoundFile, ChunkPastEnd}
use Rattle.riff.specs.declared.writing.Width.{Width}
use Rattle.riff.specs.Refusal as Refusals
use Rattle.riff.specs.Writing.{bytes_in, bits_in}
use Rattle.riff.specs.Reading.{field, block_of, past, format_by, format_of, sampled_by, sampled_of, skipped_of, chunk_of, whole_by, whole_of, on, walk_of, first, end_of, SoundIn, signed_of, number_at, numbers_in, samples_in, numbers_of, Hears}

-- ---- fields

module _ (s : List ℕ) (at : ℕ) where
  -- with the byte behind two
  pub field_three : at + 3 ≤ length s → field 2 s at + 65536 * get_or s (at + 2) 0 ≡ field 3 s at
  unfolding number_of
  field_three h =
      let on : at + 1 + 1 ≡ at + 2 = omega arith in
      rw (left_next s at 0 (omega arith), left_next s (at + 1) 0 (omega arith), on, left_next s (at + 2) 0 (omega arith)) (omega arith)

  pub field_two : at + 2 ≤ length s → get_or s at 0 + 256 * get_or s (at + 1) 0 ≡ field 2 s at
  unfolding number_of
  field_two h = rw (left_next s at 0 (omega arith), left_next s (at + 1) 0 (omega arith)) (omega arith)

  pub field_four : at + 4 ≤ length s → get_or s at 0 + 256 * get_or s (at + 1) 0 + 65536 * get_or s (at + 2) 0 + 16777216 * get_or s (at + 3) 0 ≡ field 4 s at
  unfolding number_of
  field_four h =
      let on : at + 1 + 1 ≡ at + 2 = omega arith in
      let on' : at + 2 + 1 ≡ at + 3 = omega arith in
      rw (left_next s at 0 (omega arith), left_next s (at + 1) 0 (omega arith), on, left_next s (at + 2) 0 (omega arith), on', left_next s (at + 3) 0 (omega arith)) (omega arith)

-- a format chunk that is not refused by its size has at least 16 bytes
pub format_size : (seen : Bool) (size : ℕ) → seen || (not (eqb size 16) && not (eqb size 18) && not (eqb size 40)) ≡ false → 16 ≤ size
format_size seen size h = go (dec_le 16 size)
  where
    or_true : (t : Bool) → t || true ≡ true
    or_true true = refl
    or_true false = refl

    go : Dec (16 ≤ size) → 16 ≤ size
    go (yes y) = y
    go (no n) =
        let e : seen || true ≡ false = rw (ne_eqb size 16 (λ q. omega arith), ne_eqb size 18 (λ q. omega arith), ne_eqb size 40 (λ q. omega arith)) at h in
        let f : true ≡ false = sym (or_true seen) ∙ e in
        absurd (let z : ◌≡◌ {A = ℕ} 0 1 = cc in omega arith)

-- ---- what an option is, by what `ok_or` made of it

module _ {A E : Type 0} (r : E) where
  pub ok_known : (o : Option A) (x : A) → Ok x ≡ ok_or o r → o ≡ Some x
  ok_known None x e = absurd cc
  ok_known (Some y) x e = cc

  pub err_known : (o : Option A) (x : E) → Err x ≡ ok_or o r → (o ≡ None) × (x ≡ r)
  err_known None x e = (refl, cc)
  err_known (Some y) x e = absurd cc

-- ---- a number of two's complement, on the machine

-- w - half is the number of w + half modulo 2 half
centre : (half w : ℕ) → 0 < half → w < 2 * half → pos w -ℤ pos half ≡ signed_of half ((w + half) % (2 * half))
centre zero w p h = absurd (omega arith)
centre (suc n) w p h = go (dec_le (suc n) w)
  where
    go : Dec (suc n ≤ w) → pos w -ℤ pos (suc n) ≡ signed_of (suc n) ((w + suc n) % (2 * suc n))
    go (yes y) =
        let again : w + suc n ≡ (w - suc n) + 2 * suc n * 1 = omega arith in
        let less : (w - suc n) % (2 * suc n) ≡ w - suc n = mod-eq_of_lt (omega arith) in
        rw (again, add-mul-mod_self_left (w - suc n) (2 * suc n) 1, less, le-ltb w (suc n) y, lt-ltb (w - suc n) (suc n) (omega arith)) refl
    go (no k) =
        let below : w < suc n = omega arith in
        let same : (w + suc n) % (2 * suc n) ≡ w + suc n = mod-eq_of_lt (omega arith) in
        let size : 2 * suc n - (w + suc n) ≡ suc (suc n - suc w) = omega arith in
        rw (same, lt-ltb w (suc n) below, le-ltb (w + suc n) (suc n) (omega arith), size) refl

signed_fits : (half v : ℕ) → v < 2 * half → half ≤ 2 ^ 23 → SFits w32 (signed_of half v)
signed_fits half v l h = go (ltb v half) refl
  where
    minus : (m : ℕ) → m < 2 ^ 31 → SFits w32 (neg_ℤ (pos m))
    minus zero h = record { sfits = h }
    minus (suc k) h = record { sfits = omega arith }

    go : (t : Bool) → ltb v half ≡ t → SFits w32 (cond t (pos v) (neg_ℤ (pos (2 * half - v))))
    go true e = record { sfits = omega (arith, ltb-true v half e) }
    go false e = minus (2 * half - v) (omega (arith, ltb-false v half e))

-- on the machine
pub centred_is : (half w : ℕ) → 0 < half → half ≤ 2 ^ 23 → w < 2 * half
    → SFits w32 (to_z w32 w -ℤ to_z w32 half) × (to_z w32 (of_z w32 (to_z w32 w -ℤ to_z w32 half)) ≡ signed_of half ((w + half) % (2 * half)))
centred_is half w p h l =
    let e : to_z w32 w -ℤ to_z w32 half ≡ signed_of half ((w + half) % (2 * half)) = rw (to_z_pos w32 {n = w} (omega arith), to_z_pos w32 {n = half} (omega arith)) (centre half w p l) in
    let fits : SFits w32 (signed_of half ((w + half) % (2 * half))) = signed_fits half ((w + half) % (2 * half)) (mod-lt (w + half) (omega arith)) h in
    rw e (fits, to_z-of_z fits)

-- the sample of k bytes, as the code makes it of their number v, turned to w
pub number_is : (k : ℕ) (s : List ℕ) (at v w : ℕ) (r : ℤ) → 2 ^ (8 * k - 1) ≤ 2 ^ 23 → v < 2 * 2 ^ (8 * k - 1) → v ≡ field k s at → v ≡ (w + 2 ^ (8 * k - 1)) % (2 * 2 ^ (8 * k - 1))
    → r ≡ signed_of (2 ^ (8 * k - 1)) ((w + 2 ^ (8 * k - 1)) % (2 * 2 ^ (8 * k - 1)))
    → (to_z w32 (of_z w32 r) ≡ number_at k s at) × SFits w32 (to_z w32 (of_z w32 r))
number_is k s at v w r h l e t q =
    let told : r ≡ signed_of (2 ^ (8 * k - 1)) v = q ∙ ap (signed_of (2 ^ (8 * k - 1))) (sym t) in
    let fits : SFits w32 r = rw told (signed_fits (2 ^ (8 * k - 1)) v l h) in
    let back = to_z-of_z fits in
    (back ∙ told ∙ ap (signed_of (2 ^ (8 * k - 1))) e, rw back fits)

-- ---- the loop over the samples

module _ (n k : ℕ) (s : List ℕ) (start i : ℕ) (out : List ℤ) where
  pub numbers_turn : (v : ℤ) → i < n → (v ≡ number_at k s (start + k * i)) × SFits w32 v
      → sets (set out i (to_z w32 (of_z w32 v))) (i + 1) (numbers_in (n - (i + 1)) k s (start + k * (i + 1))) ≡ sets out i (numbers_in (n - i) k s (start + k * i))
  unfolding numbers_in
  numbers_turn v h e =
      let more : n - i ≡ suc (n - (i + 1)) = omega arith in
      let further : start + k * (i + 1) ≡ start + k * i + k = omega arith in
      rw (more, further, to_z-of_z e.1, e.0, add-one i) refl

  pub numbers_end : n ≤ i → sets out i (numbers_in (n - i) k s (start + k * i)) ≡ out
  unfolding numbers_in
  numbers_end h = let none : n - i ≡ 0 = omega arith in rw none refl

-- one more sample lies in the file
pub sample_room : (start k i n : ℕ) {room : ℕ} → i < n → start + k * n ≤ room → start + k * i + k ≤ room
sample_room start k i n h l = omega (arith, let more : i + 1 ≤ n = omega arith in mul-le-mul_left k more)

pub length_numbers : (n k : ℕ) (s : List ℕ) (at : ℕ) → length (numbers_in n k s at) ≡ n
unfolding numbers_in
length_numbers zero k s at = refl
length_numbers (suc n) k s at = ap suc (length_numbers n k s (at + k))

pub whole_samples : (k bytes : ℕ) → k * (bytes / k) ≤ bytes
whole_samples k bytes = rw (mul_comm k (bytes / k)) (div-mul-le_self bytes k)

-- ---- what was found lies in the file

-- the samples, where they are known
abbrev pub Within : ℕ → Option Place → Type 0
Within end None = T true
Within end (Some p) = p.start + p.bytes ≤ end

-- a step keeps the samples in the file, and goes on to a later place
abbrev SoundBy : ℕ → Cursor → Result Cursor Refusal → Type 0
SoundBy end c (Ok d) = Within end d.place × (c.at < d.at)
SoundBy end c (Err r) = T true

module _ (s : List ℕ) (end : ℕ) (c : Cursor) (before : Within end c.place) where
  format_inside : (size room : ℕ) → SoundBy end c (format_of s c size room)
  unfolding format_of
  format_inside size room =
      go (is_some c.format || (not (eqb size 16) && not (eqb size 18) && not (eqb size 40))) (ltb room size) (field 4 s (c.at + 12)) (block_of s (c.at + 8) size)
    where
      go : (t u : Bool) (rate : ℕ) (w : Option Width) → SoundBy end c (cond t (Err NotSoundFile) (cond u (Err ChunkPastEnd) (format_by c size rate w)))
      go true u rate w = tt
      go false true rate w = tt
      go false false rate None = tt
      go false false rate (Some w) = (before, omega arith)

  sampled_inside : (size room : ℕ) → c.at + 8 + room ≤ end → SoundBy end c (sampled_of c size room)
  unfolding sampled_of
  sampled_inside size room h = by c.format
    where
      go : (f : Format) (t u : Bool) → ltb room size ≡ u
          → SoundBy end c (cond t (Err NotSoundFile) (cond u (Err ChunkPastEnd) (Ok (record { at = past c size; format = Some f; place = Some (record { start = c.at + 8; bytes = size }) }))))
      go f true u e = tt
      go f false true e = tt
      go f false false e = (omega (arith, ltb-false room size e), omega arith)

      by : (f : Option Format) → SoundBy end c (sampled_by c size room f)
      by None = tt
      by (Some f) = go f (is_some c.place || not (eqb (size % bytes_in f.width) 0)) (ltb room size) refl

  skipped_inside : (size room : ℕ) → SoundBy end c (skipped_of c size room)
  unfolding skipped_of
  skipped_inside size room = go (ltb room size)
    where
      go : (u : Bool) → SoundBy end c (cond u (Err ChunkPastEnd) (Ok (record { at = past c size; format = c.format; place = c.place })))
      go true = tt
      go false = (before, omega arith)

  chunk_inside : c.at < end → SoundBy end c (chunk_of s end c)
  unfolding chunk_of
  chunk_inside near =
      let size = field 4 s (c.at + 4) in
      let room = end - c.at - 8 in
      go (ltb (end - c.at) 8) (eqb (field 4 s c.at) 0x2074_6d66) (eqb (field 4 s c.at) 0x6174_6164) refl _ _ _
      (format_inside size room) (λ e. sampled_inside size room (omega (arith, ltb-false (end - c.at) 8 e))) (skipped_inside size room)
    where
      go : (u v w : Bool) → ltb (end - c.at) 8 ≡ u → (f g k : Result Cursor Refusal) → SoundBy end c f → (ltb (end - c.at) 8 ≡ false → SoundBy end c g) → SoundBy end c k
          → SoundBy end c (cond u (Err ChunkPastEnd) (cond v f (cond w g k)))
      go true v w e f g k pf pg pk = tt
      go false true w e f g k pf pg pk = pf
      go false false true e f g k pf pg pk = pg e
      go false false false e f g k pf pg pk = pk

whole_sound : (end at : ℕ) (f : Option Format) (p : Option Place) → Within end p → SoundIn end (whole_by at f p)
whole_sound end at None p h = tt
whole_sound end at (Some f) None h = tt
whole_sound end at (Some f) (Some p) h = h

walk_sound : (n : ℕ) (s : List ℕ) (end : ℕ) (c : Cursor) → Within end c.place → SoundIn end (walk_of n s end c)
unfolding walk_of
walk_sound zero s end c h = tt
walk_sound (suc n) s end c h = go (leb end c.at) refl (walk_sound n s end) (chunk_of s end c) (chunk_inside s end c h)
  where
    go : (t : Bool) → leb end c.at ≡ t → ((d : Cursor) → Within end d.place → SoundIn end (walk_of n s end d)) → (a : Result Cursor Refusal) → (c.at < end → SoundBy end c a)
        → SoundIn end (cond t (whole_of c) (on (walk_of n s end) a))
    go true e rest a i = whole_sound end c.at c.format c.place h
    go false e rest (Ok d) i = rest d (i (leb-false end c.at e)).0
    go false e rest (Err r) i = tt

-- ---- the walk is never cut short: with more turns than bytes are left, one more turn changes nothing

walk_more : (n : ℕ) (s : List ℕ) (end : ℕ) (c : Cursor) → Within end c.place → 1 ≤ n → end < c.at + n → walk_of (suc n) s end c ≡ walk_of n s end c
unfolding walk_of
walk_more zero s end c b l h = absurd (omega arith)
walk_more (suc n) s end c b l h = go (leb end c.at) refl (walk_more n s end) (chunk_of s end c) (chunk_inside s end c b)
  where
    go : (t : Bool) → leb end c.at ≡ t → ((d : Cursor) → Within end d.place → 1 ≤ n → end < d.at + n → walk_of (suc n) s end d ≡ walk_of n s end d)
        → (a : Result Cursor Refusal) → (c.at < end → SoundBy end c a)
        → cond t (whole_of c) (on (walk_of (suc n) s end) a) ≡ cond t (whole_of c) (on (walk_of n s end) a)
    go true e rest a i = refl
    go false e rest (Ok d) i = let near = leb-false end c.at e in let j = i near in rest d j.0 (omega (arith, near)) (omega (arith, j.1))
    go false e rest (Err r) i = refl

pub walk_whole : (s : List ℕ) (end m : ℕ) → 1 ≤ length s → end ≤ length s → walk_of (m + length s) s end first ≡ walk_of (length s) s end first
walk_whole s end zero l h = ap (λ (n : ℕ). walk_of n s end first) (omega arith)
walk_whole s end (suc m) l h =
    let e : suc m + length s ≡ suc (m + length s) = omega arith in
    ap (λ (n : ℕ). walk_of n s end first) e ∙ walk_more (m + length s) s end first tt (omega arith) (omega arith) ∙ walk_whole s end m l h

-- ---- the loop of the walk

-- At the cursor c the walk has enough turns left, and from here on answers `all`.
pub record Walking (s : List ℕ) (end : ℕ) (all : Result Found Refusal) (c : Cursor) : Type 0 where
  pub turns : ℕ
  pub enough : end < c.at + turns
  pub some : 1 ≤ turns
  pub inside : Within end c.place
  pub same : walk_of turns s end c ≡ all

walk_step : (n : ℕ) (s : List ℕ) (end : ℕ) (c : Cursor) → 1 ≤ n → walk_of n s end c ≡ cond (leb end c.at) (whole_of c) (on (walk_of (n - 1) s end) (chunk_of s end c))
unfolding walk_of
walk_step zero s end c h = absurd (omega arith)
walk_step (suc n) s end c h = let one : suc n - 1 ≡ n = omega arith in rw one refl

module _ (s : List ℕ) (end : ℕ) (all : Result Found Refusal) (c : Cursor) (w : Walking s end all c) where
  -- at the end of the file, at a chunk that is refused, and after any other
  pub walk_end : end ≤ c.at → whole_of c ≡ all
  walk_end h = (rw (le-leb end c.at h) at (sym (walk_step w.turns s end c w.some))) ∙ w.same

  walk_on : c.at < end → (a : Result Cursor Refusal) → a ≡ chunk_of s end c → on (walk_of (w.turns - 1) s end) a ≡ all
  walk_on h a e = ap (on (walk_of (w.turns - 1) s end)) e ∙ (rw (lt-leb end c.at h) at (sym (walk_step w.turns s end c w.some))) ∙ w.same

  pub walk_refused : c.at < end → (r : Refusal) → Err r ≡ chunk_of s end c → Err r ≡ all
  walk_refused h r e = walk_on h (Err r) e

  pub walk_further : c.at < end → (d : Cursor) → Ok d ≡ chunk_of s end c → c.at < d.at
  walk_further h d e = (rw (← e) at (chunk_inside s end c w.inside h)).1

  pub walk_turn : c.at < end → (d : Cursor) → Ok d ≡ chunk_of s end c → Walking s end all d
  walk_turn h d e =
      let i = rw (← e) at (chunk_inside s end c w.inside h) in
      record {
        turns = w.turns - 1;
        enough = omega (arith, w.enough, w.some, i.1);
        some = omega (arith, w.enough);
        inside = i.0;
        same = walk_on h (Ok d) e;
      }

pub walk_start : (s : List ℕ) (end : ℕ) → 12 ≤ length s → end ≤ length s → Walking s end (walk_of (length s) s end first) first
walk_start s end l h = record { turns = length s; enough = omega arith; some = omega arith; inside = tt; same = refl }

-- within the end, and so within the file
wider : (end n : ℕ) (a : Result Found Refusal) → end ≤ n → SoundIn end a → SoundIn n a
wider end n (Ok f) h i = omega (arith, i)
wider end n (Err r) h i = tt

pub walk_found : (s : List ℕ) (end : ℕ) → end ≤ length s → SoundIn (length s) (walk_of (length s) s end first)
walk_found s end h = wider end (length s) (walk_of (length s) s end first) h (walk_sound (length s) s end first tt)

-- a file that has an end has its first twelve bytes
pub end_long : (s : List ℕ) (end : ℕ) → Ok end ≡ end_of s → 12 ≤ length s
unfolding end_of
end_long s end = go (ltb (length s) 12) refl _
  where
    go : (t : Bool) → ltb (length s) 12 ≡ t → (rest : Result ℕ Refusal) → Ok end ≡ cond t (Err NotSoundFile) rest → 12 ≤ length s
    go true e rest q = absurd cc
    go false e rest q = ltb-false (length s) 12 e

-- ---- what is promised: of a file that is refused, of a buffer that is short, and of all numbers

pub hears_nothing : (sound : Result Found Refusal) (s : List ℕ) (out : List ℤ) (r : Refusal) → sound ≡ Err r
    → Hears sound s out (record { number = Refusals.number_of r; bits = 0; rate = 0; count = 0 }) out
hears_nothing sound s out r e = rw e (record { told = refl; buffer = either (eqb (Refusals.number_of r) 0) })
  where
    either : (t : Bool) → out ≡ cond t (over [] 0 out) out
    either true = refl
    either false = refl

module _ (f : Found) (s : List ℕ) (out : List ℤ) where
  pub hears_count : length out < samples_in f → Hears (Ok f) s out (record { number = 23; bits = bits_in f.format.width; rate = f.format.rate; count = samples_in f }) out
  hears_count h = record { told = rw (lt-ltb (length out) (samples_in f) h) refl; buffer = refl }

  -- as the code has it, with the bits and the bytes of a sample
  pub hears_all : (width : Width) (bits bytes : ℕ) (after : List ℤ) → width ≡ f.format.width → bits ≡ bits_in f.format.width → bytes ≡ bytes_in f.format.width
      → f.place.bytes / bytes ≤ length out → after ≡ sets out 0 (numbers_in (f.place.bytes / bytes) (bytes_in width) s f.place.start)
      → Hears (Ok f) s out (record { number = 0; bits = bits; rate = f.format.rate; count = f.place.bytes / bytes }) after
  hears_all width bits bytes after ew ei ey h e =
      let made = numbers_of s (Ok f) in
      rw (ei, ey)
      (record {
        told = rw (le-ltb (length out) (samples_in f) (rw ey at h)) refl;
        buffer = rw (ew, ey) at e ∙ sets_front made out (length made) refl (omega (arith, length_numbers (samples_in f) (bytes_in f.format.width) s f.place.start, rw ey at h));
      })
