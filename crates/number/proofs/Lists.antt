-- Laws on lists that loops over slices cite: stores from the front and from the back, a buffer that is filled, rows of a flat array, and runs of stores. Assumes nothing.
use Rattle.std.proofs.Common.{◌≡◌, ℕ, suc, ◌+◌, ◌-◌, ◌<◌, ◌≤◌, List, [], ◌∷◌, ◌++◌, length, get_or, take, drop, set, sym, refl, ap, ◌∙◌, append_assoc, append-nil, le_refl, add-zero, add-one, arith, length-append, length-drop, take-append-drop, drop_of_length-le, length-take, length-take-le, get_or-drop, take_all, drop-cons, get_or-take, take-suc, drop-drop, take-suc-set, take_at, get_or-append-add, drop-set-lt, drop_at}
use lib.Seq.{append_snoc, set_at, set_split, sets, sets-eq}
pub use Rattle.number.specs.Lists.{over, row, put_row}

module _ {ℓ} {A : Type ℓ} where
  -- ---- what is left from j on

  -- it is the element at j, and what is left from j + 1 on
  pub left_next : (l : List A) (j : ℕ) (z : A) → j < length l → drop j l ≡ get_or l j z ∷ drop (j + 1) l
  left_next l j z h = rw (add-one j) (drop-cons l j z h)

  -- from the end on nothing is left
  pub left_none : (l : List A) (j : ℕ) → length l ≤ j → drop j l ≡ []
  left_none l j h = drop_of_length-le l {i = j} h

  -- ---- one store a turn

  -- From the front: f is what the loop makes of the rest. Where that begins with v, and g makes what follows, the store of v at j is a turn.
  pub front_turn : (f g : List A → List A) (l : List A) (j : ℕ) (v z : A) → j < length l
      → f (get_or l j z ∷ drop (j + 1) l) ≡ v ∷ g (drop (j + 1) l)
      → take (j + 1) (set l j v) ++ g (drop (j + 1) (set l j v)) ≡ take j l ++ f (drop j l)
  front_turn f g l j v z h e =
      rw (left_next l j z h, e, add-one j, take-suc-set l j v h, drop-set-lt (suc j) l j v (le_refl (suc j))) (append_snoc (take j l) v (g (drop (suc j) l)))

  -- such a loop's end: all is done, and the rest is empty
  pub front_end : (l r : List A) (j : ℕ) → length l ≤ j → r ≡ [] → take j l ++ r ≡ l
  front_end l r j h e = rw (e, take_all j l h) (append-nil l)

  -- from the back: the store of v at j, in front of what is done
  pub back_turn : (l : List A) (j : ℕ) (v : A) → j < length l → drop j (set l j v) ≡ v ∷ drop (j + 1) l
  back_turn l j v h =
      let k : length (take j l) ≡ j = length-take-le j l (omega arith) in
      rw (set_split l j v h, add-one j) (drop_at (take j l) (v ∷ drop (suc j) l) j k)

  -- ---- a buffer that is filled: `over xs i d`

  -- one more
  pub over_more : (xs d : List A) (i : ℕ) (y : A) → length xs ≡ i → i < length d → set (over xs i d) i y ≡ over (xs ++ (y ∷ [])) (i + 1) d
  over_more xs d i y e h =
      rw (left_next d i y h) (set_at xs (get_or d i y) (drop (i + 1) d) y i e ∙ sym (append_snoc xs y (drop (i + 1) d)))

  -- one more of a list t that is known beforehand
  pub over_known : (t d : List A) (i : ℕ) (z : A) → i < length t → i < length d
      → set (over (take i t) i d) i (get_or t i z) ≡ over (take (i + 1) t) (i + 1) d
  over_known t d i z ht hd =
      let k : length (take i t) ≡ i = length-take-le i t (omega arith) in
      over_more (take i t) d i (get_or t i z) k hd ∙ rw (add-one i, take-suc t i z ht) refl

  -- from i on the buffer reads as it did
  pub over_past : (xs d : List A) (i j : ℕ) (z : A) → length xs ≡ i → get_or (over xs i d) (i + j) z ≡ get_or d (i + j) z
  over_past xs d i j z e = rw (← e) (get_or-append-add xs (drop (length xs) d) j z ∙ get_or-drop (length xs) d j z)

  pub length_over : (xs d : List A) (i : ℕ) → length xs ≡ i → i ≤ length d → length (over xs i d) ≡ length d
  length_over xs d i e h = simp (length-append, length-drop) (omega arith)

  -- the end: nothing of the old is left
  pub over_end : (xs d : List A) (i : ℕ) → length d ≤ i → over xs i d ≡ xs
  over_end xs d i h = rw (left_none d i h) (append-nil xs)

  -- ---- rows of a flat array: `row a e l` and `put_row a e r l`

  module _ (a e : ℕ) (l : List A) (ae : a ≤ e) where
    -- what follows the row is what is left from e on
    pub put_row_rest : (r : List A) → put_row a e r l ≡ take a l ++ (r ++ drop e l)
    put_row_rest r =
        let n : a + (e - a) ≡ e = omega arith in
        rw (drop-drop (e - a) a l, n) refl

    -- a row that is put back as it was changes nothing
    pub put_row_row : put_row a e (row a e l) l ≡ l
    put_row_row = rw (take-append-drop (e - a) (drop a l)) (take-append-drop a l)

    module _ (el : e ≤ length l) where
      pub length_row : length (row a e l) ≡ e - a
      length_row = simp (length-take, length-drop) (omega arith)

      -- the row's element i is the array's a + i
      pub row_at : (i : ℕ) (z : A) → a + i < e → get_or (row a e l) i z ≡ get_or l (a + i) z
      row_at i z h = get_or-take (e - a) (drop a l) i z (omega arith) ∙ get_or-drop a l i z

      module _ (r : List A) (n : length r ≡ e - a) where
        pub length_put_row : length (put_row a e r l) ≡ length l
        length_put_row = simp (length-append, length-take, length-drop) (omega arith)

        before_row : length (take a l) ≡ a
        before_row = length-take-le a l (omega arith)

        -- the row that was put is there
        pub row_put_row : row a e (put_row a e r l) ≡ r
        row_put_row = rw (drop_at (take a l) (r ++ drop (e - a) (drop a l)) a before_row) (take_at r (drop (e - a) (drop a l)) (e - a) n)

        -- what is left from e on is as it was
        pub put_row_after : drop e (put_row a e r l) ≡ drop e l
        put_row_after =
            let k : length (take a l ++ r) ≡ e = simp length-append (omega (arith, before_row)) in
            rw (put_row_rest r, ← append_assoc) (drop_at (take a l ++ r) (drop e l) e k)

        -- a row that starts at e or later is as it was
        pub later_row : (b f : ℕ) → e ≤ b → row b f (put_row a e r l) ≡ row b f l
        later_row b f h =
            let n : e + (b - e) ≡ b = omega arith in
            ap (take (f - b)) (rw (← n, ← drop-drop (b - e) e (put_row a e r l), ← drop-drop (b - e) e l) (ap (drop (b - e)) put_row_after))

  -- ---- a run of stores: `sets s i xs`

  -- one run after the other
  pub sets_append : (xs ys s : List A) (i : ℕ) → sets s i (xs ++ ys) ≡ sets (sets s i xs) (i + length xs) ys
  sets_append [] ys s i = rw (add-zero i) refl
  sets_append (x ∷ xs) ys s i =
      let on : i + suc (length xs) ≡ suc i + length xs = omega arith in
      rw on (sets_append xs ys (set s i x) (suc i))

  -- a whole list stored anew
  pub sets_all : (vs xs : List A) → length vs ≡ length xs → sets vs 0 xs ≡ xs
  sets_all vs xs h =
      let none : drop (0 + length xs) vs ≡ [] = left_none vs (0 + length xs) (omega arith) in
      sets-eq xs vs 0 (omega arith) ∙ rw none (append-nil xs)

  -- from the front: a buffer that is filled
  pub sets_front : (xs d : List A) (i : ℕ) → length xs ≡ i → i ≤ length d → sets d 0 xs ≡ over xs i d
  sets_front xs d i e h = let n : 0 + length xs ≡ i = omega arith in sets-eq xs d 0 (omega arith) ∙ ap (λ (z : ℕ). xs ++ drop z d) n

  -- a row that is put is a run of stores
  pub put_row_sets : (d xs : List A) (a n : ℕ) → length xs ≡ n → a + n ≤ length d → put_row a (a + n) xs d ≡ sets d a xs
  put_row_sets d xs a n e h =
      put_row_rest a (a + n) d (omega arith) xs
      ∙ sym (sets-eq xs d a (omega arith) ∙ append_assoc (take a d) xs (drop (a + length xs) d) ∙ ap (λ (z : ℕ). take a d ++ (xs ++ drop (a + z) d)) e)
