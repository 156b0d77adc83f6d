-- The walk from name to name. Assumes nothing.
use Rattle.std.proofs.Common.{◌≡◌, ℕ, zero, suc, ◌+◌, ◌<◌, ◌≤◌, List, [], ◌∷◌, map, length, get_or, take, drop, sym, refl, ap, ◌∙◌, add-one, add-zero, arith}
use Rattle.std.specs.List.{range_with_len}
use Rattle.std.proofs.lemmas.List.{ext_get_or, length-drop, drop-drop, get_or-drop}
use Rattle.std.proofs.lemmas.List.FromFn.{length-map-range_with_len, get_or-map-range_with_len}
use native.Mathlib.Decide.{le_ind}
use Rattle.reading.specs.Reads.{part}
use Rattle.bookcheck.specs.Layout.{name_at, name_in, names_in}

-- lists made from functions of the index that agree
same_names : (f g : ℕ → List ℕ) (a n : ℕ) → ((k : ℕ) → f (a + k) ≡ g k) → map f (range_with_len a n) ≡ map g (range_with_len 0 n)
same_names f g a n same =
    ext_get_or [] (map f (range_with_len a n)) (map g (range_with_len 0 n)) (length-map-range_with_len f a n ∙ sym (length-map-range_with_len g 0 n))
    (λ k h.
    let below : k < n = omega (arith, length-map-range_with_len f a n) in
    get_or-map-range_with_len f a n k (a + k) [] below refl ∙ same k ∙ sym (get_or-map-range_with_len g 0 n k k [] below (omega arith)))

module _ (bs : List ℕ) (from : ℕ) where
  pub name_at_none : name_at bs from 0 ≡ from
  unfolding name_at
  name_at_none = refl

  pub name_at_more : (n : ℕ) → name_at bs from (n + 1) ≡ name_at bs from n + 1 + get_or bs (name_at bs from n) 0
  unfolding name_at
  name_at_more n = ap (name_at bs from) (add-one n)

  pub from_before : (n : ℕ) → from ≤ name_at bs from n
  unfolding name_at
  from_before zero = omega arith
  from_before (suc n) = omega (arith, from_before n)

  -- a name ends where the next one begins, at the latest where a later one does
  pub name_ends : (k n : ℕ) → k < n → name_at bs from k + 1 + get_or bs (name_at bs from k) 0 ≤ name_at bs from n
  unfolding name_at
  name_ends k n h =
      le_ind (λ (m : ℕ). name_at bs from k + 1 + get_or bs (name_at bs from k) 0 ≤ name_at bs from m)
      (omega arith)
      (λ m l e. omega arith)
      n h

-- the walk in what is left from an index on
module _ (bs : List ℕ) (i : ℕ) where
  name_at_left : (j n : ℕ) → i + name_at (drop i bs) j n ≡ name_at bs (i + j) n
  unfolding name_at
  name_at_left j zero = refl
  name_at_left j (suc n) =
      let same = name_at_left j n in
      omega (arith, same, get_or-drop i bs (name_at (drop i bs) j n) 0, ap (λ k. get_or bs k 0) same)

  name_in_left : (j n : ℕ) → name_in (drop i bs) j n ≡ name_in bs (i + j) n
  name_in_left j n =
      let same = name_at_left j n in
      let next : i + (name_at (drop i bs) j n + 1) ≡ name_at bs (i + j) n + 1 = omega (arith, same) in
      ap (λ l. part (drop i bs) (name_at (drop i bs) j n + 1) l) (get_or-drop i bs (name_at (drop i bs) j n) 0 ∙ ap (λ k. get_or bs k 0) same)
      ∙ ap (λ xs. take (get_or bs (name_at bs (i + j) n) 0) xs) (drop-drop (name_at (drop i bs) j n + 1) i bs ∙ ap (λ k. drop k bs) next)

  pub names_in_left : (n : ℕ) → names_in (drop i bs) 0 n ≡ names_in bs i n
  names_in_left n =
      same_names (name_in (drop i bs) 0) (name_in bs i) 0 n
      (λ k. let same : 0 + k ≡ k = omega arith in ap (name_in (drop i bs) 0) same ∙ name_in_left 0 k ∙ ap (λ from. name_in bs from k) (add-zero i))

-- the first name, and the walk after it
module _ (bs : List ℕ) (from : ℕ) where
  name_at_next : (n : ℕ) → name_at bs from (suc n) ≡ name_at bs (from + 1 + get_or bs from 0) n
  unfolding name_at
  name_at_next zero = refl
  name_at_next (suc n) = ap (λ p. p + 1 + get_or bs p 0) (name_at_next n)

-- a name that is split off, where its length byte is in front
module _ (x : ℕ) (xs : List ℕ) where
  name_at_split : (n : ℕ) → name_at (x ∷ xs) 0 (suc n) ≡ suc x + name_at (drop x xs) 0 n
  name_at_split n =
      name_at_next (x ∷ xs) 0 n
      ∙ ap (λ from. name_at (x ∷ xs) from n) (omega arith)
      ∙ sym (name_at_left (x ∷ xs) (suc x) 0 n)

  name_in_split : (k : ℕ) → name_in (x ∷ xs) 0 (0 + 1 + k) ≡ name_in (drop x xs) 0 k
  name_in_split k =
      let next : 0 + 1 + k ≡ suc k = omega arith in
      ap (λ p. part (x ∷ xs) (p + 1) (get_or (x ∷ xs) p 0)) (ap (name_at (x ∷ xs) 0) next ∙ name_at_split k ∙ name_at_left (x ∷ xs) (suc x) 0 k)
      ∙ sym (name_in_left (x ∷ xs) (suc x) 0 k)

  names_split : (n : ℕ) → names_in (x ∷ xs) 0 (suc n) ≡ take x xs ∷ names_in (drop x xs) 0 n
  names_split n =
      ap (λ name. name ∷ map (name_in (x ∷ xs) 0) (range_with_len (0 + 1) n)) (ap (λ p. part (x ∷ xs) (p + 1) (get_or (x ∷ xs) p 0)) (name_at_none (x ∷ xs) 0))
      ∙ ap (λ names. take x xs ∷ names) (same_names (name_in (x ∷ xs) 0) (name_in (drop x xs) 0) (0 + 1) n name_in_split)

module _ (bs xs : List ℕ) (x left n : ℕ) (is : bs ≡ x ∷ xs) (more : left ≡ n + 1) where
  pub names_first : names_in bs 0 left ≡ take x xs ∷ names_in (drop x xs) 0 n
  names_first = ap (λ ys. names_in ys 0 left) is ∙ ap (names_in (x ∷ xs) 0) (more ∙ add-one n) ∙ names_split x xs n

  pub first_within : name_at bs 0 left ≤ length bs → (x ≤ length xs) × (name_at (drop x xs) 0 n ≤ length (drop x xs))
  first_within within =
      let count = ap (λ ys. name_at ys 0 left) is ∙ ap (name_at (x ∷ xs) 0) (more ∙ add-one n) ∙ name_at_split x xs n in
      let size = ap length is in
      (omega arith, omega (arith, length-drop x xs))

-- names from an index on, in what is left from there
module _ (bs : List ℕ) (from n : ℕ) (within : name_at bs from n ≤ length bs) where
  pub from_within : from ≤ length bs
  from_within = omega (arith, from_before bs from n)

  pub left_within : name_at (drop from bs) 0 n ≤ length (drop from bs)
  left_within = omega (arith, length-drop from bs, from_before bs from n, name_at_left bs from 0 n, ap (λ i. name_at bs i n) (add-zero from))
