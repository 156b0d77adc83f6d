-- From the numbers of the rules that are left to their numbers in the book below. Assumes nothing.
--     skip ns n     rule n of those that are left has this number in the book below
--     below ns k    how many of ns are below k
use Rattle.std.proofs.Common.{◌≡◌, ℕ, zero, suc, ◌+◌, ◌-◌, ◌<◌, ◌≤◌, true, false, cond, ◌||◌, eqb, ltb, leb, ◌⊎◌, List, [], ◌∷◌, length, get_or, drop, sym, refl, ap, ◌∙◌, subst, inl, inr, ⊎_elim, arith}
use Rattle.std.specs.List.{slice_get}
use Rattle.std.proofs.lemmas.List.{at_drop_more, at_drop_all}
use Rattle.std.proofs.lemmas.Bool.{and_parts, and_from, cond-true, cond-false, cond_both, leb-true, le-leb, lt-leb, lt-ltb, le-ltb, eq-eqb, ne_eqb, or_from, or_left, cases_eq}
use Rattle.marks.specs.Sets.{among}
use Rattle.norms.specs.Programs.{Rule}
use Rattle.suspension.specs.Rest.{rest_from, rest, rising_from}

abbrev pub skip : List ℕ → ℕ → ℕ
skip [] n = n
skip (x ∷ ns) n = skip ns (cond (leb x n) (n + 1) n)

abbrev pub below : List ℕ → ℕ → ℕ
below [] k = 0
below (x ∷ ns) k = cond (ltb x k) 1 0 + below ns k

-- numbers that rise from i
module _ (i x : ℕ) (ns : List ℕ) (rising : rising_from i (x ∷ ns) ≡ true) where
  first_from : i ≤ x
  first_from = leb-true i x (and_parts (leb i x) (rising_from (x + 1) ns) rising).0

  later_from : rising_from (x + 1) ns ≡ true
  later_from = (and_parts (leb i x) (rising_from (x + 1) ns) rising).1

-- nothing below i is among them
none_lower : (i : ℕ) (ns : List ℕ) → rising_from i ns ≡ true → (k : ℕ) → k < i → among ns k ≡ false
none_lower i [] rising k low = refl
none_lower i (x ∷ ns) rising k low =
    let from = first_from i x ns rising in
    or_from (eqb k x) (among ns k) (ne_eqb k x (λ e. omega arith)) (none_lower (x + 1) ns (later_from i x ns rising) k (omega arith))

skip_least : (ns : List ℕ) (n : ℕ) → n ≤ skip ns n
skip_least [] n = omega arith
skip_least (x ∷ ns) n =
    cond_both (leb x n) (n + 1) n (λ m. n ≤ skip ns m) (λ _. omega (arith, skip_least ns (n + 1))) (λ _. skip_least ns n)

-- numbers above n leave it as it is
skip_lower : (i : ℕ) (ns : List ℕ) → rising_from i ns ≡ true → (n : ℕ) → n < i → skip ns n ≡ n
skip_lower i [] rising n low = refl
skip_lower i (x ∷ ns) rising n low =
    let from = first_from i x ns rising in
    ap (skip ns) (cond-false (leb x n) (n + 1) n (lt-leb x n (omega arith))) ∙ skip_lower (x + 1) ns (later_from i x ns rising) n (omega arith)

-- what is set aside before i makes no difference from i on
rest_past : (x : ℕ) (ns : List ℕ) (i : ℕ) (rules : List (Rule ℕ)) → x < i → rest_from (x ∷ ns) i rules ≡ rest_from ns i rules
rest_past x ns i [] low = refl
rest_past x ns i (r ∷ rules) low =
    ap (λ b. cond (b || among ns i) (rest_from (x ∷ ns) (i + 1) rules) (r ∷ rest_from (x ∷ ns) (i + 1) rules)) (ne_eqb i x (λ e. omega arith))
    ∙ ap (λ l. cond (among ns i) l (r ∷ l)) (rest_past x ns (i + 1) rules (omega arith))

-- the numbers that rise from i: the first is i, or they rise from i + 1
first_or_later : (i : ℕ) (ns : List ℕ) → rising_from i ns ≡ true → ((xs : List ℕ) × (ns ≡ i ∷ xs) × (rising_from (i + 1) xs ≡ true)) ⊎ (rising_from (i + 1) ns ≡ true)
first_or_later i [] rising = inr refl
first_or_later i (x ∷ ns) rising =
    ⊎_elim
    (λ same. inl (ns, ap (λ y. y ∷ ns) same, subst (λ y. rising_from (y + 1) ns ≡ true) same (later_from i x ns rising)))
    (λ apart. inr (and_from (leb (i + 1) x) (rising_from (x + 1) ns) (le-leb (i + 1) x (omega (arith, first_from i x ns rising))) (later_from i x ns rising)))
    (cases_eq x i)

-- rule i is set aside
aside_here : (i : ℕ) (xs : List ℕ) (r : Rule ℕ) (rules : List (Rule ℕ)) → rest_from (i ∷ xs) i (r ∷ rules) ≡ rest_from xs (i + 1) rules
aside_here i xs r rules =
    cond-true (among (i ∷ xs) i) (rest_from (i ∷ xs) (i + 1) rules) (r ∷ rest_from (i ∷ xs) (i + 1) rules) (or_left (eqb i i) (among xs i) (eq-eqb i i refl))
    ∙ rest_past i xs (i + 1) rules (omega arith)

-- rule i is left
left_here : (i : ℕ) (ns : List ℕ) → rising_from (i + 1) ns ≡ true → (r : Rule ℕ) (rules : List (Rule ℕ)) → rest_from ns i (r ∷ rules) ≡ r ∷ rest_from ns (i + 1) rules
left_here i ns rising r rules =
    cond-false (among ns i) (rest_from ns (i + 1) rules) (r ∷ rest_from ns (i + 1) rules) (none_lower (i + 1) ns rising i (omega arith))

-- a place after the first
nth_later : (r : Rule ℕ) (rules : List (Rule ℕ)) (k i : ℕ) → i < k → slice_get (r ∷ rules) (k - i) ≡ slice_get rules (k - (i + 1))
nth_later r rules k i less = let one : k - i ≡ suc (k - (i + 1)) = omega arith in ap (slice_get (r ∷ rules)) one

-- the places of what is left of the rules
abbrev Nths : List (Rule ℕ) → Type 0
Nths rules = (ns : List ℕ) (i : ℕ) → rising_from i ns ≡ true → (n : ℕ) → slice_get (rest_from ns i rules) n ≡ slice_get rules (skip ns (i + n) - i)

module _ (r : Rule ℕ) (rules : List (Rule ℕ)) (known : Nths rules) (ns : List ℕ) (i : ℕ) where
  nth_aside : (n : ℕ) → (xs : List ℕ) × (ns ≡ i ∷ xs) × (rising_from (i + 1) xs ≡ true) → slice_get (rest_from ns i (r ∷ rules)) n ≡ slice_get (r ∷ rules) (skip ns (i + n) - i)
  nth_aside n (xs, is, later) =
      let next : i + 1 + n ≡ i + n + 1 = omega arith in
      ap (λ l. slice_get (rest_from l i (r ∷ rules)) n) is
      ∙ ap (λ l. slice_get l n) (aside_here i xs r rules)
      ∙ known xs (i + 1) later n
      ∙ ap (λ k. slice_get rules (skip xs k - (i + 1))) next
      ∙ sym (nth_later r rules (skip xs (i + n + 1)) i (omega (arith, skip_least xs (i + n + 1))))
      ∙ ap (λ k. slice_get (r ∷ rules) (skip xs k - i)) (sym (cond-true (leb i (i + n)) (i + n + 1) (i + n) (le-leb i (i + n) (omega arith))))
      ∙ ap (λ l. slice_get (r ∷ rules) (skip l (i + n) - i)) (sym is)

  nth_kept : (n : ℕ) → rising_from (i + 1) ns ≡ true → slice_get (rest_from ns i (r ∷ rules)) n ≡ slice_get (r ∷ rules) (skip ns (i + n) - i)
  nth_kept zero later =
      let here : skip ns (i + 0) - i ≡ 0 = omega (arith, skip_lower (i + 1) ns later (i + 0) (omega arith)) in
      ap (λ l. slice_get l 0) (left_here i ns later r rules) ∙ ap (slice_get (r ∷ rules)) (sym here)
  nth_kept (suc m) later =
      let next : i + 1 + m ≡ i + suc m = omega arith in
      ap (λ l. slice_get l (suc m)) (left_here i ns later r rules)
      ∙ known ns (i + 1) later m
      ∙ ap (λ k. slice_get rules (skip ns k - (i + 1))) next
      ∙ sym (nth_later r rules (skip ns (i + suc m)) i (omega (arith, skip_least ns (i + suc m))))

nths : (rules : List (Rule ℕ)) → Nths rules
nths [] ns i rising n = refl
nths (r ∷ rules) ns i rising n = ⊎_elim (nth_aside r rules (nths rules) ns i n) (nth_kept r rules (nths rules) ns i n) (first_or_later i ns rising)

-- rule n of those that are left
pub rest_nth : (rules : List (Rule ℕ)) (ns : List ℕ) → rising_from 0 ns ≡ true → (n : ℕ) → slice_get (rest ns rules) n ≡ slice_get rules (skip ns n)
rest_nth rules ns rising n =
    let from : 0 + n ≡ n = omega arith in
    let all : skip ns n - 0 ≡ skip ns n = omega arith in
    nths rules ns 0 rising n ∙ ap (λ k. slice_get rules (skip ns k - 0)) from ∙ ap (slice_get rules) all

-- numbers from k on
below_none : (k i : ℕ) (ns : List ℕ) → k ≤ i → rising_from i ns ≡ true → below ns k ≡ 0
below_none k i [] less rising = refl
below_none k i (x ∷ ns) less rising =
    let from = first_from i x ns rising in
    ap (λ b. cond b 1 0 + below ns k) (le-ltb x k (omega arith)) ∙ omega (arith, below_none k (x + 1) ns (omega arith) (later_from i x ns rising))

-- how many of the rules are left
abbrev Lengths : List (Rule ℕ) → Type 0
Lengths rules = (ns : List ℕ) (i : ℕ) → rising_from i ns ≡ true → length (rest_from ns i rules) + below ns (i + length rules) ≡ length rules

module _ (r : Rule ℕ) (rules : List (Rule ℕ)) (known : Lengths rules) (ns : List ℕ) (i : ℕ) where
  next : i + 1 + length rules ≡ i + length (r ∷ rules)
  next = omega arith

  length_aside : (xs : List ℕ) × (ns ≡ i ∷ xs) × (rising_from (i + 1) xs ≡ true) → length (rest_from ns i (r ∷ rules)) + below ns (i + length (r ∷ rules)) ≡ length (r ∷ rules)
  length_aside (xs, is, later) =
      let size = ap (λ l. length (rest_from l i (r ∷ rules))) is ∙ ap length (aside_here i xs r rules) in
      let count : below ns (i + length (r ∷ rules)) ≡ 1 + below xs (i + length (r ∷ rules)) = ap (λ l. below l (i + length (r ∷ rules))) is ∙ ap (λ b. cond b 1 0 + below xs (i + length (r ∷ rules))) (lt-ltb i (i + length (r ∷ rules)) (omega arith)) in
      let more = known xs (i + 1) later in
      let same = ap (below xs) next in
      omega arith

  length_kept : rising_from (i + 1) ns ≡ true → length (rest_from ns i (r ∷ rules)) + below ns (i + length (r ∷ rules)) ≡ length (r ∷ rules)
  length_kept later =
      let size = ap length (left_here i ns later r rules) in
      let more = known ns (i + 1) later in
      let same = ap (below ns) next in
      omega arith

lengths : (rules : List (Rule ℕ)) → Lengths rules
lengths [] ns i rising = let none = below_none (i + 0) i ns (omega arith) rising in omega arith
lengths (r ∷ rules) ns i rising = ⊎_elim (length_aside r rules (lengths rules) ns i) (length_kept r rules (lengths rules) ns i) (first_or_later i ns rising)

-- how many are left
pub rest_length : (rules : List (Rule ℕ)) (ns : List ℕ) → rising_from 0 ns ≡ true → length (rest ns rules) + below ns (length rules) ≡ length rules
rest_length rules ns rising =
    let all : 0 + length rules ≡ length rules = omega arith in
    omega (arith, lengths rules ns 0 rising, ap (below ns) all)

-- where nothing is set aside
pub nothing_from : (i : ℕ) (rules : List (Rule ℕ)) → rest_from [] i rules ≡ rules
nothing_from i [] = refl
nothing_from i (r ∷ rules) = ap (λ l. r ∷ l) (nothing_from (i + 1) rules)

-- a loop over the numbers: one more
module _ (ns : List ℕ) (i : ℕ) (inside : i < length ns) where
  pub skip_above : (at : ℕ) → get_or ns i 0 ≤ at → skip (drop i ns) at ≡ skip (drop (i + 1) ns) (at + 1)
  skip_above at low = at_drop_more (λ l. skip l at) ns i 0 inside ∙ ap (skip (drop (i + 1) ns)) (cond-true (leb (get_or ns i 0) at) (at + 1) at (le-leb (get_or ns i 0) at low))

  pub skip_same : (at : ℕ) → at < get_or ns i 0 → skip (drop i ns) at ≡ skip (drop (i + 1) ns) at
  skip_same at high = at_drop_more (λ l. skip l at) ns i 0 inside ∙ ap (skip (drop (i + 1) ns)) (cond-false (leb (get_or ns i 0) at) (at + 1) at (lt-leb (get_or ns i 0) at high))

  pub below_one : (k : ℕ) → get_or ns i 0 < k → below (drop i ns) k ≡ 1 + below (drop (i + 1) ns) k
  below_one k low = at_drop_more (λ l. below l k) ns i 0 inside ∙ ap (λ b. cond b 1 0 + below (drop (i + 1) ns) k) (lt-ltb (get_or ns i 0) k low)

  pub below_same : (k : ℕ) → k ≤ get_or ns i 0 → below (drop i ns) k ≡ below (drop (i + 1) ns) k
  below_same k high = at_drop_more (λ l. below l k) ns i 0 inside ∙ ap (λ b. cond b 1 0 + below (drop (i + 1) ns) k) (le-ltb (get_or ns i 0) k high) ∙ omega arith

-- the end of such a loop
pub skip_end : (ns : List ℕ) (i at : ℕ) → length ns ≤ i → skip (drop i ns) at ≡ at
skip_end ns i at past = at_drop_all (λ l. skip l at) ns i past

pub below_end : (ns : List ℕ) (i k : ℕ) → length ns ≤ i → below (drop i ns) k ≡ 0
below_end ns i k past = at_drop_all (λ l. below l k) ns i past
