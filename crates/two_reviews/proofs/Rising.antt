-- Rising lists with the same members are the same list. Assumes nothing.
use Rattle.std.proofs.Common.{◌≡◌, ℕ, suc, ◌<◌, eqb, ◌⊎◌, List, [], ◌∷◌, sym, refl, subst, ap₂, inl, inr, ⊎_elim, arith}
use Rattle.std.specs.List.{AllByRecursion}
use Rattle.std.proofs.ByRecursion.{All-weaker}
use Rattle.std.proofs.lemmas.Bool.{false≢true, or_cases, or_left, or_right, eqb-true, eq-eqb}
use Rattle.marks.specs.Sets.{◌∈◌, ◌⊆◌, among}
use Rattle.norms.proofs.Models.{same_set}
use Rattle.norms.proofs.Equal.{all_among}
use Rattle.two_reviews.specs.Law.{Rising}

later_rising : (x : ℕ) (xs : List ℕ) → Rising (x ∷ xs) → Rising xs
later_rising x xs rising i within = rising (suc i) (omega arith)

-- each number is above the first
above_first : (x : ℕ) (xs : List ℕ) → Rising (x ∷ xs) → AllByRecursion (λ m. x < m) xs
above_first x [] rising = tt
above_first x (y ∷ xs) rising =
    let next : x < y = rising 0 (omega arith) in
    (next, All-weaker (λ m. y < m) (λ m. x < m) (λ m above. omega arith) xs (above_first y xs (later_rising x (y ∷ xs) rising)))

-- a member is the first, or is one of the later ones, which are above it
module _ (x : ℕ) (xs : List ℕ) (rising : Rising (x ∷ xs)) where
  first_member : x ∈ among (x ∷ xs)
  first_member = or_left (eqb x x) (among xs x) (eq-eqb x x refl)

  first_or_later : (m : ℕ) → m ∈ among (x ∷ xs) → (m ≡ x) ⊎ ((m ∈ among xs) × (x < m))
  first_or_later m member =
      ⊎_elim
      (λ same. inl (eqb-true m x same))
      (λ later. inr (later, all_among (λ k. x < k) xs (above_first x xs rising) m later))
      (or_cases (eqb m x) (among xs m) member)

module _ (x : ℕ) (xs : List ℕ) (y : ℕ) (ys : List ℕ) (rising : Rising (x ∷ xs)) (other : Rising (y ∷ ys)) where
  same_first : among (x ∷ xs) ≡ among (y ∷ ys) → x ≡ y
  same_first same =
      let x-there = first_or_later y ys other x (subst (λ S. x ∈ S) same (first_member x xs rising)) in
      let y-here = first_or_later x xs rising y (subst (λ S. y ∈ S) (sym same) (first_member y ys other)) in
      ⊎_elim (λ e. e) (λ above. ⊎_elim (λ e. sym e) (λ below. absurd (omega arith)) y-here) x-there

  later_inside : x ≡ y → among (x ∷ xs) ⊆ among (y ∷ ys) → among xs ⊆ among ys
  later_inside first inside m member =
      let above : x < m = all_among (λ k. x < k) xs (above_first x xs rising) m member in
      ⊎_elim (λ e. absurd (omega arith)) (λ later. later.0) (first_or_later y ys other m (inside m (or_right (eqb m x) (among xs m) member)))

pub same_list : (xs ys : List ℕ) → Rising xs → Rising ys → among xs ≡ among ys → xs ≡ ys
same_list [] [] rising other same = refl
same_list [] (y ∷ ys) rising other same = absurd (false≢true (subst (λ S. y ∈ S) (sym same) (first_member y ys other)))
same_list (x ∷ xs) [] rising other same = absurd (false≢true (subst (λ S. x ∈ S) same (first_member x xs rising)))
same_list (x ∷ xs) (y ∷ ys) rising other same =
    let first : x ≡ y = same_first x xs y ys rising other same in
    let rest : among xs ≡ among ys =
    same_set (among xs) (among ys)
    (later_inside x xs y ys rising other first (λ m. subst (λ S. m ∈ S) same))
    (later_inside y ys x xs other rising (sym first) (λ m. subst (λ S. m ∈ S) (sym same))) in
    ap₂ {C = List ℕ} (λ z zs. z ∷ zs) first (same_list xs ys (later_rising x xs rising) (later_rising y ys other) rest)
