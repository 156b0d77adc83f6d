-- What stands at the places of lists. Assumes nothing.
--     In xs x        x stands at some place of xs
--     Rising R xs    R holds of each element of xs and each that stands after it
use Rattle.std.proofs.Common.{◌≡◌, ℕ, zero, suc, ◌+◌, ◌<◌, Bool, true, List, [], ◌∷◌, ◌++◌, map, length, Some, filter, refl, ap, ◌∙◌, subst, ⊎_elim, arith}
use Rattle.std.specs.List.{slice_get, AllByRecursion}
use Rattle.std.specs.Option.{option_map}
use Rattle.std.proofs.iter.runs.Lists.{none-some, same_Some, slice_get_within, nth_left, nth_right, slice_get-map}
use Rattle.std.proofs.ByRecursion.{all_kept_by, All-append, All-map, All-weaker}
use Rattle.std.proofs.lemmas.Bool.{cases_Bool, cond-true, cond-false, cond_both}

abbrev pub In : {A : Type 0} → List A → A → Type 0
In xs x = (k : ℕ) × (slice_get xs k ≡ Some x)

module _ {A : Type 0} (P : A → Type 0) where
  pub all_nth : (xs : List A) → AllByRecursion P xs → (k : ℕ) (x : A) → slice_get xs k ≡ Some x → P x
  all_nth [] each k x e = absurd (none-some x e)
  all_nth (y ∷ xs) each zero x e = subst P (same_Some y x e) each.0
  all_nth (y ∷ xs) each (suc k) x e = all_nth xs each.1 k x e

  pub all_from_nth : (xs : List A) → ((k : ℕ) (x : A) → k < length xs → slice_get xs k ≡ Some x → P x) → AllByRecursion P xs
  all_from_nth [] each = tt
  all_from_nth (y ∷ xs) each =
      (each 0 y (omega arith) refl, all_from_nth xs (λ k x l e. each (suc k) x (omega arith) e))

module _ {A : Type 0} where
  pub in_left : (xs ys : List A) (x : A) → In xs x → In (xs ++ ys) x
  in_left xs ys x (k, at) = (k, nth_left xs ys k (slice_get_within xs k x at) ∙ at)

  pub in_right : (xs ys : List A) (x : A) → In ys x → In (xs ++ ys) x
  in_right xs ys x (k, at) = (length xs + k, nth_right xs ys k ∙ at)

  pub in_map : {B : Type 0} (f : A → B) (xs : List A) (x : A) → In xs x → In (map f xs) (f x)
  in_map f xs x (k, at) = (k, slice_get-map f xs k ∙ ap (option_map f) at)

  pub in_kept : (p : A → Bool) (xs : List A) (x : A) → p x ≡ true → In xs x → In (filter p xs) x
  in_kept p [] x passes (k, at) = absurd (none-some x at)
  in_kept p (y ∷ xs) x passes (zero, at) =
      let same : y ≡ x = same_Some y x at in
      (0, ap (λ l. slice_get l 0) (cond-true (p y) (y ∷ filter p xs) (filter p xs) (ap p same ∙ passes)) ∙ at)
  in_kept p (y ∷ xs) x passes (suc k, at) =
      let rest : In (filter p xs) x = in_kept p xs x passes (k, at) in
      ⊎_elim
      (λ kept. (suc rest.0, ap (λ l. slice_get l (suc rest.0)) (cond-true (p y) (y ∷ filter p xs) (filter p xs) kept) ∙ rest.1))
      (λ left. (rest.0, ap (λ l. slice_get l rest.0) (cond-false (p y) (y ∷ filter p xs) (filter p xs) left) ∙ rest.1))
      (cases_Bool (p y))

abbrev pub Rising : {A : Type 0} → (A → A → Type 0) → List A → Type 0
Rising R [] = Unit {0}
Rising R (x ∷ xs) = AllByRecursion (R x) xs × Rising R xs

module _ {A : Type 0} (R : A → A → Type 0) where
  pub rising_nth : (xs : List A) → Rising R xs → (j k : ℕ) (x y : A) → j < k → slice_get xs j ≡ Some x → slice_get xs k ≡ Some y → R x y
  rising_nth [] rising j k x y before at_j at-k = absurd (none-some x at_j)
  rising_nth (z ∷ xs) rising j zero x y before at_j at-k = absurd (omega arith)
  rising_nth (z ∷ xs) rising zero (suc k) x y before at_j at-k =
      subst (λ w. R w y) (same_Some z x at_j) (all_nth (R z) xs rising.0 k y at-k)
  rising_nth (z ∷ xs) rising (suc j) (suc k) x y before at_j at-k =
      rising_nth xs rising.1 j k x y (omega arith) at_j at-k

  pub rising_kept : (p : A → Bool) (xs : List A) → Rising R xs → Rising R (filter p xs)
  rising_kept p [] rising = tt
  rising_kept p (x ∷ xs) rising =
      cond_both
      (p x)
      (x ∷ filter p xs)
      (filter p xs)
      (Rising R)
      (λ _. (all_kept_by p (R x) xs rising.0, rising_kept p xs rising.1))
      (λ _. rising_kept p xs rising.1)

  pub rising_append : (xs ys : List A) → Rising R xs → Rising R ys → AllByRecursion (λ x. AllByRecursion (R x) ys) xs → Rising R (xs ++ ys)
  rising_append [] ys first second across = second
  rising_append (x ∷ xs) ys first second across =
      (All-append (R x) xs ys first.0 across.0, rising_append xs ys first.1 second across.1)

pub rising_map : {A B : Type 0} (R : A → A → Type 0) (Q : B → B → Type 0) (f : A → B)
    → ((x y : A) → R x y → Q (f x) (f y)) → (xs : List A) → Rising R xs → Rising Q (map f xs)
rising_map R Q f keeps [] rising = tt
rising_map R Q f keeps (x ∷ xs) rising =
    (All-map (Q (f x)) f xs (All-weaker (R x) (λ y. Q (f x) (f y)) (keeps x) xs rising.0), rising_map R Q f keeps xs rising.1)
