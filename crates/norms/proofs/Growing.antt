-- Steps that go on: each of a row of steps with one more is stable exactly when each of the row is and the last one is over what
-- is said and what the row hands on; and each step of a front of the row is stable. Of any rules and any way of handing on.
-- Assumes nothing.
use Rattle.std.proofs.Common.{◌≡◌, ℕ, zero, suc, ◌<◌, ◌≤◌, ◌||◌, List, [], ◌∷◌, ◌++◌, length, unwrap_or, sym, refl, ap, ◌∙◌, subst, ap₂, subst₂, ⊎_elim, arith}
use Rattle.std.proofs.iter.runs.Lists.{nth_left, nth_seam}
use Rattle.std.proofs.lemmas.List.{length-append, length_push}
use Rattle.std.proofs.lemmas.Bool.{cases_lt}
use Rattle.marks.specs.Sets.{Set, nothing}
use Rattle.norms.specs.Programs.{Program, Stable}
use Rattle.norms.specs.Traces.{of_step, given_at, EachStable}

module _ {A : Type 0} where
  -- the steps of a front
  of_front : (sets more : List (Set A)) (s : ℕ) → s ≤ length sets → of_step (sets ++ more) s ≡ of_step sets s
  of_front sets more zero within = refl
  of_front sets more (suc k) within = ap (λ o. unwrap_or o nothing) (nth_left sets more k within)

  -- the last step
  of_last : (sets : List (Set A)) (M : Set A) → of_step (sets ++ M ∷ []) (suc (length sets)) ≡ M
  of_last sets M = ap (λ o. unwrap_or o nothing) (nth_seam sets M)

  -- what the next step is given, where S is said
  abbrev pub given_next : (Set A → Set A) → List (Set A) → Set A → Set A
  given_next hand sets S m = S m || hand (of_step sets (length sets)) m

module _ {A : Type 0} (hand : Set A → Set A) (said sets : List (Set A)) (as_many : length said ≡ length sets) where
  given_front : (more others : List (Set A)) (k : ℕ) → k < length sets → given_at hand (said ++ more) (sets ++ others) k ≡ given_at hand said sets k
  given_front more others k below =
      ap₂ {C = Set A} (λ S M m. S m || hand M m) (of_front said more (suc k) (omega arith)) (of_front sets others k (omega arith))

  given_last : (S M : Set A) → given_at hand (said ++ S ∷ []) (sets ++ M ∷ []) (length sets) ≡ given_next hand sets S
  given_last S M =
      ap₂ {C = Set A} (λ S M m. S m || hand M m)
      (ap (λ k. of_step (said ++ S ∷ []) (suc k)) (sym as_many) ∙ of_last said S)
      (of_front sets (M ∷ []) (length sets) (omega arith))

module _ {A : Type 0} (P : Program A) (hand : Set A → Set A) (said sets : List (Set A)) (as_many : length said ≡ length sets) where
  pub each_front : (more others : List (Set A)) → EachStable P hand (said ++ more) (sets ++ others) → EachStable P hand said sets
  each_front more others each k below =
      subst₂ (Stable P) (given_front hand said sets as_many more others k below) (of_front sets others (suc k) below)
      (each k (omega (arith, length-append sets others)))

  module _ (S M : Set A) where
    abbrev Here : ℕ → Type 0
    Here k = Stable P (given_at hand (said ++ S ∷ []) (sets ++ M ∷ []) k) (of_step (sets ++ M ∷ []) (suc k))

    pub last_stable : EachStable P hand (said ++ S ∷ []) (sets ++ M ∷ []) → Stable P (given_next hand sets S) M
    last_stable each =
        subst₂ (Stable P) (given_last hand said sets as_many S M) (of_last sets M) (each (length sets) (omega (arith, length_push sets M)))

    pub each_more : EachStable P hand said sets → Stable P (given_next hand sets S) M → EachStable P hand (said ++ S ∷ []) (sets ++ M ∷ [])
    each_more each last k within = ⊎_elim before at_last (cases_lt k (length sets))
      where
        before : k < length sets → Here k
        before below =
            subst₂ (Stable P)
            (sym (given_front hand said sets as_many (S ∷ []) (M ∷ []) k below)) (sym (of_front sets (M ∷ []) (suc k) below)) (each k below)

        at_last : length sets ≤ k → Here k
        at_last past =
            let same : length sets ≡ k = omega (arith, length_push sets M) in
            subst Here same (subst₂ (Stable P) (sym (given_last hand said sets as_many S M)) (sym (of_last sets M)) last)
