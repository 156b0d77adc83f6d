-- Search below a number, and for a dated mark that one of two traces lacks. Assumes nothing.
use Rattle.std.proofs.Common.{◌≡◌, ℕ, zero, suc, ◌<◌, false, ◌⊎◌, subst, inl, inr, ⊎_elim, arith}
use Rattle.std.proofs.lemmas.Bool.{cases_Bool, cases_lt, both_ways}
use Rattle.marks.specs.Sets.{Set, ◌∈◌, ◌⊆◌}

-- each number is found or passes
module _ (Found Passes : ℕ → Type 0) (each : (k : ℕ) → Found k ⊎ Passes k) where
  one_more : (n : ℕ) → ((k : ℕ) → k < n → Passes k) → Found n ⊎ Passes n → ((k : ℕ) × Found k) ⊎ ((k : ℕ) → k < suc n → Passes k)
  one_more n below (inl found) = inl (n, found)
  one_more n below (inr here) =
      inr (λ k within. ⊎_elim (below k) (λ past. let last : n ≡ k = omega arith in subst Passes last here) (cases_lt k n))

  pub search : (n : ℕ) → ((k : ℕ) × Found k) ⊎ ((k : ℕ) → k < n → Passes k)
  search zero = inr (λ k within. absurd (omega arith))
  search (suc n) = ⊎_elim inl (λ below. one_more n below (each n)) (search n)

module _ (S R : Set (ℕ × ℕ)) where
  -- the first trace has the dated mark and the second lacks it
  abbrev Lost : ℕ → ℕ → Type 0
  Lost s m = ((s, m) ∈ S) × (R (s, m) ≡ false)

  abbrev Kept : ℕ → ℕ → Type 0
  Kept s m = (s, m) ∈ S → (s, m) ∈ R

  lost_or_kept : (s m : ℕ) → Lost s m ⊎ Kept s m
  lost_or_kept s m =
      ⊎_elim
      (λ has. inr (λ _. has))
      (λ lacks. ⊎_elim (λ has. inl (has, lacks)) (λ out. inr (λ has. absurd (both_ways (S (s, m)) out has))) (cases_Bool (S (s, m))))
      (cases_Bool (R (s, m)))

  -- where the first trace has only marks below 1,024 of steps below n
  pub lost_or_inside : (n : ℕ) → ((d : ℕ × ℕ) → d ∈ S → (d.0 < n) × (d.1 < 1024)) → ((d : ℕ × ℕ) × (d ∈ S) × (R d ≡ false)) ⊎ (S ⊆ R)
  lost_or_inside n bounds =
      ⊎_elim
      (λ lost. inl ((lost.0, lost.1.0), lost.1.1.0, lost.1.1.1))
      (λ kept. inr (λ d has. kept d.0 (bounds d has).0 d.1 (bounds d has).1 has))
      (search (λ s. (m : ℕ) × Lost s m) (λ s. (m : ℕ) → m < 1024 → Kept s m) (λ s. search (Lost s) (Kept s) (lost_or_kept s) 1024) n)
