-- The findings of steps are listed once each, by step and then by mark. Assumes nothing.
use Rattle.std.proofs.Common.{◌≡◌, ℕ, zero, suc, ◌+◌, ◌-◌, ◌<◌, true, List, [], ◌∷◌, map, Some, sym, refl, ap, ◌∙◌, subst, inl, inr, ⊎_elim, arith}
use Rattle.std.specs.List.{slice_get, AllByRecursion}
use Rattle.std.proofs.iter.runs.Lists.{none-some, same_Some}
use Rattle.std.proofs.ByRecursion.{All-append, all_kept_by, All-map, All-weaker, kept_by_passes}
use Rattle.std.proofs.lemmas.Bool.{cases_eq, cases_order}
use Rattle.marks.specs.Sets.{Set, ◌∈◌}
use Rattle.marks.specs.Members.{counted, marks_in}
use Rattle.norms.specs.Steps.{Step}
use Rattle.norms.specs.Findings.{finding, findings_in, dated_from, findings}
use Rattle.norms.specs.Laws.{Finds, Before, Listed}
use Rattle.norms.proofs.Places.{In, Rising, all_nth, all_from_nth, in_left, in_right, in_map, in_kept, rising_nth, rising_kept, rising_append, rising_map}

-- the numbers below n
pub counted_low : (n : ℕ) → AllByRecursion (λ m. m < n) (counted n)
unfolding counted
counted_low zero = tt
counted_low (suc n) =
    All-append (λ m. m < suc n) (counted n) (n ∷ [])
    (All-weaker (λ m. m < n) (λ m. m < suc n) (λ m low. omega arith) (counted n) (counted_low n))
    (omega arith, tt)

pub counted_in : (n m : ℕ) → m < n → In (counted n) m
unfolding counted
counted_in zero m low = absurd (omega arith)
counted_in (suc n) m low =
    ⊎_elim
    (λ same. in_right (counted n) (n ∷ []) m (0, ap Some (sym same)))
    (λ apart. in_left (counted n) (n ∷ []) m (counted_in n m (omega arith)))
    (cases_eq m n)

pub counted_rising : (n : ℕ) → Rising ◌<◌ (counted n)
unfolding counted
counted_rising zero = tt
counted_rising (suc n) =
    rising_append ◌<◌ (counted n) (n ∷ []) (counted_rising n) (tt, tt)
    (All-weaker (λ m. m < n) (λ m. AllByRecursion (λ x. m < x) (n ∷ [])) (λ m low. (low, tt)) (counted n) (counted_low n))

-- the findings of one step
module _ (M : Set ℕ) where
  abbrev Found : ℕ → Type 0
  Found m = (m < 1024) × (m ∈ finding M)

  found_in : (m : ℕ) → Found m → In (findings_in M) m
  unfolding findings_in marks_in
  found_in m found = in_kept (finding M) (counted 1024) m found.1 (counted_in 1024 m found.0)

  all_found : AllByRecursion Found (findings_in M)
  unfolding findings_in marks_in
  all_found =
      all_from_nth
      Found
      (findings_in M)
      (λ k m within at. (
        all_nth (λ x. x < 1024) (findings_in M) (all_kept_by (finding M) (λ x. x < 1024) (counted 1024) (counted_low 1024)) k m at,
        all_nth (λ x. finding M x ≡ true) (findings_in M) (kept_by_passes (finding M) (counted 1024)) k m at,
      ))

  found_rising : Rising ◌<◌ (findings_in M)
  unfolding findings_in marks_in
  found_rising = rising_kept ◌<◌ (finding M) (counted 1024) (counted_rising 1024)

-- d is a finding of the steps, of which the first has the number s
abbrev FindsFrom : ℕ → List Step → ℕ × ℕ → Type 0
FindsFrom s steps d =
    (step : Step) × (p : ℕ) × (d.0 ≡ s + p) × (slice_get steps p ≡ Some step) × Found step.marks d.1

-- the dated findings of step s
abbrev dated : ℕ → Step → List (ℕ × ℕ)
dated s step = map (λ m. (s, m)) (findings_in step.marks)

pub dated_each : (s : ℕ) (steps : List Step) (d : ℕ × ℕ) → FindsFrom s steps d → In (dated_from s steps) d
dated_each s [] d (step, p, number, at, found) = absurd (none-some step at)
dated_each s (x ∷ steps) d (step, zero, number, at, found) =
    let here : Found x.marks d.1 = subst (λ (y : Step). Found y.marks d.1) (sym (same_Some x step at)) found in
    let same : s ≡ d.0 = omega arith in
    let pair : ℕ → ℕ × ℕ = λ n. (n, d.1) in
    in_left (dated s x) (dated_from (s + 1) steps) d
    (subst (In (dated s x)) (ap pair same) (in_map (λ m. (s, m)) (findings_in x.marks) d.1 (found_in x.marks d.1 here)))
dated_each s (x ∷ steps) d (step, suc p, number, at, found) =
    in_right (dated s x) (dated_from (s + 1) steps) d (dated_each (s + 1) steps d (step, p, omega arith, at, found))

pub dated_only : (s : ℕ) (steps : List Step) → AllByRecursion (FindsFrom s steps) (dated_from s steps)
dated_only s [] = tt
dated_only s (x ∷ steps) =
    All-append
    (FindsFrom s (x ∷ steps))
    (dated s x)
    (dated_from (s + 1) steps)
    (All-map
    (FindsFrom s (x ∷ steps))
    (λ m. (s, m))
    (findings_in x.marks)
    (All-weaker (Found x.marks) (λ m. FindsFrom s (x ∷ steps) (s, m)) (λ m found. (x, 0, omega arith, refl, found)) (findings_in x.marks) (all_found x.marks)))
    (All-weaker
    (FindsFrom (s + 1) steps)
    (FindsFrom s (x ∷ steps))
    (λ d (step, p, number, at, found). (step, suc p, omega arith, at, found))
    (dated_from (s + 1) steps)
    (dated_only (s + 1) steps))

pub dated_rising : (s : ℕ) (steps : List Step) → Rising Before (dated_from s steps)
dated_rising s [] = tt
dated_rising s (x ∷ steps) =
    rising_append
    Before
    (dated s x)
    (dated_from (s + 1) steps)
    (rising_map ◌<◌ Before (λ m. (s, m)) (λ m n below. inr (refl, below)) (findings_in x.marks) (found_rising x.marks))
    (dated_rising (s + 1) steps)
    (All-map
    (λ d. AllByRecursion (Before d) (dated_from (s + 1) steps))
    (λ m. (s, m))
    (findings_in x.marks)
    (All-weaker
    (Found x.marks)
    (λ m. AllByRecursion (Before (s, m)) (dated_from (s + 1) steps))
    (λ m found. All-weaker (FindsFrom (s + 1) steps) (Before (s, m)) (λ d (step, p, number, at, of). inl (omega arith)) (dated_from (s + 1) steps) (dated_only (s + 1) steps))
    (findings_in x.marks)
    (all_found x.marks)))

-- no dated mark is before itself
before_apart : (d : ℕ × ℕ) → Before d d → ⊥
before_apart d = ⊎_elim (λ less. omega arith) (λ (same, less). omega arith)

pub listed : (steps : List Step) → Listed steps
listed steps =
    record {
      each = λ d (step, first, at, low, found). dated_each 1 steps d (step, d.0 - 1, omega arith, at, (low, found));
      only = only;
      once = λ j k d at_j at-k.
          ⊎_elim
          (λ same. same)
          (⊎_elim
          (λ below. absurd (before_apart d (rising j k d d below at_j at-k)))
          (λ above. absurd (before_apart d (rising k j d d above at-k at_j))))
          (cases_order j k);
      rising = rising;
    }
  where
    rising : (j k : ℕ) (d e : ℕ × ℕ) → j < k → slice_get (findings steps) j ≡ Some d → slice_get (findings steps) k ≡ Some e → Before d e
    rising j k d e = rising_nth Before (findings steps) (dated_rising 1 steps) j k d e

    only : (k : ℕ) (d : ℕ × ℕ) → slice_get (findings steps) k ≡ Some d → Finds steps d
    only k d at =
        let found : FindsFrom 1 steps d = all_nth (FindsFrom 1 steps) (findings steps) (dated_only 1 steps) k d at in
        let place : d.0 - 1 ≡ found.1 = omega (arith, found.2) in
        (found.0, omega (arith, found.2), ap (slice_get steps) place ∙ found.3, found.4.0, found.4.1)
