-- Two rows of stable steps over equal rules and the same scenario, under one program. Assumes nothing.
use Rattle.std.proofs.Common.{◌≡◌, ℕ, suc, ◌<◌, false, ◌≢◌, List, length, sym, ap, ◌∙◌, subst, ⊎_elim}
use Rattle.std.specs.List.{AllByRecursion}
use Rattle.marks.specs.Sets.{Set, ◌∈◌}
use Rattle.norms.specs.Programs.{Rule, Stable}
use Rattle.norms.specs.Rules.{Norms}
use Rattle.norms.specs.Steps.{Step, handed_on, Handing}
use Rattle.norms.specs.Traces.{of_step, at, given_at, Together, EachStable}
use Rattle.norms.specs.Scenarios.{said_of, marks_of, trace}
use Rattle.norms.specs.Laws.{Low}
use Rattle.norms.specs.Levels.{Admits}
use Rattle.norms.specs.Equal.{Equal}
use Rattle.norms.proofs.Models.{none_inside}
use Rattle.norms.proofs.Lawful.{lawful}
use Rattle.norms.proofs.Equal.{alike}
use Rattle.norms.proofs.Scenarios.{EachStep, as_many, dated_within}
use Rattle.two_reviews.specs.Law.{Apart}
use Rattle.two_reviews.proofs.Search.{lost_or_inside}

module _ (rules other : List (Rule ℕ)) (equal : Equal rules other) (steps those : List Step) (same : said_of steps ≡ said_of those)
    (each : EachStep rules steps) (each_other : EachStep other those) where
  -- the second row over the rules and the said marks of the first
  second_each : EachStable (Norms rules) handed_on (said_of steps) (marks_of those)
  second_each =
      subst (λ said. EachStable (Norms rules) handed_on said (marks_of those)) (sym same)
      (λ k below.
      let M = of_step (marks_of those) (suc k) in
      ((alike rules other equal).smallest M (given_at handed_on (said_of those) (marks_of those) k) M).1 (each_other k below))

  same_number : length (marks_of steps) ≡ length (marks_of those)
  same_number = sym (as_many steps) ∙ ap length same ∙ as_many those

  pub one_trace : Admits (Norms rules) → trace steps ≡ trace those
  one_trace admits = (lawful rules).one_trace admits (said_of steps) (marks_of steps) (marks_of those) same_number each second_each

  module _ (low : AllByRecursion Low (marks_of steps)) (low_other : AllByRecursion Low (marks_of those)) where
    abbrev InOne : Set (ℕ × ℕ) → Type 0
    InOne S = Stable (Together (Norms rules) Handing (length (marks_of steps))) (at (said_of steps)) S

    first_stable : InOne (trace steps)
    first_stable = ((lawful rules).all_steps (said_of steps) (marks_of steps) (as_many steps) low).0 each

    second_stable : InOne (trace those)
    second_stable =
        subst (λ n. Stable (Together (Norms rules) Handing n) (at (said_of steps)) (trace those)) (sym same_number)
        (((lawful rules).all_steps (said_of steps) (marks_of those) (as_many steps ∙ same_number) low_other).0 second_each)

    -- a trace that is not the other has a dated mark that the other lacks, since neither is inside the other
    lost : (S R : Set (ℕ × ℕ)) → InOne S → InOne R → S ≢ R → (n : ℕ) → ((d : ℕ × ℕ) → d ∈ S → (d.0 < n) × (d.1 < 1024))
        → (d : ℕ × ℕ) × (d ∈ S) × (R d ≡ false)
    lost S R stable stable-other differ n bounds =
        let P = Together (Norms rules) Handing (length (marks_of steps)) in
        ⊎_elim
        (λ found. found)
        (λ inside. absurd (differ (none_inside P (at (said_of steps)) S R stable stable-other inside)))
        (lost_or_inside S R n bounds)

    pub apart : trace steps ≢ trace those → Apart (trace steps) (trace those)
    apart differ = (
      lost (trace steps) (trace those) first_stable second_stable differ
          (suc (length (marks_of steps))) (dated_within (marks_of steps) low),
      lost (trace those) (trace steps) second_stable first_stable (λ same. differ (sym same))
          (suc (length (marks_of those))) (dated_within (marks_of those) low_other),
    )
