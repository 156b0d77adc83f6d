-- A run over a book file and a case file. Assumes nothing.
--     Hears rules steps lists end out final
--         the steps of a case, by their lists, are proposed one after the other where the given steps stand; out is the
--         first refusal, or how the file ends where no step is refused; final are the steps that stand at last
--     Runs book case out final
--         a run over the bytes of the two files: the book is checked first, and then the steps of the case are heard
--     HearsStep rules bs k i steps out final   one step of the case file is read and proposed
use Rattle.std.specs.Prelude.{◌≡◌, ℕ, ◌⊎◌, List, [], ◌∷◌, Some, None, Ok, Err, Option, Result}
use Rattle.refusals.specs.declared.Told.{Told}
use Rattle.casefile.specs.Cases.{step_check, case_step, said_at, proposed_at, case_steps, case_end}
use Rattle.bookcheck.specs.Checks.{book_check}
use Rattle.bookcheck.specs.Layout.{file_rules}
use Rattle.norms.specs.Programs.{Rule}
use Rattle.norms.specs.Steps.{Step}
use Rattle.review.specs.declared.review.Accepted.{Accepted}
use Rattle.review.specs.Proposals.{Judged, stand_after}

module _ (rules : List (Rule ℕ)) where
  -- after the answer to a proposal: the rest is heard, or the refusal ends the run
  abbrev pub GoesOn : (List Step → Type 0) → Result Accepted Told → List Step → Option Told → List Step → Type 0
  GoesOn rest (Ok a) steps out final = rest steps
  GoesOn rest (Err t) steps out final = (out ≡ Some t) × (final ≡ steps)

  unfoldable pub Hears : List Step → List (List ℕ × List ℕ) → Option Told → Option Told → List Step → Type 0
  Hears steps [] end out final = (out ≡ end) × (final ≡ steps)
  Hears steps (p ∷ lists) end out final =
      (answer : Result Accepted Told) × Judged rules steps p.0 p.1 answer
      × GoesOn (λ after. Hears after lists end out final) answer (stand_after steps p.0 p.1 answer) out final

-- hearing one step, which stands at i of the case file bs and is step k of it: it cannot be read whole, it is refused, or
-- it passes and stands
module _ (rules : List (Rule ℕ)) (bs : List ℕ) (k i : ℕ) (steps : List Step) where
  abbrev pub HearsStep : Option Told → List Step → Type 0
  HearsStep None final =
      (step_check (case_step k) bs i ≡ None) × (a : Accepted) × Judged rules steps (said_at bs i) (proposed_at bs i) (Ok a)
      × (final ≡ stand_after steps (said_at bs i) (proposed_at bs i) (Ok a))
  HearsStep (Some t) final =
      ((step_check (case_step k) bs i ≡ Some t) ⊎ ((step_check (case_step k) bs i ≡ None) × Judged rules steps (said_at bs i) (proposed_at bs i) (Err t)))
      × (final ≡ steps)

-- where the check c of the book refuses, nothing is heard
abbrev pub RunsAfter : Option Told → List (Rule ℕ) → List Step → List ℕ → Option Told → List Step → Type 0
RunsAfter None rules steps case out final = Hears rules steps (case_steps case) (case_end case) out final
RunsAfter (Some t) rules steps case out final = (out ≡ Some t) × (final ≡ steps)

abbrev pub Runs : List ℕ → List ℕ → Option Told → List Step → Type 0
Runs book case out final = RunsAfter (book_check book) (file_rules book) [] case out final
