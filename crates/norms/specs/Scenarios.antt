-- The standing steps as a scenario and a trace. Assumes nothing.
--     said_of steps             the scenario: what is said at each step
--     marks_of steps            the marks of each step
--     trace steps               all dated marks that stand
--     StableTrace rules steps   the trace is the smallest set that contains the said marks, each at its step, and is closed
--                               under the reduct, by the trace itself, of all steps together
--     Lowest S answer           the answer is the lowest dated mark of S, by step and then by mark, or none where S has none
use Rattle.std.specs.Prelude.{◌≡◌, ℕ, false, ◌⊎◌, List, map, length, Some, None, Option}
use Rattle.marks.specs.Sets.{Set, ◌∈◌}
use Rattle.norms.specs.Programs.{Rule, Stable}
use Rattle.norms.specs.Rules.{Norms}
use Rattle.norms.specs.Steps.{Step, Handing}
use Rattle.norms.specs.Traces.{at, Together}
use Rattle.norms.specs.Laws.{Before}

abbrev pub said_of : List Step → List (Set ℕ)
said_of steps = map (λ (s : Step). s.said) steps

abbrev pub marks_of : List Step → List (Set ℕ)
marks_of steps = map (λ (s : Step). s.marks) steps

abbrev pub trace : List Step → Set (ℕ × ℕ)
trace steps = at (marks_of steps)

abbrev pub StableTrace : List (Rule ℕ) → List Step → Type 0
StableTrace rules steps = Stable (Together (Norms rules) Handing (length steps)) (at (said_of steps)) (trace steps)

abbrev pub Lowest : Set (ℕ × ℕ) → Option (ℕ × ℕ) → Type 0
Lowest S None = (d : ℕ × ℕ) → S d ≡ false
Lowest S (Some d) = (d ∈ S) × ((e : ℕ × ℕ) → e ∈ S → (e ≡ d) ⊎ Before d e)
