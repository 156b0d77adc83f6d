-- Findings. A finding is a breached mark in a step, or a violated mark in a step that also has holds of
-- the same instance. A dated mark is a step number, from 1, with a mark. Assumes nothing.
--     finding M        the test for the findings of a step with the marks M
--     findings_in M    the findings of a step, rising by mark
--     dated_from s ss  the findings of steps ss, of which the first has the number s, by step and then by mark
--     findings steps   all findings of the standing steps, by step and then by mark
use Rattle.std.specs.Prelude.{ℕ, ◌+◌, ◌&&◌, ◌||◌, List, [], ◌∷◌, ◌++◌, map, ◌==◌}
use Rattle.marks.specs.Sets.{Set}
use Rattle.marks.specs.Members.{marks_in}
use Rattle.marks.specs.Numbers.{mark, instance, attribute, holds, violated, breached}
use Rattle.norms.specs.Steps.{Step}

abbrev pub finding : Set ℕ → Set ℕ
finding M m = M m && (attribute m == breached || attribute m == violated && M (mark (instance m) holds))

unfoldable pub findings_in : Set ℕ → List ℕ
findings_in M = marks_in (finding M)

abbrev pub dated_from : ℕ → List Step → List (ℕ × ℕ)
dated_from s [] = []
dated_from s (step ∷ steps) = map (λ m. (s, m)) (findings_in step.marks) ++ dated_from (s + 1) steps

abbrev pub findings : List Step → List (ℕ × ℕ)
findings steps = dated_from 1 steps
