-- What a case file is: the writing of steps, each the pair of its said and its proposed marks. Assumes nothing.
--     written_list ms      a list of marks as it is written: its length, then each mark, all in two bytes
--     written_step s       the two lists of a step
--     written_case steps   the file of these steps: their number in one byte, then each step
--     FitList ms           at most 1,024 marks, each of which fits two bytes
--     FitStep s            both lists of the step are such lists
--     WellFormed steps     at most 64 such steps
--     FileOf steps bs      the bytes are the file of these steps, which are well-formed
--     CaseFile bs          the bytes are the file of some steps
use Rattle.std.specs.Prelude.{◌≡◌, ℕ, ◌^◌, ◌<◌, ◌≤◌, List, ◌∷◌, ◌++◌, length}
use Rattle.std.specs.List.{flat_map, AllByRecursion}
use Rattle.reading.specs.Reads.{byte_pair}

abbrev pub written_list : List ℕ → List ℕ
written_list ms = byte_pair (length ms) ++ flat_map byte_pair ms

abbrev pub written_step : List ℕ × List ℕ → List ℕ
written_step s = written_list s.0 ++ written_list s.1

abbrev pub written_case : List (List ℕ × List ℕ) → List ℕ
written_case steps = length steps ∷ flat_map written_step steps

pub record FitList (ms : List ℕ) : Type 0 where
  pub few : length ms ≤ 1024
  pub small : AllByRecursion (λ m. m < 2 ^ 16) ms

abbrev pub FitStep : List ℕ × List ℕ → Type 0
FitStep s = FitList s.0 × FitList s.1

pub record WellFormed (steps : List (List ℕ × List ℕ)) : Type 0 where
  pub few_steps : length steps ≤ 64
  pub fit : AllByRecursion FitStep steps

pub record FileOf (steps : List (List ℕ × List ℕ)) (bs : List ℕ) : Type 0 where
  pub well_formed : WellFormed steps
  pub is_written : bs ≡ written_case steps

abbrev pub CaseFile : List ℕ → Type 0
CaseFile bs = (steps : List (List ℕ × List ℕ)) × FileOf steps bs
