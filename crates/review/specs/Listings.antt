-- What `list` answers: finding k of the standing steps, or 34 with how many there are. Assumes nothing.
use Rattle.std.specs.Prelude.{ℕ, List, Result}
use Rattle.std.specs.Result.{result_map_both}
use Rattle.refusals.specs.declared.Told.{Told}
use Rattle.refusals.specs.Telling.{refusal}
use Rattle.norms.specs.Steps.{Step}
use Rattle.norms.specs.Findings.{findings}
use Rattle.steps.specs.Listed.{listed}

abbrev pub listing : List Step → ℕ → Result (ℕ × ℕ) Told
listing steps k = result_map_both (λ x. x) (refusal 34) (listed (findings steps) k)
