-- How two traces over the same scenario stand to each other. Assumes nothing.
--     Compares Same S R c    c tells how the traces S and R stand to each other, where Same says that they are of the same
--                            scenario
use Rattle.std.specs.Prelude.{◌≡◌, ℕ, ◌≢◌}
use Rattle.marks.specs.Sets.{Set, beyond}
use Rattle.norms.specs.Scenarios.{Lowest}
use Rattle.steps.specs.declared.comparison.Comparison.{Comparison}
use Rattle.steps.specs.declared.comparison.Comparison.TheVariants.{OtherScenario, SameTrace, Different}

abbrev pub Compares : Type 0 → Set (ℕ × ℕ) → Set (ℕ × ℕ) → Comparison → Type 0
Compares Same S R OtherScenario = Same → ⊥
Compares Same S R SameTrace = Same × (S ≡ R)
Compares Same S R (Different first second) = Same × (S ≢ R) × Lowest (beyond S R) first × Lowest (beyond R S) second
