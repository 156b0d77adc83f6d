-- What is computed of a proposal. Assumes nothing.
--     Closes rules M G L d   L is the smallest set that contains G and is closed under the reduct by M of the
--                            rules and the frame rules, and d rounds from G lead to it
use Rattle.std.specs.Prelude.{ℕ, List}
use Rattle.marks.specs.Sets.{Set}
use Rattle.norms.specs.Programs.{Rule, Smallest, Depth}
use Rattle.norms.specs.Rules.{Norms}

pub record Closes (rules : List (Rule ℕ)) (M G L : Set ℕ) (d : ℕ) : Type 0 where
  pub smallest : Smallest (Norms rules) M G L
  pub depth : Depth (Norms rules) M G d L
