-- The rounds of a closure: each that finds a mark beyond raises the count, and the first that finds none ends
-- them. Assumes nothing.
use Rattle.std.proofs.Common.{◌≡◌, ℕ, ◌+◌, ◌<◌, true, false, List, is_some, Some, None, Option, add-one, MatchOption}
use Rattle.std.proofs.lemmas.Bool.{true≢false, false≢true}
use Rattle.marks.specs.declared.mark.Mark.{Mark}
use Rattle.marks.specs.Sets.{Set, ◌∈◌, ◌⊆◌}
use Rattle.norms.specs.Programs.{Rule, Program, Round, Rounds, more, Depth}
use Rattle.norms.specs.Rules.{Norms}
use Rattle.norms.proofs.Rounds.{round_keeps, round_rests, depth_smallest}
use Rattle.closure.specs.Closes.{Closes}
use Rattle.closure.proofs.Counting.{many, many_grows}

-- what is told of a mark of R that S lacks
abbrev Beyond : Set ℕ → Set ℕ → Option Mark → Type 0
Beyond S R o = MatchOption o (R ⊆ S) (λ m. (m.number ∈ R) × (S m.number ≡ false))

pub count_rises : (P : Program ℕ) (M S R : Set ℕ) (o : Option Mark) → Round P M S R → Beyond S R o → is_some o ≡ true → many 1024 S < many 1024 R
count_rises P M S R None round told some = absurd (false≢true some)
count_rises P M S R (Some m) round told some = many_grows S R (round_keeps P M S R round) 1024 m.number m.low told.0 told.1

pub rounds_more : (P : Program ℕ) (M G S R : Set ℕ) {d : ℕ} (o : Option Mark) → Round P M S R → Beyond S R o → is_some o ≡ true → Rounds P M G d S → Rounds P M G (d + 1) R
rounds_more P M G S R None round told some before = absurd (false≢true some)
rounds_more P M G S R (Some m) round told some before = rw add-one (more before round (m.number, told.0, told.1))

pub closes : (rules : List (Rule ℕ)) (M G S R : Set ℕ) (d : ℕ) (o : Option Mark)
    → Round (Norms rules) M S R
    → Beyond S R o
    → is_some o ≡ false
    → Rounds (Norms rules) M G d S
    → Closes rules M G S d
closes rules M G S R d None round told none before =
    let rest : Depth (Norms rules) M G d S = record { rounds = before; rests = round_rests (Norms rules) M S R round told } in
    record { smallest = depth_smallest (Norms rules) M G rest; depth = rest }
closes rules M G S R d (Some m) round told none before = absurd (true≢false none)
