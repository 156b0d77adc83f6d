-- The laws above propose. Assumes nothing.
--     Alike a b      two answers say the same, but for the mark that is shown with 27 and 28
--     Exactly a      the answer accepts exactly where no list is refused and the proposed marks are a stable step
--     Settled        all answers that the definition admits to one proposal are alike, and each accepts exactly
--                    where it should
use Rattle.std.specs.Prelude.{◌≡◌, ℕ, true, ◌⊎◌, ◌↔◌, List, is_ok, None, Ok, Err, Result}
use Rattle.refusals.specs.declared.Told.{Told}
use Rattle.marks.specs.Sets.{among}
use Rattle.norms.specs.Programs.{Rule}
use Rattle.norms.specs.Steps.{Step, StableStep}
use Rattle.review.specs.declared.review.Accepted.{Accepted}
use Rattle.review.specs.Proposals.{lists_check, Judged}

abbrev pub Alike : Result Accepted Told → Result Accepted Told → Type 0
Alike (Ok a) (Ok b) = a ≡ b
Alike (Ok a) (Err u) = ⊥
Alike (Err t) (Ok b) = ⊥
Alike (Err t) (Err u) = (t ≡ u) ⊎ ((t.number ≡ u.number) × ((t.number ≡ 27) ⊎ (t.number ≡ 28)))

module _ (rules : List (Rule ℕ)) (steps : List Step) (said proposed : List ℕ) where
  abbrev pub Exactly : Result Accepted Told → Type 0
  Exactly a = (is_ok a ≡ true) ↔ ((lists_check steps said proposed ≡ None) × StableStep rules steps (among said) (among proposed))

  pub record Settled : Type 0 where
    pub alike : (a b : Result Accepted Told) → Judged rules steps said proposed a → Judged rules steps said proposed b → Alike a b
    pub exactly : (a : Result Accepted Told) → Judged rules steps said proposed a → Exactly a
