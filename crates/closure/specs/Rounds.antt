-- Parts of a round. Assumes nothing.
--     Tells says S            what is said of a mark is whether S has it
--     Passes says told r      r is what is said of the mark that was told, and true where none was
--     AllMarks rules n a b S  the body marks of rule n from place a up to b are all in S
--     outside M               the marks that M lacks
--     Place rules n           rule n alone, as a program
--     Applies rules M S n     rule n stays in the reduct by M, and each mark that it requires is in S
--     Only r                  the rule r alone, as a program
--     Below n Q               the rules of Q k for all numbers k below n
--     FrameOf i               the two frame rules of the instance i
--     Adds P M S T R          R is T and the heads of all rules of P that stay in the reduct by M and have
--                             their required marks in S
use Rattle.std.specs.Prelude.{◌≡◌, ℕ, ◌<◌, ◌≤◌, Bool, not, ◌⊎◌, ◌↔◌, List, Option, Some, true, MatchOption}
use Rattle.std.specs.List.{slice_get}
use Rattle.marks.specs.declared.mark.Mark.{Mark}
use Rattle.marks.specs.Sets.{Set, ◌∈◌}
use Rattle.norms.specs.Programs.{Rule, Program, Stays, Met, Brings}
use Rattle.norms.specs.Rules.{holds_rule, breach_rule}
use Rattle.books.specs.Asked.{body_of}

abbrev pub Tells : (Mark → Bool → Type 0) → Set ℕ → Type 0
Tells says S = (m : Mark) (r : Bool) → says m r → r ≡ S m.number

abbrev pub Passes : (Mark → Bool → Type 0) → Option ℕ → Bool → Type 0
Passes says told r = MatchOption told (r ≡ true) (λ x. (m : Mark) × (m.number ≡ x) × says m r)

abbrev pub AllMarks : List (Rule ℕ) → ℕ → ℕ → ℕ → Set ℕ → Type 0
AllMarks rules n a b S = (k m : ℕ) → a ≤ k → k < b → body_of rules n k ≡ Some m → m ∈ S

abbrev pub outside : Set ℕ → Set ℕ
outside M m = not (M m)

abbrev pub Place : List (Rule ℕ) → ℕ → Program ℕ
Place rules n r = slice_get rules n ≡ Some r

abbrev pub Applies : List (Rule ℕ) → Set ℕ → Set ℕ → ℕ → Type 0
Applies rules M S n = (r : Rule ℕ) × Place rules n r × Stays M r × Met S r

abbrev pub Only : Rule ℕ → Program ℕ
Only r x = x ≡ r

abbrev pub Below : ℕ → (ℕ → Program ℕ) → Program ℕ
Below n Q r = (k : ℕ) × (k < n) × Q k r

abbrev pub FrameOf : ℕ → Program ℕ
FrameOf i r = Only (holds_rule i) r ⊎ Only (breach_rule i) r

abbrev pub Adds : Program ℕ → Set ℕ → Set ℕ → Set ℕ → Set ℕ → Type 0
Adds P M S T R = (m : ℕ) → (m ∈ R) ↔ ((m ∈ T) ⊎ Brings P M S m)
