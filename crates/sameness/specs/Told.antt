-- A rule as a book tells it. Assumes nothing.
--     rule_at rules n       rule n; past the end, a rule with no body
--     HeadedAt rules n h    rule n has the head h
use Rattle.std.specs.Prelude.{◌≡◌, ℕ, List, [], Some, unwrap_or}
use Rattle.std.specs.List.{slice_get}
use Rattle.norms.specs.Programs.{Rule}
use Rattle.books.specs.Asked.{head_of}

abbrev pub rule_at : List (Rule ℕ) → ℕ → Rule ℕ
rule_at rules n = unwrap_or (slice_get rules n) (record { head = 0; required = []; barred = [] })

abbrev pub HeadedAt : List (Rule ℕ) → ℕ → ℕ → Type 0
HeadedAt rules n h = head_of rules n ≡ Some h
