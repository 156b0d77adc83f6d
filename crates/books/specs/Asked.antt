-- What a book answers, by the rules that it means. Assumes nothing.
--     head_of rules n          the head of rule n
--     counts_of rules n        how many marks it requires, and how many it bars
--     body_of rules n k        its k-th body mark, required ones first
-- Each is none past the end, and nowhere else. All count from 0.
use Rattle.std.specs.Prelude.{ℕ, List, length, Some, None, Option}
use Rattle.std.specs.List.{slice_get}
use Rattle.std.specs.Option.{option_map}
use Rattle.marks.specs.declared.mark.Mark.{Mark}
use Rattle.norms.specs.Programs.{Rule}
use Rattle.norms.specs.Rules.{body}

abbrev pub head_of : List (Rule ℕ) → ℕ → Option ℕ
head_of rules n = option_map (λ (r : Rule ℕ). r.head) (slice_get rules n)

abbrev pub counts_of : List (Rule ℕ) → ℕ → Option (ℕ × ℕ)
counts_of rules n = option_map (λ (r : Rule ℕ). (length r.required, length r.barred)) (slice_get rules n)

abbrev pub body_at : Option (Rule ℕ) → ℕ → Option ℕ
body_at None k = None
body_at (Some r) k = slice_get (body r) k

abbrev pub body_of : List (Rule ℕ) → ℕ → ℕ → Option ℕ
body_of rules n k = body_at (slice_get rules n) k

-- the number of a mark that was told, or none
abbrev pub numbered : Option Mark → Option ℕ
numbered m = option_map (λ (x : Mark). x.number) m
