-- Rows that stand one after another in a file, the first at the offset `from`. Assumes nothing.
--     row_at from n                  the offset of row n
--     row_in bs from n               its 32 bytes
--     in_section section n           the item n of the section
--     row_check_in section bs from n refuses row n, which is the item n of the section
--     rows_check section bs from n   refuses the first of n rows that is no row of a rule
--     rule_in bs from n              the rule of row n
--     rules_in bs from n             the rules of n rows
use Rattle.std.specs.Prelude.{ℕ, ◌+◌, ◌*◌, List, map, Option}
use Rattle.std.specs.List.{range_with_len}
use Rattle.refusals.specs.declared.Told.{Told}
use Rattle.refusals.specs.declared.Section.{Section}
use Rattle.refusals.specs.declared.Item.{Item}
use Rattle.refusals.specs.Checks.{first_below}
use Rattle.norms.specs.Programs.{Rule}
use Rattle.reading.specs.Reads.{part}
use Rattle.rows.specs.Rows.{row_check_at, rule_of}

abbrev pub row_at : ℕ → ℕ → ℕ
row_at from n = from + 32 * n

abbrev pub row_in : List ℕ → ℕ → ℕ → List ℕ
row_in bs from n = part bs (row_at from n) 32

abbrev pub in_section : Section → ℕ → Item
in_section section n = record { section = section; item = n }

abbrev pub row_check_in : Section → List ℕ → ℕ → ℕ → Option Told
row_check_in section bs from n = row_check_at (in_section section n) bs (row_at from n)

abbrev pub rows_check : Section → List ℕ → ℕ → ℕ → Option Told
rows_check section bs from n = first_below n (row_check_in section bs from)

abbrev pub rule_in : List ℕ → ℕ → ℕ → Rule ℕ
rule_in bs from n = rule_of (row_in bs from n)

abbrev pub rules_in : List ℕ → ℕ → ℕ → List (Rule ℕ)
rules_in bs from n = map (rule_in bs from) (range_with_len 0 n)
