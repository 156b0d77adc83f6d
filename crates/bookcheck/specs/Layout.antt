-- Where the parts of a book file stand. A two-byte count of rules comes first, then the rows of the rules, then
-- a one-byte count of names, then the names: each a length byte and that many bytes. Assumes nothing.
--     rows_from             the offset of the first row
--     rule_count bs         how many rules there are
--     file_rules bs         the rules, in their order
--     names_count_at bs     the offset of the count of names
--     name_count bs         how many names there are
--     names_from bs         the offset of the first name's length byte
--     name_at bs from n     the offset of the length byte of name n, where the first one's is at `from`
--     name_in bs from n     the bytes of name n
--     names_in bs from n    the first n names
--     file_names bs         the names; name n is that of the instance n
use Rattle.std.specs.Prelude.{ℕ, zero, suc, ◌+◌, List, map, slice_index}
use Rattle.std.specs.List.{range_with_len}
use Rattle.norms.specs.Programs.{Rule}
use Rattle.reading.specs.Reads.{pair, part}
use Rattle.rows.specs.Tables.{row_at, rules_in}

abbrev pub rows_from : ℕ
rows_from = 2

abbrev pub rule_count : List ℕ → ℕ
rule_count bs = pair bs 0

abbrev pub file_rules : List ℕ → List (Rule ℕ)
file_rules bs = rules_in bs rows_from (rule_count bs)

abbrev pub names_count_at : List ℕ → ℕ
names_count_at bs = row_at rows_from (rule_count bs)

abbrev pub name_count : List ℕ → ℕ
name_count bs = slice_index bs (names_count_at bs)

abbrev pub names_from : List ℕ → ℕ
names_from bs = names_count_at bs + 1

unfoldable pub name_at : List ℕ → ℕ → ℕ → ℕ
name_at bs from zero = from
name_at bs from (suc n) = name_at bs from n + 1 + slice_index bs (name_at bs from n)

abbrev pub name_in : List ℕ → ℕ → ℕ → List ℕ
name_in bs from n = part bs (name_at bs from n + 1) (slice_index bs (name_at bs from n))

abbrev pub names_in : List ℕ → ℕ → ℕ → List (List ℕ)
names_in bs from n = map (name_in bs from) (range_with_len 0 n)

abbrev pub file_names : List ℕ → List (List ℕ)
file_names bs = names_in bs (names_from bs) (name_count bs)
