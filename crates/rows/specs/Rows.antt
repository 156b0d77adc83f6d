-- The row of a rule: 32 bytes. Two bytes have the head, one the number of required marks, one that of barred
-- marks; then come the body marks, two bytes each, required first; what is left is zero. Assumes nothing.
--     head row                  the head
--     required_count row        how many marks it requires
--     barred_count row          how many marks it bars
--     body_count row            how many body marks there are
--     mark_at row k             the k-th body mark
--     marks row                 the body marks
--     rule_of row               the rule that the row means
--     mark_check here at row k  refuses a k-th body mark above 1,023 (4, at the mark)
--     unused_at row k           the place in the row of the k-th unused byte
--     zero_check here at row k  refuses a k-th unused byte that is not zero (6, at the byte)
--     row_check here at row     refuses a row that stands at the offset `at`: a head above 1,023 (4) or of
--                               attribute carried or breached (5, both at the row), more than 14 body marks
--                               (3, at the counts), a body mark (4) or an unused byte (6)
--     row_check_at here bs at   refuses the 32 bytes of a file at the offset `at`, where they are not all there
--                               (1, at the file's length) or no row of a rule
use Rattle.std.specs.Prelude.{ℕ, ◌+◌, ◌-◌, ◌*◌, ◌||◌, List, map, take, drop, Option, ◌==◌, nat_lt, slice_index}
use Rattle.std.specs.List.{range_with_len}
use Rattle.refusals.specs.declared.Told.{Told}
use Rattle.refusals.specs.declared.Item.{Item}
use Rattle.refusals.specs.Telling.{refusal_in}
use Rattle.refusals.specs.Checks.{refuse_if, ◌⨟◌, first_below}
use Rattle.marks.specs.Numbers.{attribute, carried, breached}
use Rattle.norms.specs.Programs.{Rule}
use Rattle.reading.specs.Reads.{pair, part, there}

abbrev pub head : List ℕ → ℕ
head row = pair row 0

abbrev pub required_count : List ℕ → ℕ
required_count row = slice_index row 2

abbrev pub barred_count : List ℕ → ℕ
barred_count row = slice_index row 3

abbrev pub body_count : List ℕ → ℕ
body_count row = required_count row + barred_count row

abbrev pub mark_at : List ℕ → ℕ → ℕ
mark_at row k = pair row (4 + 2 * k)

abbrev pub marks : List ℕ → List ℕ
marks row = map (mark_at row) (range_with_len 0 (body_count row))

abbrev pub rule_of : List ℕ → Rule ℕ
rule_of row = record { head = head row; required = take (required_count row) (marks row); barred = drop (required_count row) (marks row) }

abbrev pub mark_check : Item → ℕ → List ℕ → ℕ → Option Told
mark_check here at row k = refuse_if (nat_lt 1023 (mark_at row k)) (refusal_in here 4 (at + 4 + 2 * k))

abbrev pub unused_at : List ℕ → ℕ → ℕ
unused_at row k = 4 + 2 * body_count row + k

abbrev pub zero_check : Item → ℕ → List ℕ → ℕ → Option Told
zero_check here at row k = refuse_if (nat_lt 0 (slice_index row (unused_at row k))) (refusal_in here 6 (at + unused_at row k))

abbrev pub row_check : Item → ℕ → List ℕ → Option Told
row_check here at row =
    refuse_if (nat_lt 1023 (head row)) (refusal_in here 4 at)
    ⨟ refuse_if (attribute (head row) == carried || attribute (head row) == breached) (refusal_in here 5 at)
    ⨟ refuse_if (nat_lt 14 (body_count row)) (refusal_in here 3 (at + 2))
    ⨟ first_below (body_count row) (mark_check here at row)
    ⨟ first_below (28 - 2 * body_count row) (zero_check here at row)

abbrev pub row_check_at : Item → List ℕ → ℕ → Option Told
row_check_at here bs at = there here bs at 32 ⨟ row_check here at (part bs at 32)
