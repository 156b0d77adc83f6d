-- When a book file is refused, and what is told: the first check that fails. Assumes nothing.
--     rule_item n, name_item n      rule n and name n, as items
--     unfit b                       the byte b may not stand in a name
--     byte_check here at name k     refuses an unfit byte k of a name (7, at the name)
--     apart_check here at bs from name k   refuses a name that is the k-th name (8, at the name)
--     name_check_at here at len bs from n   the check of name n, whose length byte is at the offset `at` and says len
--     name_check bs from n          refuses name n: bytes that are not there (1, at the file's length), a length
--                                   that is not 1 to 32 or an unfit byte (7), a name that stood earlier (8, both
--                                   at the name)
--     rules_check bs                refuses the count of rules (1, 2) or a row
--     names_check bs                refuses the count of names (1, 2) or a name
--     named_check names n m spot    refuses the mark m of rule n, which stands at the spot, where its instance is
--                                   none of the first so many, which have names (10, at the mark)
--     body_check names bs n k       the same of the k-th body mark of rule n
--     uses_check names bs n         the same of rule n: of its head, then of its body marks
--     book_check bs                 all of these, and after the names bytes that are left over (9)
use Rattle.std.specs.Prelude.{ℕ, ◌+◌, ◌*◌, Bool, ◌||◌, List, length, Option, ◌==◌, nat_le, nat_lt, slice_index}
use Rattle.std.specs.Str.{bytes_eq}
use Rattle.refusals.specs.declared.Told.{Told}
use Rattle.refusals.specs.declared.Item.{Item}
use Rattle.refusals.specs.declared.Section.TheVariants.{Rules, Names}
use Rattle.refusals.specs.Telling.{refusal_in}
use Rattle.refusals.specs.Checks.{refuse_if, ◌⨟◌, first_below}
use Rattle.marks.specs.Numbers.{instance}
use Rattle.reading.specs.Reads.{there, at_most, ends_at}
use Rattle.rows.specs.Rows.{head, body_count, mark_at}
use Rattle.rows.specs.Tables.{row_at, row_in, in_section, rows_check}
use Rattle.bookcheck.specs.Layout.{rows_from, rule_count, names_count_at, name_count, names_from, name_at, name_in}

abbrev pub rule_item : ℕ → Item
rule_item n = in_section Rules n

abbrev pub name_item : ℕ → Item
name_item n = in_section Names n

-- below `!`, above `~`, or `#`
abbrev pub unfit : ℕ → Bool
unfit b = nat_lt b 0x21 || nat_lt 0x7E b || b == 0x23

abbrev pub byte_check : Item → ℕ → List ℕ → ℕ → Option Told
byte_check here at name k = refuse_if (unfit (slice_index name k)) (refusal_in here 7 at)

abbrev pub apart_check : Item → ℕ → List ℕ → ℕ → List ℕ → ℕ → Option Told
apart_check here at bs from name k = refuse_if (bytes_eq (name_in bs from k) name) (refusal_in here 8 at)

abbrev pub name_check_at : Item → ℕ → ℕ → List ℕ → ℕ → ℕ → Option Told
name_check_at here at len bs from n =
    there here bs at 1
    ⨟ refuse_if (len == 0 || nat_lt 32 len) (refusal_in here 7 at)
    ⨟ there here bs (at + 1) len
    ⨟ first_below (length (name_in bs from n)) (byte_check here at (name_in bs from n))
    ⨟ first_below n (apart_check here at bs from (name_in bs from n))

abbrev pub name_check : List ℕ → ℕ → ℕ → Option Told
name_check bs from n = name_check_at (name_item n) (name_at bs from n) (slice_index bs (name_at bs from n)) bs from n

abbrev pub rules_check : List ℕ → Option Told
rules_check bs =
    there (rule_item 0) bs 0 2
    ⨟ at_most (rule_item 0) 0 512 (rule_count bs)
    ⨟ rows_check Rules bs rows_from (rule_count bs)

abbrev pub names_check : List ℕ → Option Told
names_check bs =
    there (name_item 0) bs (names_count_at bs) 1
    ⨟ at_most (name_item 0) (names_count_at bs) 128 (name_count bs)
    ⨟ first_below (name_count bs) (name_check bs (names_from bs))

abbrev pub named_check : ℕ → ℕ → ℕ → ℕ → Option Told
named_check names n m spot = refuse_if (nat_le names (instance m)) (refusal_in (rule_item n) 10 spot)

abbrev pub body_check : ℕ → List ℕ → ℕ → ℕ → Option Told
body_check names bs n k = named_check names n (mark_at (row_in bs rows_from n) k) (row_at rows_from n + 4 + 2 * k)

abbrev pub uses_check : ℕ → List ℕ → ℕ → Option Told
uses_check names bs n =
    named_check names n (head (row_in bs rows_from n)) (row_at rows_from n)
    ⨟ first_below (body_count (row_in bs rows_from n)) (body_check names bs n)

unfoldable pub book_check : List ℕ → Option Told
book_check bs =
    rules_check bs
    ⨟ names_check bs
    ⨟ ends_at bs (name_at bs (names_from bs) (name_count bs))
    ⨟ first_below (rule_count bs) (uses_check (name_count bs) bs)
