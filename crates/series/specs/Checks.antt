-- When a series is refused, and what is told: the first check that fails. Assumes nothing.
--     the_row                   the row, as an item
--     out_of_bounds             what is told of a width, a count or a movement out of bounds (11, at 0)
--     high_check row m p n      refuses a moving mark at position p that is above 1,023 in rule n
--     position_check row m p    refuses position p, where it moves: a position that the row does not use, or a mark
--                               that is above 1,023 in some rule
--     movement_check row m      refuses a width above 127, a count above 128, or a position
--     series_check row m        refuses fewer than 32 bytes (1, at their number), more (9, at 32), a row that is no
--                               rule, and then the movement
use Rattle.std.specs.Prelude.{ℕ, ◌&&◌, ◌||◌, List, length, Option, nat_lt}
use Rattle.refusals.specs.declared.Told.{Told}
use Rattle.refusals.specs.declared.Item.{Item}
use Rattle.refusals.specs.declared.Section.TheVariants.{Series}
use Rattle.refusals.specs.Telling.{refusal_in}
use Rattle.refusals.specs.Checks.{refuse_if, ◌⨟◌, first_below}
use Rattle.marks.specs.Words.{bit}
use Rattle.reading.specs.Reads.{there}
use Rattle.rows.specs.Rows.{body_count, row_check}
use Rattle.series.specs.declared.movement.Movement.{Movement}
use Rattle.series.specs.Moved.{moved}

abbrev pub the_row : Item
the_row = record { section = Series; item = 0 }

abbrev pub out_of_bounds : Told
out_of_bounds = refusal_in the_row 11 0

abbrev pub high_check : List ℕ → Movement → ℕ → ℕ → Option Told
high_check row m p n = refuse_if (bit m.moving p && nat_lt 1023 (moved row m n p)) out_of_bounds

abbrev pub position_check : List ℕ → Movement → ℕ → Option Told
position_check row m p =
    refuse_if (bit m.moving p && nat_lt (body_count row) p) out_of_bounds
    ⨟ first_below m.count (high_check row m p)

abbrev pub movement_check : List ℕ → Movement → Option Told
movement_check row m =
    refuse_if (nat_lt 127 m.width || nat_lt 128 m.count) out_of_bounds
    ⨟ first_below 16 (position_check row m)

abbrev pub series_check : List ℕ → Movement → Option Told
series_check row m =
    there the_row row 0 32
    ⨟ refuse_if (nat_lt 32 (length row)) (refusal_in the_row 9 32)
    ⨟ row_check the_row 0 row
    ⨟ movement_check row m
