-- When a suspension is refused, and what is told: the first check that fails. Assumes nothing.
--     number_check count xs i     refuses the number at i where it is not above the one before, or names none of so many
--                             rules (14, at its position)
--     suspension_check count xs   refuses more than 16 numbers (13, at how many), and then the first number that is
--                             refused
use Rattle.std.specs.Prelude.{ℕ, ◌||◌, List, length, Option, nat_le, nat_lt, slice_index}
use Rattle.refusals.specs.declared.Told.{Told}
use Rattle.refusals.specs.Telling.{refusal}
use Rattle.refusals.specs.Checks.{refuse_if, ◌⨟◌, first_below}
use Rattle.refusals.specs.Rising.{unrising}

abbrev pub number_check : ℕ → List ℕ → ℕ → Option Told
number_check count xs i = refuse_if (unrising xs i || nat_le count (slice_index xs i)) (refusal 14 i)

abbrev pub suspension_check : ℕ → List ℕ → Option Told
suspension_check count xs = refuse_if (nat_lt 16 (length xs)) (refusal 13 (length xs)) ⨟ first_below (length xs) (number_check count xs)
