-- Marks as numbers. An instance is one ground fact, act, event or duty, with a number from 0 to
-- 127. A mark says one thing of one instance, its attribute: the number of the mark is
-- 8 × instance + attribute, from 0 to 1,023. Assumes nothing.
--     mark i a      the mark that says a of the instance i
--     instance m    the instance that m speaks of
--     attribute m   what m says of it
use Rattle.std.specs.Prelude.{ℕ, ◌+◌, ◌*◌, ◌/◌, ◌%◌}

abbrev pub mark : ℕ → ℕ → ℕ
mark i a = 8 * i + a

abbrev pub instance : ℕ → ℕ
instance m = m / 8

abbrev pub attribute : ℕ → ℕ
attribute m = m % 8

-- the attributes
abbrev pub carried : ℕ
carried = 0

abbrev pub holds : ℕ
holds = 1

abbrev pub enabled : ℕ
enabled = 2

abbrev pub triggered : ℕ
triggered = 3

abbrev pub created : ℕ
created = 4

abbrev pub ended : ℕ
ended = 5

abbrev pub violated : ℕ
violated = 6

abbrev pub breached : ℕ
breached = 7
