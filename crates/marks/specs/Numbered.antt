-- Numbers in a row. Assumes nothing.
--     numbers a b   the numbers from a on that are below b, rising
use Rattle.std.specs.Prelude.{ℕ, ◌-◌, List}
use Rattle.std.specs.List.{range_with_len}

unfoldable pub numbers : ℕ → ℕ → List ℕ
numbers a b = range_with_len a (b - a)
