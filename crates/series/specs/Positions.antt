-- The number of a position in a row. Assumes nothing.
--     place p    0 for the head, k + 1 for body mark k
use Rattle.std.specs.Prelude.{ℕ, suc}
use Rattle.series.specs.declared.moved.Position.{Position}
use Rattle.series.specs.declared.moved.Position.TheVariants.{Head, Body}

abbrev pub place : Position → ℕ
place Head = 0
place (Body k) = suc k
