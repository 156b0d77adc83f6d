-- What is made of a file, whether it passes the check or not. Assumes nothing.
--     made_rules bs         the rules of the book that is made of the file
--     made_names bs         the names that are made of the file
use Rattle.std.specs.Prelude.{ℕ, List}
use Rattle.refusals.specs.Checks.{where_passes}
use Rattle.norms.specs.Programs.{Rule}
use Rattle.bookcheck.specs.Layout.{file_rules, file_names}
use Rattle.bookcheck.specs.Checks.{book_check}

abbrev pub made_rules : List ℕ → List (Rule ℕ)
made_rules bs = where_passes (book_check bs) (file_rules bs)

abbrev pub made_names : List ℕ → List (List ℕ)
made_names bs = where_passes (book_check bs) (file_names bs)
