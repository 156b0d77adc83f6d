-- What the structs over a file mean. Assumes nothing.
--     rules_of b    the rules of a `FileBook`
--     name_list s   the names of a `Names`
use Rattle.std.specs.Prelude.{ℕ, List}
use Rattle.norms.specs.Programs.{Rule}
use Rattle.bookcheck.specs.Views.{table_rules, table_names}
use Rattle.bookfile.specs.declared.file_book.FileBook.{FileBook}
use Rattle.bookfile.specs.declared.name_list.Names.{Names}

abbrev pub rules_of : FileBook → List (Rule ℕ)
rules_of b = table_rules b.rules

abbrev pub name_list : Names → List (List ℕ)
name_list s = table_names s.names
