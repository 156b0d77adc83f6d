-- What is made of a file, whether it passes the check or not. Assumes nothing.
use Rattle.std.proofs.Common.{◌≡◌, ℕ, List, None, sym, ap, ◌∙◌, subst}
use Rattle.refusals.specs.Checks.{where_passes}
use Rattle.norms.specs.Programs.{Rule}
use Rattle.bookcheck.specs.Layout.{file_rules, file_names}
use Rattle.bookcheck.specs.Checks.{book_check}
use Rattle.bookcheck.specs.Written.{FileOf}
use Rattle.bookcheck.proofs.Accepted.{accepted, rules_meant, names_meant}
use Rattle.bookfile.specs.Made.{made_rules, made_names}

-- what is made of the file of rules and names
module _ (bs : List ℕ) (rules : List (Rule ℕ)) (names : List (List ℕ)) (file : FileOf rules names bs) where
  passes_check : book_check bs ≡ None
  passes_check = subst (λ xs. book_check xs ≡ None) (sym file.is_written) (accepted rules names file.well_formed)

  pub rules_made : made_rules bs ≡ rules
  rules_made = ap (λ c. where_passes c (file_rules bs)) passes_check ∙ ap file_rules file.is_written ∙ rules_meant rules names file.well_formed

  pub names_made : made_names bs ≡ names
  names_made = ap (λ c. where_passes c (file_names bs)) passes_check ∙ ap file_names file.is_written ∙ names_meant rules names file.well_formed
