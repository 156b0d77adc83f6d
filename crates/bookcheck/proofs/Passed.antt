-- What is known of a file that passes the check. Assumes nothing.
use Rattle.std.proofs.Common.{◌≡◌, ℕ, ◌+◌, ◌<◌, ◌≤◌, false, ◌||◌, eqb, ltb, List, length, get_or, None}
use Rattle.std.proofs.lemmas.Bool.{ltb-false, or_parts}
use Rattle.refusals.specs.declared.Section.TheVariants.{Rules}
use Rattle.refusals.specs.Checks.{first_below}
use Rattle.rows.specs.Tables.{rows_check}
use Rattle.refusals.proofs.Passed.{before_passed, after_passed, test_failed, each_passed}
use Rattle.bookcheck.specs.Layout.{rows_from, rule_count, name_count, names_from, name_at}
use Rattle.bookcheck.specs.Checks.{name_check, rules_check, names_check, book_check}

module _ (bs : List ℕ) (passed : book_check bs ≡ None) where
  pub rules_passed : rules_check bs ≡ None
  unfolding book_check
  rules_passed = before_passed _ _ (before_passed _ _ (before_passed _ _ passed))

  pub names_passed : names_check bs ≡ None
  unfolding book_check
  names_passed = after_passed _ _ (before_passed _ _ (before_passed _ _ passed))

  pub few_rules : rule_count bs ≤ 512
  few_rules = ltb-false _ _ (test_failed _ _ (after_passed _ _ (before_passed _ _ rules_passed)))

  pub rows_passed : rows_check Rules bs rows_from (rule_count bs) ≡ None
  rows_passed = after_passed _ _ rules_passed

  pub each_name_passed : first_below (name_count bs) (name_check bs (names_from bs)) ≡ None
  each_name_passed = after_passed _ _ names_passed

-- names that pass
module _ (bs : List ℕ) (from n : ℕ) (passed : first_below n (name_check bs from) ≡ None) (k : ℕ) (below : k < n) where
  this_passed : name_check bs from k ≡ None
  this_passed = each_passed (name_check bs from) n passed k below

  -- name k ends within the bytes
  pub name_within : name_at bs from k + 1 + get_or bs (name_at bs from k) 0 ≤ length bs
  name_within = ltb-false _ _ (test_failed _ _ (after_passed _ _ (before_passed _ _ (before_passed _ _ this_passed))))

  pub name_sized : (eqb (get_or bs (name_at bs from k) 0) 0 || ltb 32 (get_or bs (name_at bs from k) 0)) ≡ false
  name_sized = test_failed _ _ (after_passed _ _ (before_passed _ _ (before_passed _ _ (before_passed _ _ this_passed))))

  pub name_short : get_or bs (name_at bs from k) 0 ≤ 32
  name_short = ltb-false _ _ (or_parts _ _ name_sized).1
