-- The file of well-formed rules and names passes the check, and means them. Assumes nothing.
use Rattle.std.proofs.Common.{◌≡◌, ℕ, ◌+◌, ◌*◌, ◌<◌, ◌≤◌, Bool, true, false, List, [], length, get_or, None, sym, refl, ap, ◌∙◌, subst, arith}
use Rattle.std.specs.Str.{bytes_eq}
use Rattle.std.proofs.lemmas.List.{ext_get_or}
use Rattle.std.proofs.lemmas.List.FromFn.{length-map-range_with_len, get_or-map-range_with_len}
use Rattle.std.proofs.ByRecursion.{All-get_or}
use Rattle.std.proofs.lemmas.Slice.Eq.{bytes_eq-Decides}
use Rattle.std.proofs.lemmas.Bool.{le-ltb, lt-leb, ne_eqb, or_from}
use Rattle.refusals.specs.declared.Section.TheVariants.{Rules}
use Rattle.marks.specs.Numbers.{instance}
use Rattle.norms.specs.Programs.{Rule}
use Rattle.norms.specs.Rules.{body}
use Rattle.rows.specs.Rows.{head, body_count, mark_at, row_check}
use Rattle.rows.specs.Tables.{row_at, row_in, rule_in, row_check_in}
use Rattle.rows.specs.Written.{written_row}
use Rattle.refusals.proofs.Passed.{both_passed, all_passed}
use Rattle.refusals.proofs.Refused.{passed_if}
use Rattle.rows.proofs.Written.{head_back, count_back, mark_back, row_passes}
use Rattle.bookcheck.specs.Layout.{rows_from, rule_count, file_rules, name_count, names_from, name_at, name_in, file_names}
use Rattle.bookcheck.specs.Checks.{rule_item, name_item, unfit, byte_check, apart_check, name_check, rules_check, names_check, named_check, body_check, uses_check, book_check}
use Rattle.bookcheck.specs.Written.{Fit, FitName, Named, WellFormed, written}
use Rattle.bookcheck.proofs.ReadBack.{blank, rules_back, sound_here, row_back_at, row_there, rule_back_at, count_there, names_back, names_start, name_length, name_back, name_whole, names_end}

fit_passed : (b : ℕ) → Fit b → unfit b ≡ false
fit_passed b fit = or_from _ _ (or_from _ _ (le-ltb b 0x21 fit.low) (le-ltb 0x7E b fit.high)) (ne_eqb b 0x23 fit.no_hash)

apart_passed : (xs ys : List ℕ) → (xs ≡ ys → ⊥) → bytes_eq xs ys ≡ false
apart_passed xs ys apart = not_true (bytes_eq xs ys) (λ e. apart ((bytes_eq-Decides xs ys).0 e))
  where
    not_true : (b : Bool) → (b ≡ true → ⊥) → b ≡ false
    not_true true never = absurd (never refl)
    not_true false never = refl

-- name n of a file, and its offset
abbrev place : List ℕ → ℕ → ℕ
place bs n = name_at bs (names_from bs) n

abbrev name : List ℕ → ℕ → List ℕ
name bs n = name_in bs (names_from bs) n

module _ (rules : List (Rule ℕ)) (names : List (List ℕ)) (good : WellFormed rules names) where
  row_accepted : (n : ℕ) → n < rule_count (written rules names) → row_check_in Rules (written rules names) rows_from n ≡ None
  row_accepted n h =
      let below : n < length rules = omega (arith, rules_back rules names good.sound) in
      both_passed _ _
      (passed_if _ _ (le-ltb (length (written rules names)) (row_at rows_from n + 32) (row_there rules names good.sound n below)))
      (ap (row_check (rule_item n) (row_at rows_from n)) (row_back_at rules names good.sound n below)
      ∙ row_passes (get_or rules n blank) (rule_item n) (row_at rows_from n) (sound_here rules names good.sound n below))

  rules_accepted : rules_check (written rules names) ≡ None
  rules_accepted =
      both_passed _ _
      (both_passed _ _
      (passed_if _ _ (le-ltb (length (written rules names)) (0 + 2) (omega arith)))
      (passed_if _ _ (le-ltb 512 (rule_count (written rules names)) (omega (arith, rules_back rules names good.sound, good.few_rules)))))
      (all_passed (row_check_in Rules (written rules names) rows_from) (rule_count (written rules names)) row_accepted)

  module _ (n : ℕ) (h : n < length names) where
    fit_here : FitName (get_or names n [])
    fit_here = All-get_or FitName names n [] h good.fit

    is_name : (k : ℕ) → k < length names → name (written rules names) k ≡ get_or names k []
    is_name k below = name_back (written rules names) (names_from (written rules names)) names (names_start rules names good.sound) k below

    size_here : get_or (written rules names) (place (written rules names) n) 0 ≡ length (get_or names n [])
    size_here = name_length (written rules names) (names_from (written rules names)) names (names_start rules names good.sound) n h

    whole_here : place (written rules names) n + 1 + length (get_or names n []) ≤ length (written rules names)
    whole_here = name_whole (written rules names) (names_from (written rules names)) names (names_start rules names good.sound) n h

    byte_accepted : (k : ℕ) → k < length (name (written rules names) n) → byte_check (name_item n) (place (written rules names) n) (name (written rules names) n) k ≡ None
    byte_accepted k below =
        passed_if _ _
        (ap (λ xs. unfit (get_or xs k 0)) (is_name n h)
        ∙ fit_passed (get_or (get_or names n []) k 0) (All-get_or Fit (get_or names n []) k 0 (omega (arith, ap length (is_name n h))) fit_here.fit))

    apart_accepted : (k : ℕ) → k < n → apart_check (name_item n) (place (written rules names) n) (written rules names) (names_from (written rules names)) (name (written rules names) n) k ≡ None
    apart_accepted k below =
        passed_if _ _ (apart_passed _ _ (λ e. good.apart k n below h (sym (is_name k (omega arith)) ∙ e ∙ is_name n h)))

    name_accepted : name_check (written rules names) (names_from (written rules names)) n ≡ None
    name_accepted =
        both_passed _ _
        (both_passed _ _
        (both_passed _ _
        (both_passed _ _
        (passed_if _ _ (le-ltb _ _ (omega (arith, whole_here))))
        (passed_if _ _ (or_from _ _ (ne_eqb _ _ (λ (e : get_or (written rules names) (place (written rules names) n) 0 ≡ 0). omega (arith, size_here, fit_here.some))) (le-ltb _ _ (omega (arith, size_here, fit_here.short))))))
        (passed_if _ _ (le-ltb _ _ (omega (arith, size_here, whole_here)))))
        (all_passed (byte_check (name_item n) (place (written rules names) n) (name (written rules names) n)) _ byte_accepted))
        (all_passed (apart_check (name_item n) (place (written rules names) n) (written rules names) (names_from (written rules names)) (name (written rules names) n)) n apart_accepted)

  names_accepted : names_check (written rules names) ≡ None
  names_accepted =
      both_passed _ _
      (both_passed _ _
      (passed_if _ _ (le-ltb _ _ (count_there rules names good.sound)))
      (passed_if _ _ (le-ltb 128 (name_count (written rules names)) (omega (arith, names_back rules names good.sound, good.few_names)))))
      (all_passed (name_check (written rules names) (names_from (written rules names))) (name_count (written rules names)) (λ n h. name_accepted n (omega (arith, names_back rules names good.sound))))

  rule_here : (n : ℕ) → n < length rules → Named (length names) (get_or rules n blank)
  rule_here n h = All-get_or (Named (length names)) rules n blank h good.named

  mark_accepted : (n m spot : ℕ) → instance m < length names → named_check (name_count (written rules names)) n m spot ≡ None
  mark_accepted n m spot low = passed_if _ _ (lt-leb (name_count (written rules names)) (instance m) (omega (arith, names_back rules names good.sound)))

  uses_accepted : (n : ℕ) → n < length rules → uses_check (name_count (written rules names)) (written rules names) n ≡ None
  uses_accepted n h =
      both_passed _ _
      (mark_accepted n (head (row_in (written rules names) rows_from n)) (row_at rows_from n) (subst (λ m. instance m < length names) (sym (ap head row ∙ head_back r)) (rule_here n h).0))
      (all_passed (body_check (name_count (written rules names)) (written rules names) n) (body_count (row_in (written rules names) rows_from n))
      (λ k below.
      let in_body : k < length (body r) = omega (arith, ap body_count row, count_back r) in
      mark_accepted n (mark_at (row_in (written rules names) rows_from n) k) (row_at rows_from n + 4 + 2 * k)
      (subst (λ m. instance m < length names) (sym (ap (λ x. mark_at x k) row ∙ mark_back r k in_body)) (All-get_or (λ m. instance m < length names) (body r) k 0 in_body (rule_here n h).1))))
    where
      r : Rule ℕ
      r = get_or rules n blank

      row : row_in (written rules names) rows_from n ≡ written_row r
      row = row_back_at rules names good.sound n h

  pub accepted : book_check (written rules names) ≡ None
  unfolding book_check
  accepted =
      both_passed _ _
      (both_passed _ _
      (both_passed _ _ rules_accepted names_accepted)
      (passed_if _ _ (le-ltb _ _ (subst (λ n. length (written rules names) ≤ place (written rules names) n) (sym (names_back rules names good.sound)) (names_end (written rules names) (names_from (written rules names)) names (names_start rules names good.sound))))))
      (all_passed (uses_check (name_count (written rules names)) (written rules names)) (rule_count (written rules names)) (λ n h. uses_accepted n (omega (arith, rules_back rules names good.sound))))

  -- the file means the rules and names
  pub rules_meant : file_rules (written rules names) ≡ rules
  rules_meant =
      ext_get_or blank (file_rules (written rules names)) rules (length-map-range_with_len (rule_in (written rules names) rows_from) 0 (rule_count (written rules names)) ∙ rules_back rules names good.sound)
      (λ n h.
      let count : n < rule_count (written rules names) = omega (arith, length-map-range_with_len (rule_in (written rules names) rows_from) 0 (rule_count (written rules names))) in
      get_or-map-range_with_len (rule_in (written rules names) rows_from) 0 (rule_count (written rules names)) n n blank count (omega arith)
      ∙ rule_back_at rules names good.sound n (omega (arith, rules_back rules names good.sound)))

  pub names_meant : file_names (written rules names) ≡ names
  names_meant =
      ext_get_or [] (file_names (written rules names)) names (length-map-range_with_len (name (written rules names)) 0 (name_count (written rules names)) ∙ names_back rules names good.sound)
      (λ n h.
      let count : n < name_count (written rules names) = omega (arith, length-map-range_with_len (name (written rules names)) 0 (name_count (written rules names))) in
      get_or-map-range_with_len (name (written rules names)) 0 (name_count (written rules names)) n n [] count (omega arith)
      ∙ name_back (written rules names) (names_from (written rules names)) names (names_start rules names good.sound) n (omega (arith, names_back rules names good.sound)))
