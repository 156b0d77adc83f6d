-- The check passes exactly where the bytes are the file of some well-formed rules and names. Assumes nothing.
use Rattle.std.proofs.Common.{◌≡◌, ℕ, zero, suc, ◌+◌, ◌<◌, ◌≤◌, true, false, ◌↔◌, List, [], length, get_or, is_ok, None, Result, sym, refl, ◌∙◌, subst, arith}
use Rattle.std.specs.List.{AllByRecursion}
use Rattle.std.specs.Str.{bytes_eq}
use Rattle.std.proofs.lemmas.List.{length-take, length-drop}
use Rattle.std.proofs.lemmas.List.FromFn.{length-map-range_with_len, get_or-map-range_with_len}
use Rattle.std.proofs.ByRecursion.{All-from_get_or}
use Rattle.std.proofs.lemmas.Slice.Eq.{bytes_eq-Decides}
use Rattle.std.proofs.lemmas.Bool.{ltb-false, leb-false, eqb-false, or_parts, both_ways}
use Rattle.refusals.specs.declared.Section.TheVariants.{Rules}
use Rattle.refusals.specs.declared.Told.{Told}
use Rattle.refusals.specs.Telling.{answered}
use Rattle.refusals.specs.Checks.{first_below, passes}
use Rattle.marks.specs.Numbers.{instance}
use Rattle.rows.specs.Rows.{body_count, marks}
use Rattle.rows.specs.Tables.{row_in, rule_in}
use Rattle.refusals.proofs.Passed.{before_passed, after_passed, test_failed, each_passed}
use Rattle.refusals.proofs.Refused.{passes_exactly}
use Rattle.rows.proofs.Sound.{body_marks, length_marks, get_or_marks, sound_rows}
use Rattle.bookcheck.specs.Layout.{rows_from, rule_count, file_rules, name_count, names_from, name_at, name_in, file_names}
use Rattle.bookcheck.specs.Checks.{name_item, unfit, byte_check, apart_check, name_check, body_check, uses_check, book_check}
use Rattle.bookcheck.specs.Written.{Fit, FitName, Named, WellFormed, BookFile}
use Rattle.bookcheck.proofs.Passed.{names_passed, few_rules, rows_passed, each_name_passed, name_within, name_sized}
use Rattle.bookcheck.proofs.Accepted.{accepted}
use Rattle.bookcheck.proofs.WriteBack.{file_written}

unfit_not : (b : ℕ) → unfit b ≡ false → Fit b
unfit_not b e =
    let parts = or_parts _ _ e in
    let ends = or_parts _ _ parts.0 in
    record { low = ltb-false b 0x21 ends.0; high = ltb-false 0x7E b ends.1; no_hash = eqb-false b 0x23 parts.1 }

positive : (x : ℕ) → (x ≡ 0 → ⊥) → 1 ≤ x
positive zero never = absurd (never refl)
positive (suc x) never = omega arith

module _ (bs : List ℕ) (passed : book_check bs ≡ None) where
  few_names : name_count bs ≤ 128
  few_names = ltb-false _ _ (test_failed _ _ (after_passed _ _ (before_passed _ _ (names_passed bs passed))))

  module _ (n : ℕ) (h : n < name_count bs) where
    this_passed : name_check bs (names_from bs) n ≡ None
    this_passed = each_passed (name_check bs (names_from bs)) (name_count bs) (each_name_passed bs passed) n h

    name_length : length (name_in bs (names_from bs) n) ≡ get_or bs (name_at bs (names_from bs) n) 0
    name_length =
        length-take (get_or bs (name_at bs (names_from bs) n) 0) _
        ∙ omega (arith, length-drop (name_at bs (names_from bs) n + 1) bs, name_within bs (names_from bs) (name_count bs) (each_name_passed bs passed) n h)

    bytes_passed : first_below (length (name_in bs (names_from bs) n)) (byte_check (name_item n) (name_at bs (names_from bs) n) (name_in bs (names_from bs) n)) ≡ None
    bytes_passed = after_passed _ _ (before_passed _ _ this_passed)

    names_apart : first_below n (apart_check (name_item n) (name_at bs (names_from bs) n) bs (names_from bs) (name_in bs (names_from bs) n)) ≡ None
    names_apart = after_passed _ _ this_passed

    fit_name : FitName (name_in bs (names_from bs) n)
    fit_name =
        let sized = or_parts _ _ (name_sized bs (names_from bs) (name_count bs) (each_name_passed bs passed) n h) in
        record {
          some = some_byte (eqb-false _ _ sized.0);
          short = omega (arith, name_length, ltb-false _ _ sized.1);
          fit = All-from_get_or Fit (name_in bs (names_from bs) n) 0 (λ k below. unfit_not _ (test_failed _ _ (each_passed (byte_check (name_item n) (name_at bs (names_from bs) n) (name_in bs (names_from bs) n)) _ bytes_passed k below)));
        }
      where
        some_byte : (get_or bs (name_at bs (names_from bs) n) 0 ≡ 0 → ⊥) → 1 ≤ length (name_in bs (names_from bs) n)
        some_byte not-zero = omega (arith, name_length, positive _ not-zero)

    apart_here : (k : ℕ) → k < n → name_in bs (names_from bs) k ≡ name_in bs (names_from bs) n → ⊥
    apart_here k below same =
        both_ways (bytes_eq (name_in bs (names_from bs) k) (name_in bs (names_from bs) n))
        (test_failed _ _ (each_passed (apart_check (name_item n) (name_at bs (names_from bs) n) bs (names_from bs) (name_in bs (names_from bs) n)) n names_apart k below))
        ((bytes_eq-Decides _ _).1 same)

  uses_passed : (n : ℕ) → n < rule_count bs → uses_check (name_count bs) bs n ≡ None
  unfolding book_check
  uses_passed n h = each_passed (uses_check (name_count bs) bs) (rule_count bs) (after_passed _ _ passed) n h

  named_here : (n : ℕ) → n < rule_count bs → Named (name_count bs) (rule_in bs rows_from n)
  named_here n h = (
    leb-false _ _ (test_failed _ _ (before_passed _ _ (uses_passed n h))),
    subst (AllByRecursion (λ m. instance m < name_count bs)) (sym (body_marks (row_in bs rows_from n)))
        (All-from_get_or (λ m. instance m < name_count bs) (marks (row_in bs rows_from n)) 0
        (λ k below.
        let in_body : k < body_count (row_in bs rows_from n) = omega (arith, length_marks (row_in bs rows_from n)) in
        subst (λ m. instance m < name_count bs) (sym (get_or_marks (row_in bs rows_from n) k in_body))
        (leb-false _ _ (test_failed _ _ (each_passed (body_check (name_count bs) bs n) (body_count (row_in bs rows_from n)) (after_passed _ _ (uses_passed n h)) k in_body))))),
  )

  rule_count_is : length (file_rules bs) ≡ rule_count bs
  rule_count_is = length-map-range_with_len (rule_in bs rows_from) 0 (rule_count bs)

  name_count_is : length (file_names bs) ≡ name_count bs
  name_count_is = length-map-range_with_len (name_in bs (names_from bs)) 0 (name_count bs)

  rule_is : (n : ℕ) → n < rule_count bs → get_or (file_rules bs) n (rule_in bs rows_from 0) ≡ rule_in bs rows_from n
  rule_is n h = get_or-map-range_with_len (rule_in bs rows_from) 0 (rule_count bs) n n (rule_in bs rows_from 0) h (omega arith)

  name_is : (n : ℕ) → n < name_count bs → get_or (file_names bs) n [] ≡ name_in bs (names_from bs) n
  name_is n h = get_or-map-range_with_len (name_in bs (names_from bs)) 0 (name_count bs) n n [] h (omega arith)

  all_named : AllByRecursion (Named (length (file_names bs))) (file_rules bs)
  all_named =
      All-from_get_or (Named (length (file_names bs))) (file_rules bs) (rule_in bs rows_from 0)
      (λ n h.
      let below : n < rule_count bs = omega (arith, rule_count_is) in
      subst (Named (length (file_names bs))) (sym (rule_is n below)) (subst (λ k. Named k (rule_in bs rows_from n)) (sym name_count_is) (named_here n below)))

  pub read_well : WellFormed (file_rules bs) (file_names bs)
  read_well = record {
    few_rules = omega (arith, rule_count_is, few_rules bs passed);
    sound = (sound_rows Rules bs rows_from (rule_count bs) (rows_passed bs passed) (omega (arith, few_rules bs passed))).each;
    few_names = omega (arith, name_count_is, few_names);
    fit = All-from_get_or FitName (file_names bs) [] (λ n h. let below : n < name_count bs = omega (arith, name_count_is) in subst FitName (sym (name_is n below)) (fit_name n below));
    apart = λ i j before within same.
        let below : j < name_count bs = omega (arith, name_count_is) in
        apart_here j below i before (sym (name_is i (omega arith)) ∙ same ∙ name_is j below);
    named = all_named;
  }

-- the law, for bytes
pub book_law : (bs : List ℕ) → ((i : ℕ) → get_or bs i 0 < 256) → (book_check bs ≡ None) ↔ BookFile bs
book_law bs small = (
  (λ passed. (file_rules bs, file_names bs, record { well_formed = read_well bs passed; is_written = file_written bs small passed })),
  (λ file. subst (λ xs. book_check xs ≡ None) (sym file.2.is_written) (accepted file.0 file.1 file.2.well_formed)),
)

-- a call that makes the check
pub call_law : {E : Type 0} (told : E → Told) (r : Result (Unit {0}) E) (bs : List ℕ) → ((i : ℕ) → get_or bs i 0 < 256) → answered told r ≡ passes tt (book_check bs) → (is_ok r ≡ true) ↔ BookFile bs
call_law told r bs small answer = passes_exactly told r (book_check bs) (book_law bs small) answer
