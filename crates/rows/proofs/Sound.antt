-- The rule of a row that passes the check keeps the bounds of a rule. Assumes nothing.
use Rattle.std.proofs.Common.{◌≡◌, ℕ, ◌+◌, ◌-◌, ◌*◌, ◌<◌, ◌≤◌, false, List, length, get_or, is_some, None, sym, ap, ◌∙◌, subst, arith}
use Rattle.std.specs.List.{AllByRecursion}
use Rattle.std.proofs.lemmas.List.{take-append-drop, length-take, length-drop}
use Rattle.std.proofs.lemmas.List.FromFn.{length-map-range_with_len, get_or-map-range_with_len}
use Rattle.std.proofs.ByRecursion.{All-from_get_or}
use Rattle.std.proofs.lemmas.Bool.{ltb-false, eqb-false, or_parts}
use Rattle.refusals.specs.declared.Item.{Item}
use Rattle.refusals.specs.declared.Section.{Section}
use Rattle.refusals.specs.Checks.{first_below}
use Rattle.marks.specs.Numbers.{attribute, carried, breached}
use Rattle.norms.specs.Rules.{SoundRule, SoundBook, body}
use Rattle.rows.specs.Rows.{head, required_count, barred_count, body_count, mark_at, marks, rule_of, mark_check, zero_check, row_check}
use Rattle.rows.specs.Tables.{row_at, row_in, in_section, row_check_in, rows_check, rule_in, rules_in}
use Rattle.refusals.proofs.Passed.{none_from, before_passed, after_passed, test_failed, each_passed}

pub body_marks : (row : List ℕ) → body (rule_of row) ≡ marks row
body_marks row = take-append-drop (required_count row) (marks row)

pub length_marks : (row : List ℕ) → length (marks row) ≡ body_count row
length_marks row = length-map-range_with_len (mark_at row) 0 (body_count row)

pub get_or_marks : (row : List ℕ) (k : ℕ) → k < body_count row → get_or (marks row) k 0 ≡ mark_at row k
get_or_marks row k h = get_or-map-range_with_len (mark_at row) 0 (body_count row) k k 0 h (omega arith)

pub length_required : (row : List ℕ) → length (rule_of row).required ≡ required_count row
length_required row = length-take (required_count row) (marks row) ∙ omega (arith, length_marks row)

pub length_barred : (row : List ℕ) → length (rule_of row).barred ≡ barred_count row
length_barred row = length-drop (required_count row) (marks row) ∙ omega (arith, length_marks row)

-- what each part of the check says of a row that passes
module _ (here : Item) (at : ℕ) (row : List ℕ) (passed : row_check here at row ≡ None) where
  pub zeros_passed : first_below (28 - 2 * body_count row) (zero_check here at row) ≡ None
  zeros_passed = after_passed _ _ passed

  pub marks_passed : first_below (body_count row) (mark_check here at row) ≡ None
  marks_passed = after_passed _ _ (before_passed _ _ passed)

  pub few_marks : body_count row ≤ 14
  few_marks = ltb-false _ _ (test_failed _ _ (after_passed _ _ (before_passed _ _ (before_passed _ _ passed))))

  pub head_kind : (attribute (head row) ≡ carried → ⊥) × (attribute (head row) ≡ breached → ⊥)
  head_kind =
      let apart = or_parts _ _ (test_failed _ _ (after_passed _ _ (before_passed _ _ (before_passed _ _ (before_passed _ _ passed))))) in
      (eqb-false _ _ apart.0, eqb-false _ _ apart.1)

  pub head_low : head row ≤ 1023
  head_low = ltb-false _ _ (test_failed _ _ (before_passed _ _ (before_passed _ _ (before_passed _ _ (before_passed _ _ passed)))))

  pub mark_low : (k : ℕ) → k < body_count row → mark_at row k ≤ 1023
  mark_low k h = ltb-false _ _ (test_failed _ _ (each_passed (mark_check here at row) (body_count row) marks_passed k h))

  pub sound_rule : SoundRule (rule_of row)
  sound_rule = record {
    low = omega (arith, head_low);
    not_carried = head_kind.0;
    not_breached = head_kind.1;
    few = omega (arith, few_marks, ap length (body_marks row), length_marks row);
    body_low = subst (AllByRecursion (λ m. m < 1024)) (sym (body_marks row)) (All-from_get_or (λ m. m < 1024) (marks row) 0 (λ k h. let l = length_marks row in let b : k < body_count row = omega arith in omega (arith, get_or_marks row k b, mark_low k b)));
  }

-- rows that pass are a sound book
module _ (section : Section) (bs : List ℕ) (from n : ℕ) (passed : rows_check section bs from n ≡ None) where
  pub row_passed : (k : ℕ) → k < n → row_check (in_section section k) (row_at from k) (row_in bs from k) ≡ None
  row_passed k h = after_passed _ _ (each_passed (row_check_in section bs from) n passed k h)

  -- row k is all there
  pub row_whole : (k : ℕ) → k < n → row_at from k + 32 ≤ length bs
  row_whole k h = ltb-false _ _ (test_failed _ _ (before_passed _ _ (each_passed (row_check_in section bs from) n passed k h)))

  pub head_low_in : (k : ℕ) → k < n → head (row_in bs from k) ≤ 1023
  head_low_in k h = head_low (in_section section k) (row_at from k) (row_in bs from k) (row_passed k h)

  pub mark_low_in : (k : ℕ) → k < n → (i : ℕ) → i < body_count (row_in bs from k) → mark_at (row_in bs from k) i ≤ 1023
  mark_low_in k h = mark_low (in_section section k) (row_at from k) (row_in bs from k) (row_passed k h)

  pub sound_in : (k : ℕ) → k < n → SoundRule (rule_in bs from k)
  sound_in k h = sound_rule (in_section section k) (row_at from k) (row_in bs from k) (row_passed k h)

  sound_at : (k : ℕ) → k < n → SoundRule (get_or (rules_in bs from n) k (rule_in bs from 0))
  sound_at k h = subst SoundRule (sym (get_or-map-range_with_len (rule_in bs from) 0 n k k (rule_in bs from 0) h (omega arith))) (sound_in k h)

  pub sound_rows : n ≤ 1024 → SoundBook (rules_in bs from n)
  sound_rows few = record {
    few = omega (arith, length-map-range_with_len (rule_in bs from) 0 n);
    each = All-from_get_or SoundRule (rules_in bs from n) (rule_in bs from 0) (λ k h. sound_at k (omega (arith, length-map-range_with_len (rule_in bs from) 0 n)));
  }

-- the same from what a struct over such rows holds
pub sound_table : (section : Section) (bs : List ℕ) (from n : ℕ) → is_some (rows_check section bs from n) ≡ false → n ≤ 512 → SoundBook (rules_in bs from n)
sound_table section bs from n passed few = sound_rows section bs from n (none_from _ passed) (omega arith)
