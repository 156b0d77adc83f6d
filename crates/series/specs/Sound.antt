-- The rules of a series keep the bounds of a book: the proof that the interface of a book asks for. It stands here
-- since an impl can take it from no other place, and need not be read. Assumes nothing.
use Rattle.std.specs.Prelude.{◌≡◌, ℕ, zero, suc, ◌+◌, ◌*◌, ◌%◌, ◌<◌, ◌≤◌, true, not, ◌||◌, ◌⊎◌, List, length, is_some, None, ◌==◌, nat_lt, slice_index, slice_index_or}
use Rattle.std.proofs.Common.{sym, ap, ◌∙◌, subst, inl, inr, ⊎_elim, mul_assoc, arith}
use Rattle.std.specs.List.{AllByRecursion}
use Rattle.std.proofs.lemmas.List.{take-append-drop, length-take, length-drop}
use Rattle.std.proofs.lemmas.List.FromFn.{length-map-range_with_len, get_or-map-range_with_len}
use Rattle.std.proofs.ByRecursion.{All-from_get_or}
use Rattle.std.proofs.lemmas.Bool.{ltb-false, eqb-true, or_cases, or_parts, and_cases, cases_Bool, both_ways, cond-true, cond-false, not-true}
use Rattle.refusals.specs.Checks.{first_below}
use Rattle.marks.specs.Numbers.{attribute}
use Rattle.marks.specs.Words.{bit}
use Rattle.norms.specs.Rules.{SoundRule, SoundBook, body}
use Rattle.rows.specs.Rows.{required_count, barred_count, body_count, row_check}
use Rattle.refusals.proofs.Passed.{none_from, before_passed, after_passed, test_failed, each_passed}
use Rattle.rows.proofs.Sound.{few_marks, head_kind, head_low, mark_low}
use Rattle.series.specs.declared.movement.Movement.{Movement}
use Rattle.series.specs.Moved.{mark_in, moved, moved_marks, series_rule, series_rules}
use Rattle.series.specs.Checks.{the_row, high_check, position_check, movement_check, series_check}

-- rule n of a series
module _ (row : List ℕ) (m : Movement) (n : ℕ) where
  pub series_body : body (series_rule row m n) ≡ moved_marks row m n
  series_body = take-append-drop (required_count row) (moved_marks row m n)

  pub length_moved : length (moved_marks row m n) ≡ body_count row
  length_moved = length-map-range_with_len (λ k. moved row m n (suc k)) 0 (body_count row)

  pub length_required : length (series_rule row m n).required ≡ required_count row
  length_required = length-take (required_count row) (moved_marks row m n) ∙ omega (arith, length_moved)

  pub length_barred : length (series_rule row m n).barred ≡ barred_count row
  length_barred = length-drop (required_count row) (moved_marks row m n) ∙ omega (arith, length_moved)

  -- a mark keeps its attribute
  pub same_attribute : (p : ℕ) → attribute (moved row m n p) ≡ attribute (mark_in row p)
  same_attribute p =
      ⊎_elim
      (λ moves. ap (λ x. (mark_in row p + x) % 8) (cond-true (bit m.moving p) (8 * m.width * n) 0 moves ∙ mul_assoc 8 m.width n) ∙ omega arith)
      (λ stands. ap (λ x. (mark_in row p + x) % 8) (cond-false (bit m.moving p) (8 * m.width * n) 0 stands) ∙ omega arith)
      (cases_Bool (bit m.moving p))

module _ (row : List ℕ) (m : Movement) (passed : series_check row m ≡ None) where
  row_passed : row_check the_row 0 row ≡ None
  row_passed = after_passed _ _ (before_passed _ _ passed)

  movement_passed : movement_check row m ≡ None
  movement_passed = after_passed _ _ passed

  few_rules : m.count ≤ 128
  few_rules = ltb-false _ _ (or_parts _ _ (test_failed _ _ (before_passed _ _ movement_passed))).1

  pub few_positions : body_count row ≤ 14
  few_positions = few_marks the_row 0 row row_passed

  low_row : (p : ℕ) → p ≤ body_count row → mark_in row p ≤ 1023
  low_row zero used = head_low the_row 0 row row_passed
  low_row (suc k) used = mark_low the_row 0 row row_passed k (omega arith)

  high_passed : (p : ℕ) → p < 16 → first_below m.count (high_check row m p) ≡ None
  high_passed p small = after_passed _ _ (each_passed (position_check row m) 16 (after_passed _ _ movement_passed) p small)

  low_moving : (n : ℕ) → n < m.count → (p : ℕ) → p < 16 → bit m.moving p ≡ true → moved row m n p ≤ 1023
  low_moving n below p small moves =
      ⊎_elim
      (λ stands. absurd (both_ways (bit m.moving p) stands moves))
      (λ low. ltb-false 1023 (moved row m n p) low)
      (and_cases (bit m.moving p) (nat_lt 1023 (moved row m n p)) (test_failed _ _ (each_passed (high_check row m p) m.count (high_passed p small) n below)))

  -- each mark of each rule is low
  pub low_moved : (n : ℕ) → n < m.count → (p : ℕ) → p ≤ body_count row → moved row m n p ≤ 1023
  low_moved n below p used =
      ⊎_elim
      (low_moving n below p (omega (arith, few_positions)))
      (λ stands. subst (λ x. mark_in row p + x ≤ 1023) (sym (cond-false (bit m.moving p) (8 * m.width * n) 0 stands)) (omega (arith, low_row p used)))
      (cases_Bool (bit m.moving p))

  pub sound_rule : (n : ℕ) → n < m.count → SoundRule (series_rule row m n)
  sound_rule n below =
      record {
        low = omega (arith, low_moved n below 0 (omega arith));
        not_carried = λ e. (head_kind the_row 0 row row_passed).0 (sym (same_attribute row m n 0) ∙ e);
        not_breached = λ e. (head_kind the_row 0 row row_passed).1 (sym (same_attribute row m n 0) ∙ e);
        few = omega (arith, few_positions, ap length (series_body row m n), length_moved row m n);
        body_low = subst (AllByRecursion (λ m. m < 1024)) (sym (series_body row m n)) (All-from_get_or (λ m. m < 1024) (moved_marks row m n) 0 low_body);
      }
    where
      low_body : (k : ℕ) → k < length (moved_marks row m n) → slice_index (moved_marks row m n) k < 1024
      low_body k inside =
          let used : k < body_count row = omega (arith, length_moved row m n) in
          omega (arith, get_or-map-range_with_len (λ j. moved row m n (suc j)) 0 (body_count row) k k 0 used (omega arith), low_moved n below (suc k) (omega arith))

-- the same from what a `Series` holds
module _ (row : List ℕ) (m : Movement) (checked : (m.count == 0 || not (is_some (series_check row m))) ≡ true) where
  -- there is no rule, or the check passes
  ways : (m.count ≡ 0) ⊎ (series_check row m ≡ None)
  ways =
      ⊎_elim
      (λ none. inl (eqb-true m.count 0 none))
      (λ passes. inr (none_from _ (not-true _ passes)))
      (or_cases (m.count == 0) (not (is_some (series_check row m))) checked)

  pub passes_at : (n : ℕ) → n < m.count → series_check row m ≡ None
  passes_at n below = ⊎_elim (λ none. absurd (omega arith)) (λ passes. passes) ways

  sound_at : (n : ℕ) → n < m.count → SoundRule (slice_index_or (series_rules row m) n (series_rule row m 0))
  sound_at n below =
      subst SoundRule (sym (get_or-map-range_with_len (series_rule row m) 0 m.count n n (series_rule row m 0) below (omega arith)))
      (sound_rule row m (passes_at n below) n below)

  pub sound_series : SoundBook (series_rules row m)
  sound_series =
      let size = length-map-range_with_len (series_rule row m) 0 m.count in
      let few : m.count ≤ 1024 = ⊎_elim (λ none. omega arith) (λ passes. omega (arith, few_rules row m passes)) ways in
      record {
        few = omega arith;
        each = All-from_get_or SoundRule (series_rules row m) (series_rule row m 0) (λ n below. sound_at n (omega arith));
      }
