-- A rule and its row: what is written is read back, and what was read is written back. Assumes nothing.
use Rattle.std.proofs.Common.{◌≡◌, ℕ, zero, suc, ◌+◌, ◌-◌, ◌*◌, ◌/◌, ◌%◌, ◌<◌, ◌≤◌, ◌⊎◌, List, ◌++◌, length, get_or, take, drop, None, sym, refl, ap, ◌∙◌, inl, inr, ⊎_elim, arith}
use Rattle.std.specs.List.{flat_map}
use Rattle.std.proofs.lemmas.List.{length-append, length-replicate, take_at, drop_at, ext_get_or, get_or-append_right, get_or-replicate, get_or_past}
use Rattle.std.proofs.ByRecursion.{All-get_or}
use Rattle.std.proofs.lemmas.Bool.{cases_lt, le-ltb, ltb-false, ne_eqb, or_from}
use Rattle.refusals.specs.declared.Item.{Item}
use Rattle.marks.specs.Numbers.{attribute}
use Rattle.norms.specs.Programs.{Rule}
use Rattle.norms.specs.Rules.{SoundRule, body}
use Rattle.reading.specs.Reads.{byte_pair}
use Rattle.reading.proofs.Pairs.{length_pairs, high_at, low_at}
use Rattle.rows.specs.Rows.{head, body_count, mark_at, marks, rule_of, unused_at, mark_check, zero_check, row_check}
use Rattle.rows.specs.Written.{zeros, written_row}
use Rattle.refusals.proofs.Passed.{both_passed, all_passed, each_passed, test_failed}
use Rattle.refusals.proofs.Refused.{passed_if}
use Rattle.rows.proofs.Sound.{body_marks, length_marks, get_or_marks, length_required, length_barred, few_marks, zeros_passed}

pub length_zeros : (n : ℕ) → length (zeros n) ≡ n
length_zeros n = length-replicate {A = ℕ} n 0

zero_at : (n k : ℕ) → get_or (zeros n) k 0 ≡ 0
zero_at n k = ⊎_elim (λ below. get_or-replicate {A = ℕ} n k 0 0 below) (λ past. get_or_past (zeros n) k 0 (omega (arith, length_zeros n))) (cases_lt k n)

pub rest_at : (ms : List ℕ) (n i : ℕ) → 2 * length ms ≤ i → get_or (flat_map byte_pair ms ++ zeros n) i 0 ≡ 0
rest_at ms n i h = get_or-append_right (flat_map byte_pair ms) (zeros n) (2 * length ms) i 0 (length_pairs ms) h ∙ zero_at n (i - 2 * length ms)

-- what is written is read back
module _ (r : Rule ℕ) where
  pub length_row : length (body r) ≤ 14 → length (written_row r) ≡ 32
  length_row few =
      let tail = length-append (flat_map byte_pair (body r)) (zeros (28 - 2 * length (body r))) in
      omega (arith, tail, length_pairs (body r), length_zeros (28 - 2 * length (body r)))

  pub head_back : head (written_row r) ≡ r.head
  head_back = omega arith

  pub count_back : body_count (written_row r) ≡ length (body r)
  count_back = sym (length-append r.required r.barred)

  pub mark_back : (k : ℕ) → k < length (body r) → mark_at (written_row r) k ≡ get_or (body r) k 0
  mark_back k h =
      let high : 4 + 2 * k ≡ suc (suc (suc (suc (2 * k)))) = omega arith in
      let low : 4 + 2 * k + 1 ≡ suc (suc (suc (suc (suc (2 * k))))) = omega arith in
      let a : get_or (written_row r) (4 + 2 * k) 0 ≡ get_or (body r) k 0 / 256 = ap (λ i. get_or (written_row r) i 0) high ∙ high_at (body r) _ k h in
      let b : get_or (written_row r) (4 + 2 * k + 1) 0 ≡ get_or (body r) k 0 % 256 = ap (λ i. get_or (written_row r) i 0) low ∙ low_at (body r) _ k h in
      omega arith

  pub marks_back : marks (written_row r) ≡ body r
  marks_back =
      ext_get_or 0 (marks (written_row r)) (body r) (length_marks (written_row r) ∙ count_back)
      (λ k h. let below : k < length (body r) = omega (arith, length_marks (written_row r), count_back) in get_or_marks (written_row r) k (omega (arith, length_marks (written_row r))) ∙ mark_back k below)

  pub rule_back : rule_of (written_row r) ≡ r
  rule_back =
      let need : take (length r.required) (marks (written_row r)) ≡ r.required = ap (take (length r.required)) marks_back ∙ take_at r.required r.barred (length r.required) refl in
      let bar : drop (length r.required) (marks (written_row r)) ≡ r.barred = ap (drop (length r.required)) marks_back ∙ drop_at r.required r.barred (length r.required) refl in
      ap (λ h. as_rule h (take (length r.required) (marks (written_row r))) (drop (length r.required) (marks (written_row r)))) head_back
      ∙ ap (λ xs. as_rule r.head xs (drop (length r.required) (marks (written_row r)))) need
      ∙ ap (λ ys. as_rule r.head r.required ys) bar
    where
      as_rule : ℕ → List ℕ → List ℕ → Rule ℕ
      as_rule h xs ys = record { head = h; required = xs; barred = ys }

  -- the row of a sound rule passes the check
  module _ (here : Item) (at : ℕ) (sound : SoundRule r) where
    mark_passed : (k : ℕ) → k < body_count (written_row r) → mark_check here at (written_row r) k ≡ None
    mark_passed k h =
        let below : k < length (body r) = omega (arith, count_back) in
        passed_if _ _ (le-ltb 1023 (mark_at (written_row r) k) (omega (arith, mark_back k below, All-get_or (λ m. m < 1024) (body r) k 0 below sound.body_low)))

    zero_passed : (k : ℕ) → zero_check here at (written_row r) k ≡ None
    zero_passed k =
        let place : unused_at (written_row r) k ≡ suc (suc (suc (suc (2 * length (body r) + k)))) = omega (arith, count_back) in
        let none : get_or (written_row r) (unused_at (written_row r) k) 0 ≡ 0 = ap (λ i. get_or (written_row r) i 0) place ∙ rest_at (body r) (28 - 2 * length (body r)) (2 * length (body r) + k) (omega arith) in
        passed_if _ _ (le-ltb 0 (get_or (written_row r) (unused_at (written_row r) k) 0) (omega arith))

    pub row_passes : row_check here at (written_row r) ≡ None
    row_passes =
        both_passed _ _
        (both_passed _ _
        (both_passed _ _
        (both_passed _ _
        (passed_if _ _ (le-ltb 1023 (head (written_row r)) (omega (arith, head_back, sound.low))))
        (passed_if _ _ (or_from _ _ (ne_eqb _ _ (λ e. sound.not_carried (ap attribute (sym head_back) ∙ e))) (ne_eqb _ _ (λ e. sound.not_breached (ap attribute (sym head_back) ∙ e))))))
        (passed_if _ _ (le-ltb 14 (body_count (written_row r)) (omega (arith, count_back, sound.few)))))
        (all_passed (mark_check here at (written_row r)) (body_count (written_row r)) mark_passed))
        (all_passed (zero_check here at (written_row r)) (28 - 2 * body_count (written_row r)) (λ k h. zero_passed k))

-- a row that passes is what is written of its rule
module _ (here : Item) (at : ℕ) (row : List ℕ) (size : length row ≡ 32) (bytes : (i : ℕ) → get_or row i 0 < 256) (passed : row_check here at row ≡ None) where
  mark_is : (k : ℕ) → k < body_count row → get_or (body (rule_of row)) k 0 ≡ mark_at row k
  mark_is k h = ap (λ ms. get_or ms k 0) (body_marks row) ∙ get_or_marks row k h

  count_is : length (body (rule_of row)) ≡ body_count row
  count_is = ap length (body_marks row) ∙ length_marks row

  -- the bytes after the first four
  mark_byte : (k : ℕ) → k < body_count row → (get_or (written_row (rule_of row)) (suc (suc (suc (suc (2 * k))))) 0 ≡ get_or row (4 + 2 * k) 0) × (get_or (written_row (rule_of row)) (suc (suc (suc (suc (suc (2 * k)))))) 0 ≡ get_or row (4 + 2 * k + 1) 0)
  mark_byte k h =
      let below : k < length (body (rule_of row)) = omega (arith, count_is) in
      let high = high_at (body (rule_of row)) (zeros (28 - 2 * length (body (rule_of row)))) k below in
      let low = low_at (body (rule_of row)) (zeros (28 - 2 * length (body (rule_of row)))) k below in
      let is = mark_is k h in
      let small = bytes (4 + 2 * k + 1) in
      (omega arith, omega arith)

  zero_byte : (k : ℕ) → 2 * body_count row ≤ k → k < 28 → get_or row (suc (suc (suc (suc k)))) 0 ≡ 0
  zero_byte k past within =
      let place : unused_at row (k - 2 * body_count row) ≡ suc (suc (suc (suc k))) = omega arith in
      let none = ltb-false 0 (get_or row (unused_at row (k - 2 * body_count row)) 0) (test_failed _ _ (each_passed (zero_check here at row) (28 - 2 * body_count row) (zeros_passed here at row passed) (k - 2 * body_count row) (omega arith))) in
      omega (arith, ap (λ i. get_or row i 0) place)

  later_byte : (k : ℕ) → k < 28 → get_or (written_row (rule_of row)) (suc (suc (suc (suc k)))) 0 ≡ get_or row (suc (suc (suc (suc k)))) 0
  later_byte k within =
      ⊎_elim
      (λ below. ⊎_elim
      (λ (even : k ≡ 2 * (k / 2)).
      let e : 4 + 2 * (k / 2) ≡ suc (suc (suc (suc k))) = omega arith in
      ap (λ i. get_or (written_row (rule_of row)) (suc (suc (suc (suc i)))) 0) even ∙ (mark_byte (k / 2) (omega arith)).0 ∙ ap (λ i. get_or row i 0) e)
      (λ (odd : k ≡ suc (2 * (k / 2))).
      let e : 4 + 2 * (k / 2) + 1 ≡ suc (suc (suc (suc k))) = omega arith in
      ap (λ i. get_or (written_row (rule_of row)) (suc (suc (suc (suc i)))) 0) odd ∙ (mark_byte (k / 2) (omega arith)).1 ∙ ap (λ i. get_or row i 0) e)
      (parity k))
      (λ past. rest_at (body (rule_of row)) (28 - 2 * length (body (rule_of row))) k (omega (arith, count_is)) ∙ sym (zero_byte k past within))
      (cases_lt k (2 * body_count row))
    where
      parity : (k : ℕ) → (k ≡ 2 * (k / 2)) ⊎ (k ≡ suc (2 * (k / 2)))
      parity k = ⊎_elim (λ low. inl (omega arith)) (λ high. inr (omega arith)) (cases_lt (k % 2) 1)

  each_byte : (i : ℕ) → i < 32 → get_or (written_row (rule_of row)) i 0 ≡ get_or row i 0
  each_byte zero h = omega (arith, bytes 1)
  each_byte (suc zero) h = omega (arith, bytes 1)
  each_byte (suc (suc zero)) h = length_required row
  each_byte (suc (suc (suc zero))) h = length_barred row
  each_byte (suc (suc (suc (suc k)))) h = later_byte k (omega arith)

  pub row_back : written_row (rule_of row) ≡ row
  row_back =
      let whole = length_row (rule_of row) (omega (arith, count_is, few_marks here at row passed)) in
      ext_get_or 0 (written_row (rule_of row)) row (whole ∙ sym size) (λ i h. each_byte i (omega arith))
