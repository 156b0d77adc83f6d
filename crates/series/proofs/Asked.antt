-- What a series answers to the questions of a book. Assumes nothing.
use Rattle.std.proofs.Common.{◌≡◌, ℕ, suc, ◌<◌, ◌≤◌, true, cond, not, ◌||◌, eqb, ltb, leb, List, length, is_some, Some, None, sym, ap, ◌∙◌, ⊎_elim, arith}
use Rattle.std.specs.List.{slice_get}
use Rattle.std.proofs.lemmas.List.FromFn.{length-map-range_with_len}
use Rattle.std.proofs.lemmas.Bool.{cases_lt, and_left, and_right, and_from, lt-ltb, le-ltb, lt-leb, le-leb}
use Rattle.books.specs.Asked.{head_of, counts_of, body_of}
use Rattle.books.proofs.Counted.{nth_counted, nth_counted_past, head_past, rule_past, head_is, counts_are, body_is}
use Rattle.rows.specs.Rows.{required_count, barred_count, body_count}
use Rattle.series.specs.declared.movement.Movement.{Movement}
use Rattle.series.specs.Moved.{moved, mark_of, moved_marks, series_rule, series_rules}
use Rattle.series.specs.Checks.{series_check}
use Rattle.series.specs.Sound.{low_moved, passes_at, series_body, length_required, length_barred}

-- how many rules there are
pub size : (row : List ℕ) (m : Movement) → length (series_rules row m) ≡ m.count
size row m = length-map-range_with_len (series_rule row m) 0 m.count

module _ (row : List ℕ) (m : Movement) (n : ℕ) where
  -- no rule n, or no mark at p
  pub none_past : (p : ℕ) → m.count ≤ n → None ≡ mark_of row m n p
  none_past p past = sym (ap (λ b. cond b (Some (moved row m n p)) None) (and_left (ltb n m.count) (leb p (body_count row)) (le-ltb n m.count past)))

  pub none_unused : (p : ℕ) → body_count row < p → None ≡ mark_of row m n p
  none_unused p high = sym (ap (λ b. cond b (Some (moved row m n p)) None) (and_right (ltb n m.count) (leb p (body_count row)) (lt-leb p (body_count row) high)))

  module _ (below : n < m.count) where
    pub mark_is : (p : ℕ) → p ≤ body_count row → Some (moved row m n p) ≡ mark_of row m n p
    mark_is p used = sym (ap (λ b. cond b (Some (moved row m n p)) None) (and_from (ltb n m.count) (leb p (body_count row)) (lt-ltb n m.count below) (le-leb p (body_count row) used)))

    -- the k-th body mark
    body_moved : (k : ℕ) → body_of (series_rules row m) n k ≡ slice_get (moved_marks row m n) k
    body_moved k = body_is (series_rule row m) m.count n k below ∙ ap (λ ms. slice_get ms k) (series_body row m n)

    pub counts_told : (x y : ℕ) → x ≡ required_count row → y ≡ barred_count row → Some (x, y) ≡ counts_of (series_rules row m) n
    counts_told x y e f =
        ap (λ z. Some (z, y)) (e ∙ sym (length_required row m n))
        ∙ ap (λ z. Some (length (series_rule row m n).required, z)) (f ∙ sym (length_barred row m n))
        ∙ sym (counts_are (series_rule row m) m.count n below)

    module _ (checked : (eqb m.count 0 || not (is_some (series_check row m))) ≡ true) where
      pub low_at : (p : ℕ) → p ≤ body_count row → moved row m n p ≤ 1023
      low_at = low_moved row m (passes_at row m checked n below) n below

  -- the answers of the book
  pub head_told : mark_of row m n 0 ≡ head_of (series_rules row m) n
  head_told =
      ⊎_elim
      (λ (below : n < m.count). sym (mark_is below 0 (omega arith)) ∙ sym (head_is (series_rule row m) m.count n below))
      (λ past. sym (none_past 0 past) ∙ head_past (series_rule row m) m.count n past)
      (cases_lt n m.count)

  pub body_told : (k : ℕ) → mark_of row m n (suc k) ≡ body_of (series_rules row m) n k
  body_told k =
      ⊎_elim
      (λ (below : n < m.count).
      ⊎_elim
      (λ used. sym (mark_is below (suc k) (omega arith)) ∙ sym (body_moved below k ∙ nth_counted (λ j. moved row m n (suc j)) (body_count row) k used))
      (λ unused. sym (none_unused (suc k) (omega arith)) ∙ sym (body_moved below k ∙ nth_counted_past (λ j. moved row m n (suc j)) (body_count row) k unused))
      (cases_lt k (body_count row)))
      (λ past. sym (none_past (suc k) past) ∙ rule_past (series_rule row m) m.count n k past)
      (cases_lt n m.count)
