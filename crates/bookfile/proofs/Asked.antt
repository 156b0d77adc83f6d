-- What rows and names answer to the questions of a book. Assumes nothing.
use Rattle.std.proofs.Common.{◌≡◌, ℕ, ◌+◌, ◌<◌, ◌≤◌, List, length, get_or, take, drop, Some, None, Option, sym, ap, ◌∙◌, arith, MatchOption, IfSome, ⊎_elim}
use Rattle.std.specs.List.{slice_get}
use Rattle.marks.specs.declared.mark.Mark.{Mark}
use Rattle.books.specs.Asked.{head_of, counts_of, body_of, numbered}
use Rattle.marks.proofs.Making.{made_mark}
use Rattle.books.proofs.Counted.{nth_counted, nth_counted_past, head_is, counts_are, body_is}
use Rattle.rows.specs.Rows.{head, required_count, barred_count, body_count, mark_at, marks}
use Rattle.rows.specs.Tables.{row_in, rule_in, rules_in}
use Rattle.bookcheck.specs.Layout.{name_at, name_in, names_in}
use Rattle.bookcheck.specs.Checks.{name_check}
use Rattle.bookcheck.proofs.Passed.{name_short}
use Rattle.refusals.specs.Checks.{first_below}
use Rattle.std.specs.Option.{option_map}
use Rattle.std.proofs.lemmas.List.{length-take}
use Rattle.std.proofs.lemmas.Bool.{cases_lt}
use Rattle.rows.proofs.Sound.{body_marks, length_required, length_barred}

module _ (bs : List ℕ) (from count n : ℕ) where
  pub head_told : (row : List ℕ) (r : Option Mark) (m : ℕ) → row ≡ row_in bs from n → m ≡ head row → MatchOption r (1024 ≤ m) (λ x. x.number ≡ m) → head (row_in bs from n) ≤ 1023 → n < count → numbered r ≡ head_of (rules_in bs from count) n
  head_told row r m e f made low here =
      let is : m ≡ head (row_in bs from n) = f ∙ ap head e in
      made_mark r m made (omega arith) ∙ ap Some is ∙ sym (head_is (rule_in bs from) count n here)

  pub counts_told : (row : List ℕ) (x y : ℕ) → row ≡ row_in bs from n → x ≡ required_count row → y ≡ barred_count row → n < count → Some (x, y) ≡ counts_of (rules_in bs from count) n
  counts_told row x y e f g here =
      let xs : x ≡ length (take (required_count (row_in bs from n)) (marks (row_in bs from n))) = f ∙ ap required_count e ∙ sym (length_required (row_in bs from n)) in
      let ys : y ≡ length (drop (required_count (row_in bs from n)) (marks (row_in bs from n))) = g ∙ ap barred_count e ∙ sym (length_barred (row_in bs from n)) in
      ap (λ z. Some (z, y)) xs ∙ ap (λ z. Some (length (take (required_count (row_in bs from n)) (marks (row_in bs from n))), z)) ys ∙ sym (counts_are (rule_in bs from) count n here)

  body_in : (k : ℕ) → n < count → body_of (rules_in bs from count) n k ≡ slice_get (marks (row_in bs from n)) k
  body_in k here = body_is (rule_in bs from) count n k here ∙ ap (λ ms. slice_get ms k) (body_marks (row_in bs from n))

  pub body_told : (row : List ℕ) (k : ℕ) (r : Option Mark) (m : ℕ) → row ≡ row_in bs from n → m ≡ mark_at row k → MatchOption r (1024 ≤ m) (λ x. x.number ≡ m) → mark_at (row_in bs from n) k ≤ 1023 → n < count → k < body_count (row_in bs from n) → numbered r ≡ body_of (rules_in bs from count) n k
  body_told row k r m e f made low here below =
      let is : m ≡ mark_at (row_in bs from n) k = f ∙ ap (λ x. mark_at x k) e in
      made_mark r m made (omega arith) ∙ ap Some is ∙ sym (body_in k here ∙ nth_counted (mark_at (row_in bs from n)) _ k below)

  pub body_past : (k : ℕ) → n < count → body_count (row_in bs from n) ≤ k → None ≡ body_of (rules_in bs from count) n k
  body_past k here past = sym (body_in k here ∙ nth_counted_past (mark_at (row_in bs from n)) _ k past)

-- what is found at the place of an instance among names that pass
pub short_told : {A : Type 0} (view : A → List ℕ) (bs : List ℕ) (from count n : ℕ) → first_below count (name_check bs from) ≡ None → (r : Option A) → option_map view r ≡ slice_get (names_in bs from count) n → IfSome r (λ x. length (view x) ≤ 32)
short_told view bs from count n passed None found = tt
short_told view bs from count n passed (Some x) found =
    ⊎_elim
    (λ (below : n < count).
    let e : view x ≡ name_in bs from n = some_is (found ∙ nth_counted (name_in bs from) count n below) in
    omega (arith, ap length e, length-take (get_or bs (name_at bs from n) 0) (drop (name_at bs from n + 1) bs), name_short bs from count passed n below))
    (λ (past : count ≤ n). absurd (no_name (found ∙ nth_counted_past (name_in bs from) count n past)))
    (cases_lt n count)
  where
    some_is : {x y : List ℕ} → Some x ≡ Some y → x ≡ y
    some_is e = cc

    no_name : {x : List ℕ} → ◌≡◌ {A = Option (List ℕ)} (Some x) None → ⊥
    no_name e = cc
