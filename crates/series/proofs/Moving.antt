-- The check of a series: its row, and its movement position by position. Assumes nothing.
use Rattle.std.proofs.Common.{◌≡◌, ℕ, zero, suc, ◌+◌, ◌-◌, ◌*◌, ◌/◌, ◌%◌, ◌^◌, eqb, ◌<◌, ◌≤◌, Bool, true, false, ◌&&◌, ltb, ◌⊎◌, List, length, Some, None, Ok, Err, Option, Result, sym, refl, ap, ◌∙◌, inl, inr, ⊎_elim, mul-le-mul_left, arith}
use Rattle.std.proofs.Math.Nat.{pow-le-pow_right}
use Rattle.std.proofs.lemmas.Nat.{div_below, pow_pos}
use Rattle.std.proofs.lemmas.List.{take_all}
use Rattle.std.proofs.lemmas.Bool.{cases_lt, cond-true, lt-ltb, le-ltb, and_left, and_right, and_from, and_parts, and_cases, or_from, ltb-true, ltb-false}
use Rattle.refusals.specs.declared.Told.{Told}
use Rattle.refusals.specs.declared.Item.{Item}
use Rattle.refusals.specs.Telling.{refusal_in}
use Rattle.refusals.specs.Checks.{refuse_if, ◌⨟◌, first_below, passes}
use Rattle.refusals.proofs.First.{first_none}
use Rattle.marks.specs.Words.{bit}
use Rattle.reading.specs.Reads.{there, part}
use Rattle.rows.specs.Rows.{body_count, row_check, row_check_at}
use Rattle.refusals.proofs.Passed.{all_passed, both_passed}
use Rattle.refusals.proofs.Refused.{passed_if, refused_if, refused_by, passed}
use Rattle.series.specs.declared.movement.Movement.{Movement}
use Rattle.series.specs.Moved.{mark_in, moved}
use Rattle.series.specs.Checks.{the_row, out_of_bounds, high_check, position_check, movement_check, series_check}

-- a number of sixteen bits has no bit past them
pub bit_high : (w p : ℕ) → w < 2 ^ 16 → 16 ≤ p → bit w p ≡ false
unfolding bit
bit_high w p small past = ap (λ x. eqb (x % 2) 1) none
  where
    none : w / 2 ^ p ≡ 0
    none = omega (arith, div_below w (2 ^ p) 1 (pow_pos p) (omega (arith, pow-le-pow_right {n = 2} (omega arith) {i = 16} {j = p} past)))

-- checks that all tell the same
module _ (test : ℕ → Bool) (t : Told) where
  abbrev check : ℕ → Option Told
  check k = refuse_if (test k) t

  one_of : (b : Bool) (c : Option Told) → (c ≡ None) ⊎ (c ≡ Some t) → ((c ⨟ refuse_if b t) ≡ None) ⊎ ((c ⨟ refuse_if b t) ≡ Some t)
  one_of true c = ⊎_elim (λ e. inr (ap (λ x. x ⨟ Some t) e)) (λ e. inr (ap (λ x. x ⨟ Some t) e))
  one_of false c = ⊎_elim (λ e. inl (ap (λ x. x ⨟ None) e)) (λ e. inr (ap (λ x. x ⨟ None) e))

  none_or_same : (n : ℕ) → (first_below n check ≡ None) ⊎ (first_below n check ≡ Some t)
  unfolding first_below
  none_or_same zero = inl refl
  none_or_same (suc n) = one_of (test n) (first_below n check) (none_or_same n)

  -- the last of them refuses
  pub same_refused : (n : ℕ) → test n ≡ true → first_below (suc n) check ≡ Some t
  unfolding first_below
  same_refused n e =
      ⊎_elim
      (λ none. ap (λ x. x ⨟ check n) none ∙ refused_if (test n) t e)
      (λ some. ap (λ x. x ⨟ check n) some)
      (none_or_same n)

module _ (row : List ℕ) (m : Movement) (p : ℕ) where
  -- a position that does not move
  pub still : bit m.moving p ≡ false → position_check row m p ≡ None
  still e =
      both_passed _ _
      (passed_if _ out_of_bounds (and_left (bit m.moving p) (ltb (body_count row) p) e))
      (all_passed (high_check row m p) m.count (λ n below. passed_if _ out_of_bounds (and_left (bit m.moving p) (ltb 1023 (moved row m n p)) e)))

  module _ (moves : bit m.moving p ≡ true) where
    pub unused : body_count row < p → position_check row m p ≡ Some out_of_bounds
    unused high = ap (λ x. x ⨟ first_below m.count (high_check row m p)) (refused_if _ out_of_bounds (and_from (bit m.moving p) (ltb (body_count row) p) moves (lt-ltb (body_count row) p high)))

    used : p ≤ body_count row → position_check row m p ≡ first_below m.count (high_check row m p)
    used low = ap (λ x. x ⨟ first_below m.count (high_check row m p)) (passed_if _ out_of_bounds (and_right (bit m.moving p) (ltb (body_count row) p) (le-ltb (body_count row) p low)))

    -- a mark moves no further in an earlier rule
    earlier : (n k : ℕ) → n ≤ k → moved row m n p ≤ moved row m k p
    earlier n k less =
        let low : moved row m n p ≡ mark_in row p + 8 * m.width * n = ap (λ x. mark_in row p + x) (cond-true (bit m.moving p) (8 * m.width * n) 0 moves) in
        let high : moved row m k p ≡ mark_in row p + 8 * m.width * k = ap (λ x. mark_in row p + x) (cond-true (bit m.moving p) (8 * m.width * k) 0 moves) in
        omega (arith, mul-le-mul_left (8 * m.width) less)

    all_low : p ≤ body_count row → moved row m (m.count - 1) p ≤ 1023 → position_check row m p ≡ None
    all_low low most =
        used low
        ∙ all_passed (high_check row m p) m.count
        (λ n below. passed_if _ out_of_bounds (and_right (bit m.moving p) (ltb 1023 (moved row m n p)) (le-ltb 1023 (moved row m n p) (omega (arith, earlier n (m.count - 1) (omega arith))))))

    no_rule : m.count ≡ 0 → p ≤ body_count row → position_check row m p ≡ None
    no_rule none low = used low ∙ ap (λ k. first_below k (high_check row m p)) none ∙ first_none (high_check row m p)

    last_high : 0 < m.count → p ≤ body_count row → 1023 < moved row m (m.count - 1) p → position_check row m p ≡ Some out_of_bounds
    last_high some low high =
        let last = m.count - 1 in
        let next : suc last ≡ m.count = omega arith in
        used low
        ∙ ap (λ k. first_below k (high_check row m p)) (sym next)
        ∙ same_refused (λ n. bit m.moving p && ltb 1023 (moved row m n p)) out_of_bounds last (and_from (bit m.moving p) (ltb 1023 (moved row m last p)) moves (lt-ltb 1023 (moved row m last p) high))

    -- the last rule decides
    pub ends_low : p ≤ body_count row → (ltb 0 m.count && ltb 1023 (moved row m (m.count - 1) p)) ≡ false → position_check row m p ≡ None
    ends_low low ends =
        ⊎_elim
        (λ none. no_rule (omega (arith, ltb-false 0 m.count none)) low)
        (λ most. all_low low (ltb-false 1023 (moved row m (m.count - 1) p) most))
        (and_cases (ltb 0 m.count) (ltb 1023 (moved row m (m.count - 1) p)) ends)

    pub ends_high : p ≤ body_count row → (ltb 0 m.count && ltb 1023 (moved row m (m.count - 1) p)) ≡ true → position_check row m p ≡ Some out_of_bounds
    ends_high low ends =
        let parts = and_parts (ltb 0 m.count) (ltb 1023 (moved row m (m.count - 1) p)) ends in
        last_high (ltb-true 0 m.count parts.0) low (ltb-true 1023 (moved row m (m.count - 1) p) parts.1)

-- a row that is not too long is checked where it stands
pub row_checked : (row : List ℕ) → length row ≤ 32
    → (there the_row row 0 32 ⨟ refuse_if (ltb 32 (length row)) (refusal_in the_row 9 32) ⨟ row_check the_row 0 row) ≡ row_check_at the_row row 0
row_checked row short =
    ⊎_elim
    (λ cut. ap (λ b. refuse_if b ended ⨟ refuse_if (ltb 32 (length row)) (refusal_in the_row 9 32) ⨟ row_check the_row 0 row) (lt-ltb (length row) 32 cut) ∙ sym (ap (λ b. refuse_if b ended ⨟ row_check the_row 0 (part row 0 32)) (lt-ltb (length row) 32 cut)))
    (λ whole.
    ap (λ b. there the_row row 0 32 ⨟ refuse_if b (refusal_in the_row 9 32) ⨟ row_check the_row 0 row) (le-ltb 32 (length row) short)
    ∙ ap (λ b. refuse_if b ended ⨟ None ⨟ row_check the_row 0 row) (le-ltb (length row) 32 whole)
    ∙ sym (ap (λ b. refuse_if b ended ⨟ row_check the_row 0 (part row 0 32)) (le-ltb (length row) 32 whole) ∙ ap (row_check the_row 0) (take_all 32 row short)))
    (cases_lt (length row) 32)
  where
    ended : Told
    ended = refusal_in the_row 1 (length row)

-- a width and a count in bounds
pub positions_left : (row : List ℕ) (m : Movement) → m.width ≤ 127 → m.count ≤ 128 → movement_check row m ≡ first_below 16 (position_check row m)
positions_left row m narrow few =
    ap (λ x. x ⨟ first_below 16 (position_check row m)) (passed_if _ out_of_bounds (or_from (ltb 127 m.width) (ltb 128 m.count) (le-ltb 127 m.width narrow) (le-ltb 128 m.count few)))

-- the row was checked by a reader of its bytes
module _ (row : List ℕ) (m : Movement) (here : Item) (bs : List ℕ) (at : ℕ) (item : here ≡ the_row) (same : bs ≡ row) (front : at ≡ 0) (short : length row ≤ 32) where
  by_reader : row_check_at here bs at ≡ row_check_at the_row row 0
  by_reader = ap (λ i. row_check_at i bs at) item ∙ ap (λ b. row_check_at the_row b at) same ∙ ap (row_check_at the_row row) front

  by_row : series_check row m ≡ (row_check_at here bs at ⨟ movement_check row m)
  by_row = ap (λ x. x ⨟ movement_check row m) (row_checked row short ∙ sym by_reader)

  pub row_refused : {T : Type 0} (x : T) (t : Told) → ◌≡◌ {A = Result (Unit {0}) Told} (Err t) (passes tt (row_check_at here bs at)) → ◌≡◌ {A = Result T Told} (Err t) (passes x (series_check row m))
  row_refused x t e = sym (ap (passes x) (by_row ∙ ap (λ c. c ⨟ movement_check row m) (refused_by tt (row_check_at here bs at) t e)))

  pub row_passed : ◌≡◌ {A = Result (Unit {0}) Told} (Ok tt) (passes tt (row_check_at here bs at)) → series_check row m ≡ movement_check row m
  row_passed e = by_row ∙ ap (λ c. c ⨟ movement_check row m) (passed tt tt (row_check_at here bs at) e).0
