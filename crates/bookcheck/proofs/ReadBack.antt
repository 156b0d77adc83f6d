-- What is written of rules and names is read back. Assumes nothing.
use Rattle.std.proofs.Common.{◌≡◌, ℕ, zero, suc, ◌+◌, ◌*◌, ◌<◌, ◌≤◌, List, [], ◌∷◌, ◌++◌, length, get_or, take, drop, sym, refl, ap, ◌∙◌, add-zero, arith}
use Rattle.std.specs.List.{flat_map, AllByRecursion}
use Rattle.std.proofs.lemmas.List.{append_assoc, length-append, length-drop, take_at, drop_at, drop-drop, drop_more, drop_all, get_or-drop}
use Rattle.std.proofs.ByRecursion.{All-get_or}
use Rattle.norms.specs.Programs.{Rule}
use Rattle.norms.specs.Rules.{SoundRule}
use Rattle.reading.specs.Reads.{part}
use Rattle.rows.specs.Rows.{rule_of}
use Rattle.rows.specs.Tables.{row_at, row_in, rule_in}
use Rattle.rows.specs.Written.{written_row}
use Rattle.rows.proofs.Written.{length_row, rule_back}
use Rattle.bookcheck.specs.Layout.{rows_from, rule_count, names_count_at, name_count, names_from, name_at, name_in}
use Rattle.bookcheck.specs.Written.{written_name, written}
use Rattle.bookcheck.proofs.Walk.{name_at_none, name_at_more}

-- any rule, for the places past the end of a list
pub blank : Rule ℕ
blank = record { head = 0; required = []; barred = [] }

-- the rows after the first n
rows_left : (rules : List (Rule ℕ)) (tail : List ℕ) → AllByRecursion SoundRule rules → (n : ℕ) → n ≤ length rules → drop (32 * n) (flat_map written_row rules ++ tail) ≡ flat_map written_row (drop n rules) ++ tail
rows_left rules tail sound zero h = refl
rows_left [] tail sound (suc n) h = absurd (omega arith)
rows_left (r ∷ rules) tail sound (suc n) h =
    let e : 32 * suc n ≡ 32 + 32 * n = omega arith in
    ap (λ k. drop k ((written_row r ++ flat_map written_row rules) ++ tail)) e
    ∙ sym (drop-drop (32 * n) 32 ((written_row r ++ flat_map written_row rules) ++ tail))
    ∙ ap (λ xs. drop (32 * n) (drop 32 xs)) (append_assoc (written_row r) (flat_map written_row rules) tail)
    ∙ ap (drop (32 * n)) (drop_at (written_row r) (flat_map written_row rules ++ tail) 32 (length_row r sound.0.few))
    ∙ rows_left rules tail sound.1 n (omega arith)

-- the names after the first n: the first one's length byte is at `from`, and nothing follows the last one
module _ (bs : List ℕ) (from : ℕ) (names : List (List ℕ)) (start : drop from bs ≡ flat_map written_name names) where
  -- what stands at name n, where the names from it on are left
  module _ (n : ℕ) (h : n < length names) (left : drop (name_at bs from n) bs ≡ flat_map written_name (drop n names)) where
    this : List ℕ
    this = get_or names n []

    later : List ℕ
    later = flat_map written_name (drop (n + 1) names)

    here : drop (name_at bs from n) bs ≡ written_name this ++ later
    unfolding this later
    here = left ∙ ap (flat_map written_name) (drop_more names n [] h)

    length_here : get_or bs (name_at bs from n) 0 ≡ length this
    unfolding this later
    length_here = ap (λ i. get_or bs i 0) (sym (add-zero (name_at bs from n))) ∙ sym (get_or-drop (name_at bs from n) bs 0 0) ∙ ap (λ xs. get_or xs 0 0) here

    bytes_here : drop (name_at bs from n + 1) bs ≡ this ++ later
    unfolding this later
    bytes_here = sym (drop-drop 1 (name_at bs from n) bs) ∙ ap (drop 1) here

    name_here : name_in bs from n ≡ this
    unfolding this later
    name_here = ap (part bs (name_at bs from n + 1)) length_here ∙ ap (take (length this)) bytes_here ∙ take_at this later (length this) refl

    within_here : name_at bs from n + 1 + length this ≤ length bs
    unfolding this later
    within_here =
        let e = length-drop (name_at bs from n) bs in
        let f = ap length here in
        let g = length-append this later in
        omega arith

    next_here : drop (name_at bs from (n + 1)) bs ≡ later
    unfolding this later
    next_here =
        ap (λ i. drop i bs) (name_at_more bs from n ∙ ap (λ l. name_at bs from n + 1 + l) length_here)
        ∙ sym (drop-drop (length this) (name_at bs from n + 1) bs)
        ∙ ap (drop (length this)) bytes_here
        ∙ drop_at this later (length this) refl

  names_left : (n : ℕ) → n ≤ length names → drop (name_at bs from n) bs ≡ flat_map written_name (drop n names)
  unfolding later
  names_left zero h = ap (λ i. drop i bs) (name_at_none bs from) ∙ start
  names_left (suc n) h =
      let e : suc n ≡ n + 1 = omega arith in
      ap (λ k. drop (name_at bs from k) bs) e
      ∙ next_here n (omega arith) (names_left n (omega arith))
      ∙ ap (λ k. flat_map written_name (drop k names)) (sym e)

  module _ (n : ℕ) (h : n < length names) where
    left_here : drop (name_at bs from n) bs ≡ flat_map written_name (drop n names)
    left_here = names_left n (omega arith)

    pub name_length : get_or bs (name_at bs from n) 0 ≡ length (get_or names n [])
    unfolding this
    name_length = length_here n h left_here

    pub name_back : name_in bs from n ≡ get_or names n []
    unfolding this
    name_back = name_here n h left_here

    pub name_whole : name_at bs from n + 1 + length (get_or names n []) ≤ length bs
    unfolding this
    name_whole = within_here n h left_here

  pub names_end : length bs ≤ name_at bs from (length names)
  names_end =
      let e = length-drop (name_at bs from (length names)) bs in
      let f = ap length (names_left (length names) (omega arith) ∙ ap (flat_map written_name) (drop_all (length names) names (omega arith))) in
      omega arith

-- the file of rules and names
module _ (rules : List (Rule ℕ)) (names : List (List ℕ)) (sound : AllByRecursion SoundRule rules) where
  pub rules_back : rule_count (written rules names) ≡ length rules
  rules_back = omega arith

  after_rows : (n : ℕ) → n ≤ length rules → drop (row_at rows_from n) (written rules names) ≡ flat_map written_row (drop n rules) ++ (length names ∷ flat_map written_name names)
  after_rows n h =
      sym (drop-drop (32 * n) 2 (written rules names))
      ∙ rows_left rules (length names ∷ flat_map written_name names) sound n h

  module _ (n : ℕ) (h : n < length rules) where
    pub sound_here : SoundRule (get_or rules n blank)
    sound_here = All-get_or SoundRule rules n blank h sound

    row_here : drop (row_at rows_from n) (written rules names) ≡ written_row (get_or rules n blank) ++ (flat_map written_row (drop (n + 1) rules) ++ (length names ∷ flat_map written_name names))
    row_here =
        after_rows n (omega arith)
        ∙ ap (λ rs. flat_map written_row rs ++ (length names ∷ flat_map written_name names)) (drop_more rules n blank h)
        ∙ append_assoc (written_row (get_or rules n blank)) (flat_map written_row (drop (n + 1) rules)) (length names ∷ flat_map written_name names)

    pub row_back_at : row_in (written rules names) rows_from n ≡ written_row (get_or rules n blank)
    row_back_at = ap (take 32) row_here ∙ take_at (written_row (get_or rules n blank)) _ 32 (length_row (get_or rules n blank) sound_here.few)

    pub row_there : row_at rows_from n + 32 ≤ length (written rules names)
    row_there =
        let e = length-drop (row_at rows_from n) (written rules names) in
        let f = ap length row_here in
        let g = length-append (written_row (get_or rules n blank)) (flat_map written_row (drop (n + 1) rules) ++ (length names ∷ flat_map written_name names)) in
        let k = length_row (get_or rules n blank) sound_here.few in
        omega arith

    pub rule_back_at : rule_in (written rules names) rows_from n ≡ get_or rules n blank
    rule_back_at = ap rule_of row_back_at ∙ rule_back (get_or rules n blank)

  count_place : names_count_at (written rules names) ≡ row_at rows_from (length rules)
  count_place = ap (row_at rows_from) rules_back

  at_count : drop (names_count_at (written rules names)) (written rules names) ≡ length names ∷ flat_map written_name names
  at_count =
      ap (λ k. drop k (written rules names)) count_place
      ∙ after_rows (length rules) (omega arith)
      ∙ ap (λ rs. flat_map written_row rs ++ (length names ∷ flat_map written_name names)) (drop_all (length rules) rules (omega arith))

  pub count_there : names_count_at (written rules names) + 1 ≤ length (written rules names)
  count_there =
      let e = length-drop (names_count_at (written rules names)) (written rules names) in
      let f = ap length at_count in
      omega arith

  pub names_back : name_count (written rules names) ≡ length names
  names_back =
      ap (λ i. get_or (written rules names) i 0) (sym (add-zero (names_count_at (written rules names))))
      ∙ sym (get_or-drop (names_count_at (written rules names)) (written rules names) 0 0)
      ∙ ap (λ xs. get_or xs 0 0) at_count

  pub names_start : drop (names_from (written rules names)) (written rules names) ≡ flat_map written_name names
  names_start = sym (drop-drop 1 (names_count_at (written rules names)) (written rules names)) ∙ ap (drop 1) at_count
