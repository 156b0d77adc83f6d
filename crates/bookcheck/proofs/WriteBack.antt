-- A file that passes the check is what is written of the rules and names that it means. Assumes nothing.
use Rattle.std.proofs.Common.{◌≡◌, ℕ, zero, suc, ◌+◌, ◌<◌, ◌≤◌, List, [], ◌∷◌, ◌++◌, length, get_or, drop, None, sym, ap, ◌∙◌, arith}
use Rattle.std.specs.List.{flat_map}
use Rattle.std.proofs.lemmas.List.{append_assoc, append-nil, length-take, length-drop, drop_more, drop_all, flat_map_more}
use Rattle.std.proofs.lemmas.List.FromFn.{length-map-range_with_len, map-range_with_len_more}
use Rattle.std.proofs.lemmas.Bool.{ltb-false}
use Rattle.refusals.specs.declared.Section.TheVariants.{Rules}
use Rattle.refusals.specs.Checks.{first_below}
use Rattle.reading.specs.Reads.{byte_pair}
use Rattle.reading.proofs.Pairs.{part_bytes, left_part, left_pair}
use Rattle.rows.specs.Tables.{row_at, row_in, rule_in, rules_in, in_section, rows_check}
use Rattle.rows.specs.Written.{written_row}
use Rattle.refusals.proofs.Passed.{before_passed, after_passed, test_failed}
use Rattle.rows.proofs.Sound.{row_passed, row_whole}
use Rattle.rows.proofs.Written.{row_back}
use Rattle.bookcheck.specs.Layout.{rows_from, rule_count, file_rules, names_count_at, name_count, names_from, name_at, name_in, names_in, file_names}
use Rattle.bookcheck.specs.Checks.{name_check, book_check}
use Rattle.bookcheck.specs.Written.{written_name, written}
use Rattle.bookcheck.proofs.Walk.{name_at_none, name_at_more}
use Rattle.bookcheck.proofs.Passed.{rules_passed, names_passed, rows_passed, each_name_passed, name_within}

module _ (bs : List ℕ) (small : (i : ℕ) → get_or bs i 0 < 256) where
  -- the rows that pass
  module _ (count : ℕ) (passed : rows_check Rules bs rows_from count ≡ None) where
    row_written : (n : ℕ) → n < count → row_in bs rows_from n ≡ written_row (rule_in bs rows_from n)
    row_written n h =
        let size : length (row_in bs rows_from n) ≡ 32 = length-take 32 (drop (row_at rows_from n) bs) ∙ omega (arith, length-drop (row_at rows_from n) bs, row_whole Rules bs rows_from count passed n h) in
        sym (row_back (in_section Rules n) (row_at rows_from n) (row_in bs rows_from n) size (part_bytes bs (row_at rows_from n) 32 small) (row_passed Rules bs rows_from count passed n h))

    rows_written : (front : List ℕ) → bs ≡ front ++ drop rows_from bs → (n : ℕ) → n ≤ count → bs ≡ (front ++ flat_map written_row (rules_in bs rows_from n)) ++ drop (row_at rows_from n) bs
    rows_written front start zero h = start ∙ ap (λ xs. xs ++ drop rows_from bs) (sym (append-nil front))
    rows_written front start (suc n) h =
        let e : suc n ≡ n + 1 = omega arith in
        let f : row_at rows_from n + 32 ≡ row_at rows_from (suc n) = omega arith in
        rows_written front start n (omega arith)
        ∙ ap (λ xs. (front ++ flat_map written_row (rules_in bs rows_from n)) ++ xs) (left_part bs (row_at rows_from n) 32)
        ∙ sym (append_assoc (front ++ flat_map written_row (rules_in bs rows_from n)) (row_in bs rows_from n) (drop (row_at rows_from n + 32) bs))
        ∙ ap (λ xs. ((front ++ flat_map written_row (rules_in bs rows_from n)) ++ xs) ++ drop (row_at rows_from n + 32) bs) (row_written n (omega arith))
        ∙ ap (λ xs. xs ++ drop (row_at rows_from n + 32) bs) (flat_map_more written_row front (rules_in bs rows_from n) (rule_in bs rows_from n))
        ∙ ap (λ rs. (front ++ flat_map written_row rs) ++ drop (row_at rows_from n + 32) bs) (sym (map-range_with_len_more (rule_in bs rows_from) 0 n n (omega arith)))
        ∙ ap (λ k. (front ++ flat_map written_row (rules_in bs rows_from k)) ++ drop (row_at rows_from n + 32) bs) (sym e)
        ∙ ap (λ k. (front ++ flat_map written_row (rules_in bs rows_from (suc n))) ++ drop k bs) f

  -- the names that pass
  module _ (from count : ℕ) (passed : first_below count (name_check bs from) ≡ None) where
    name_written : (n : ℕ) → n < count → drop (name_at bs from n) bs ≡ written_name (name_in bs from n) ++ drop (name_at bs from (n + 1)) bs
    name_written n h =
        let within = name_within bs from count passed n h in
        let size : get_or bs (name_at bs from n) 0 ≡ length (name_in bs from n) = sym (length-take (get_or bs (name_at bs from n) 0) (drop (name_at bs from n + 1) bs) ∙ omega (arith, length-drop (name_at bs from n + 1) bs)) in
        drop_more bs (name_at bs from n) 0 (omega arith)
        ∙ ap (λ x. x ∷ drop (name_at bs from n + 1) bs) size
        ∙ ap (λ xs. length (name_in bs from n) ∷ xs) (left_part bs (name_at bs from n + 1) (get_or bs (name_at bs from n) 0))
        ∙ ap (λ k. written_name (name_in bs from n) ++ drop k bs) (sym (name_at_more bs from n))

    names_written : (n : ℕ) → n ≤ count → drop from bs ≡ flat_map written_name (names_in bs from n) ++ drop (name_at bs from n) bs
    names_written zero h = ap (λ k. drop k bs) (sym (name_at_none bs from))
    names_written (suc n) h =
        let e : suc n ≡ n + 1 = omega arith in
        names_written n (omega arith)
        ∙ ap (λ xs. flat_map written_name (names_in bs from n) ++ xs) (name_written n (omega arith))
        ∙ sym (append_assoc (flat_map written_name (names_in bs from n)) (written_name (name_in bs from n)) (drop (name_at bs from (n + 1)) bs))
        ∙ ap (λ xs. xs ++ drop (name_at bs from (n + 1)) bs) (flat_map_more written_name [] (names_in bs from n) (name_in bs from n))
        ∙ ap (λ ns. flat_map written_name ns ++ drop (name_at bs from (n + 1)) bs) (sym (map-range_with_len_more (name_in bs from) 0 n n (omega arith)))
        ∙ ap (λ k. flat_map written_name (names_in bs from k) ++ drop (name_at bs from k) bs) (sym e)

  -- the whole file
  module _ (passed : book_check bs ≡ None) where
    ended : length bs ≤ name_at bs (names_from bs) (name_count bs)
    unfolding book_check
    ended = ltb-false _ _ (test_failed _ _ (after_passed _ _ (before_passed _ _ passed)))

    two_there : 2 ≤ length bs
    two_there = ltb-false (length bs) (0 + 2) (test_failed _ _ (before_passed _ _ (before_passed _ _ (rules_passed bs passed))))

    count_there : names_count_at bs + 1 ≤ length bs
    count_there = ltb-false (length bs) (names_count_at bs + 1) (test_failed _ _ (before_passed _ _ (before_passed _ _ (names_passed bs passed))))

    pub file_written : bs ≡ written (file_rules bs) (file_names bs)
    file_written =
        rows_written (rule_count bs) (rows_passed bs passed) (byte_pair (rule_count bs)) (left_pair bs 0 small two_there) (rule_count bs) (omega arith)
        ∙ ap (λ xs. (byte_pair (rule_count bs) ++ flat_map written_row (file_rules bs)) ++ xs) tail
        ∙ ap (λ n. (byte_pair n ++ flat_map written_row (file_rules bs)) ++ (length (file_names bs) ∷ flat_map written_name (file_names bs))) (sym (length-map-range_with_len (rule_in bs rows_from) 0 (rule_count bs)))
        ∙ append_assoc (byte_pair (length (file_rules bs))) (flat_map written_row (file_rules bs)) (length (file_names bs) ∷ flat_map written_name (file_names bs))
      where
        names_tail : drop (names_from bs) bs ≡ flat_map written_name (file_names bs)
        names_tail =
            names_written (names_from bs) (name_count bs) (each_name_passed bs passed) (name_count bs) (omega arith)
            ∙ ap (λ xs. flat_map written_name (file_names bs) ++ xs) (drop_all (name_at bs (names_from bs) (name_count bs)) bs ended)
            ∙ append-nil (flat_map written_name (file_names bs))

        tail : drop (names_count_at bs) bs ≡ length (file_names bs) ∷ flat_map written_name (file_names bs)
        tail =
            drop_more bs (names_count_at bs) 0 (omega (arith, count_there))
            ∙ ap (λ n. n ∷ drop (names_from bs) bs) (sym (length-map-range_with_len (name_in bs (names_from bs)) 0 (name_count bs)))
            ∙ ap (λ xs. length (file_names bs) ∷ xs) names_tail
