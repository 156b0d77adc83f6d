-- Marks of two bytes. Assumes nothing.
use Rattle.std.proofs.Common.{◌≡◌, ℕ, zero, suc, ◌+◌, ◌*◌, ◌/◌, ◌<◌, ◌≤◌, List, [], ◌++◌, map, length, get_or, take, drop, sym, refl, ap, ◌∙◌, arith}
use Rattle.std.specs.List.{range_with_len, flat_map}
use Rattle.std.proofs.lemmas.List.{append-nil, get_or-take, length-take-le, take_all}
use Rattle.std.proofs.lemmas.List.FromFn.{fill_by_all}
use Rattle.reading.specs.Reads.{pair, byte_pair, part}
use Rattle.reading.proofs.Pairs.{length_pairs, pair_at, left_pair}
use Rattle.casefile.specs.Cases.{marks_in}

-- marks that are kept one by one
pub take_marks : (ms bs : List ℕ) → length bs / 2 ≤ length ms → ((k : ℕ) → k < length bs / 2 → get_or ms k 0 ≡ pair bs (2 * k)) → take (length bs / 2) ms ≡ marks_in bs
take_marks ms bs room each =
    let n = length bs / 2 in
    fill_by_all (λ j. pair bs (2 * j)) (take n ms) n 0 (length-take-le n ms room) (λ k h. get_or-take n ms k 0 h ∙ each k h)

-- marks are read back from their bytes
pub marks_back : (ms : List ℕ) → marks_in (flat_map byte_pair ms) ≡ ms
marks_back ms =
    sym
    (fill_by_all (λ j. pair (flat_map byte_pair ms) (2 * j)) ms (length (flat_map byte_pair ms) / 2) 0 (omega (arith, length_pairs ms))
    (λ k h. sym (ap (λ bs. pair bs (2 * k)) (sym (append-nil (flat_map byte_pair ms))) ∙ pair_at ms [] k (omega (arith, length_pairs ms)))))

-- and so are bytes from the n marks that they make
module _ (bs : List ℕ) (small : (i : ℕ) → get_or bs i 0 < 256) where
  pairs_from : (a n : ℕ) → 2 * a + 2 * n ≤ length bs → flat_map byte_pair (map (λ j. pair bs (2 * j)) (range_with_len a n)) ≡ part bs (2 * a) (2 * n)
  pairs_from a zero h = refl
  pairs_from a (suc n) h =
      let two : 2 * suc n ≡ suc (suc (2 * n)) = omega arith in
      let next : 2 * (a + 1) ≡ 2 * a + 2 = omega arith in
      ap (λ xs. byte_pair (pair bs (2 * a)) ++ xs) (pairs_from (a + 1) n (omega arith) ∙ ap (λ k. part bs k (2 * n)) next)
      ∙ sym (ap (λ k. take k (drop (2 * a) bs)) two ∙ ap (take (suc (suc (2 * n)))) (left_pair bs (2 * a) small (omega arith)))

  pub bytes_back : (n : ℕ) → length bs ≡ 2 * n → flat_map byte_pair (marks_in bs) ≡ bs
  bytes_back n e =
      let half : length bs / 2 ≡ n = omega arith in
      ap (λ k. flat_map byte_pair (map (λ j. pair bs (2 * j)) (range_with_len 0 k))) half
      ∙ pairs_from 0 n (omega arith)
      ∙ take_all (2 * n) bs (omega arith)
