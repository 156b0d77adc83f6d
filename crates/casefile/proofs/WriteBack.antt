-- A file that passes is what is written of the steps that are read from it, and these are well-formed. Assumes nothing.
use Rattle.std.proofs.Common.{◌≡◌, ℕ, zero, suc, ◌+◌, ◌*◌, ◌^◌, ◌<◌, ◌≤◌, List, ◌∷◌, ◌++◌, length, get_or, drop, None, sym, refl, ap, ◌∙◌, subst, ap₂, arith}
use Rattle.std.specs.List.{flat_map, AllByRecursion}
use Rattle.std.proofs.lemmas.List.{append_assoc, length-take, length-drop, drop_more, drop_all}
use Rattle.std.proofs.lemmas.List.FromFn.{length-map-range_with_len}
use Rattle.std.proofs.ByRecursion.{All-map, All-from_get_or}
use Rattle.std.proofs.lemmas.Bool.{ltb-false}
use Rattle.refusals.specs.declared.Item.{Item}
use Rattle.refusals.proofs.Passed.{before_passed, after_passed, test_failed}
use Rattle.reading.specs.Reads.{pair, byte_pair, part}
use Rattle.reading.proofs.Pairs.{part_bytes, left_part, left_pair}
use Rattle.refusals.specs.Checks.{where_passes}
use Rattle.casefile.specs.Cases.{list_at, after_list, list_check, said_at, proposed_at, after_step, step_check, case_step, count_check, steps_from, end_from, case_steps, case_end}
use Rattle.casefile.specs.Written.{written_list, written_step, FitList, FitStep, FileOf}
use Rattle.casefile.proofs.Marks.{bytes_back}

-- the n steps that stand at i, where nothing comes after them
record StepsAt (bs : List ℕ) (n i : ℕ) (steps : List (List ℕ × List ℕ)) : Type 0 where
  count : length steps ≡ n
  fit : AllByRecursion FitStep steps
  left : drop i bs ≡ flat_map written_step steps

module _ (bs : List ℕ) (small : (i : ℕ) → get_or bs i 0 < 256) where
  -- a list that passes
  module _ (here : Item) (i : ℕ) (passed : list_check here bs i ≡ None) where
    few : pair bs i ≤ 1024
    few = ltb-false 1024 (pair bs i) (test_failed _ _ (after_passed _ _ (before_passed _ _ passed)))

    whole : i + 2 + 2 * pair bs i ≤ length bs
    whole = ltb-false (length bs) (i + 2 + 2 * pair bs i) (test_failed _ _ (after_passed _ _ passed))

    size : length (part bs (i + 2) (2 * pair bs i)) ≡ 2 * pair bs i
    size = length-take (2 * pair bs i) (drop (i + 2) bs) ∙ omega (arith, length-drop (i + 2) bs, whole)

    marks : length (list_at bs i) ≡ pair bs i
    marks = length-map-range_with_len (λ j. pair (part bs (i + 2) (2 * pair bs i)) (2 * j)) 0 _ ∙ omega (arith, size)

    list_written : drop i bs ≡ written_list (list_at bs i) ++ drop (after_list bs i) bs
    list_written =
        left_pair bs i small (omega (arith, whole))
        ∙ ap₂ (λ n xs. byte_pair n ++ xs) (sym marks)
        (left_part bs (i + 2) (2 * pair bs i)
        ∙ ap (λ xs. xs ++ drop (after_list bs i) bs) (sym (bytes_back (part bs (i + 2) (2 * pair bs i)) (part_bytes bs (i + 2) (2 * pair bs i) small) (pair bs i) size)))

    list_fit : FitList (list_at bs i)
    list_fit = record {
      few = omega (arith, marks, few);
      small =
          All-map (λ m. m < 2 ^ 16) (λ j. pair (part bs (i + 2) (2 * pair bs i)) (2 * j)) _
          (All-from_get_or (λ j. pair (part bs (i + 2) (2 * pair bs i)) (2 * j) < 2 ^ 16) _ 0 (λ k h. mark_small _));
    }
      where
        mark_small : (j : ℕ) → pair (part bs (i + 2) (2 * pair bs i)) (2 * j) < 2 ^ 16
        mark_small j = omega (arith, part_bytes bs (i + 2) (2 * pair bs i) small (2 * j), part_bytes bs (i + 2) (2 * pair bs i) small (2 * j + 1))

  -- a step that passes
  module _ (here : Item) (i : ℕ) (passed : step_check here bs i ≡ None) where
    step_written : drop i bs ≡ written_step (said_at bs i, proposed_at bs i) ++ drop (after_step bs i) bs
    step_written =
        list_written here i (before_passed _ _ passed)
        ∙ ap (λ xs. written_list (said_at bs i) ++ xs) (list_written here (after_list bs i) (after_passed _ _ passed))
        ∙ sym (append_assoc (written_list (said_at bs i)) (written_list (proposed_at bs i)) (drop (after_step bs i) bs))

    step_fit : FitStep (said_at bs i, proposed_at bs i)
    step_fit = (list_fit here i (before_passed _ _ passed), list_fit here (after_list bs i) (after_passed _ _ passed))

  -- the steps, where all of them pass and nothing is left over
  steps_read : (n k i : ℕ) → end_from bs n k i ≡ None → StepsAt bs n i (steps_from bs n k i)
  unfolding end_from steps_from
  steps_read zero k i passed = record { count = refl; fit = tt; left = drop_all i bs (ltb-false i (length bs) (test_failed _ _ passed)) }
  steps_read (suc n) k i passed =
      let first : step_check (case_step k) bs i ≡ None = before_passed _ _ passed in
      let rest = steps_read n (k + 1) (after_step bs i) (after_passed (step_check (case_step k) bs i) _ passed) in
      subst (λ c. StepsAt bs (suc n) i (where_passes c ((said_at bs i, proposed_at bs i) ∷ steps_from bs n (k + 1) (after_step bs i)))) (sym first)
      record {
        count = ap suc rest.count;
        fit = (step_fit (case_step k) i first, rest.fit);
        left = step_written (case_step k) i first ∙ ap (λ xs. written_step (said_at bs i, proposed_at bs i) ++ xs) rest.left;
      }

  -- the whole file
  module _ (passed : case_end bs ≡ None) where
    number_passed : count_check bs 0 ≡ None
    number_passed = before_passed _ _ passed

    one_there : 1 ≤ length bs
    one_there = ltb-false (length bs) (0 + 1) (test_failed _ _ (before_passed _ _ number_passed))

    number_few : get_or bs 0 0 ≤ 64
    number_few = ltb-false 64 (get_or bs 0 0) (test_failed _ _ (after_passed _ _ number_passed))

    read : StepsAt bs (get_or bs 0 0) 1 (case_steps bs)
    read =
        subst (λ c. StepsAt bs (get_or bs 0 0) 1 (where_passes c (steps_from bs (get_or bs 0 0) 0 1))) (sym number_passed)
        (steps_read (get_or bs 0 0) 0 1 (after_passed (count_check bs 0) _ passed))

    pub file_read : FileOf (case_steps bs) bs
    file_read = record {
      well_formed = record { few_steps = omega (arith, read.count, number_few); fit = read.fit };
      is_written = drop_more bs 0 0 one_there ∙ ap₂ ◌∷◌ (sym read.count) read.left;
    }
