-- What is written of well-formed steps passes, and is read back. Assumes nothing.
use Rattle.std.proofs.Common.{◌≡◌, ℕ, ◌+◌, ◌*◌, ◌/◌, ◌%◌, List, [], ◌∷◌, ◌++◌, length, get_or, take, drop, None, sym, refl, ap, ◌∙◌, ap₂, add-zero, arith}
use Rattle.std.specs.List.{flat_map, AllByRecursion}
use Rattle.std.proofs.lemmas.List.{append_assoc, length-append, length-drop, take_at, drop_at, drop-drop, get_or-drop}
use Rattle.std.proofs.lemmas.Bool.{le-ltb}
use Rattle.refusals.specs.declared.Item.{Item}
use Rattle.refusals.proofs.Passed.{both_passed}
use Rattle.refusals.proofs.Refused.{passed_if}
use Rattle.reading.specs.Reads.{pair, byte_pair}
use Rattle.reading.proofs.Pairs.{length_pairs}
use Rattle.refusals.specs.Checks.{where_passes}
use Rattle.casefile.specs.Cases.{marks_in, list_at, after_list, list_check, said_at, proposed_at, after_step, step_check, case_step, count_check, steps_from, end_from, case_steps, case_end}
use Rattle.casefile.specs.Written.{written_list, written_step, written_case, FitList, FitStep, WellFormed}
use Rattle.casefile.proofs.Marks.{marks_back}

-- the list ms stands at i, and the rest comes after it
module _ (bs : List ℕ) (i : ℕ) (ms rest : List ℕ) (left : drop i bs ≡ written_list ms ++ rest) where
  count_back : pair bs i ≡ length ms
  count_back =
      let high : get_or bs i 0 ≡ length ms / 256 = ap (λ k. get_or bs k 0) (sym (add-zero i)) ∙ sym (get_or-drop i bs 0 0) ∙ ap (λ xs. get_or xs 0 0) left in
      let low : get_or bs (i + 1) 0 ≡ length ms % 256 = sym (get_or-drop i bs 1 0) ∙ ap (λ xs. get_or xs 1 0) left in
      omega arith

  marks_left : drop (i + 2) bs ≡ flat_map byte_pair ms ++ rest
  marks_left = sym (drop-drop 2 i bs) ∙ ap (drop 2) left

  pub list_back : list_at bs i ≡ ms
  list_back =
      ap (λ n. marks_in (take (2 * n) (drop (i + 2) bs))) count_back
      ∙ ap (λ xs. marks_in (take (2 * length ms) xs)) marks_left
      ∙ ap marks_in (take_at (flat_map byte_pair ms) rest (2 * length ms) (length_pairs ms))
      ∙ marks_back ms

  pub rest_left : drop (after_list bs i) bs ≡ rest
  rest_left =
      ap (λ n. drop (i + 2 + 2 * n) bs) count_back
      ∙ sym (drop-drop (2 * length ms) (i + 2) bs)
      ∙ ap (drop (2 * length ms)) marks_left
      ∙ drop_at (flat_map byte_pair ms) rest (2 * length ms) (length_pairs ms)

  pub list_accepted : (here : Item) → FitList ms → list_check here bs i ≡ None
  list_accepted here fit =
      let all = length-drop i bs in
      let same = ap length left in
      let parts = length-append (flat_map byte_pair ms) rest in
      let pairs = length_pairs ms in
      let count = count_back in
      let few = fit.few in
      both_passed _ _
      (both_passed _ _
      (passed_if _ _ (le-ltb (length bs) (i + 2) (omega arith)))
      (passed_if _ _ (le-ltb 1024 (pair bs i) (omega arith))))
      (passed_if _ _ (le-ltb (length bs) (i + 2 + 2 * pair bs i) (omega arith)))

-- the step s stands at i, and the rest comes after it
module _ (bs : List ℕ) (i : ℕ) (s : List ℕ × List ℕ) (rest : List ℕ) (left : drop i bs ≡ written_step s ++ rest) where
  said_left : drop i bs ≡ written_list s.0 ++ (written_list s.1 ++ rest)
  said_left = left ∙ append_assoc (written_list s.0) (written_list s.1) rest

  proposed_left : drop (after_list bs i) bs ≡ written_list s.1 ++ rest
  proposed_left = rest_left bs i s.0 (written_list s.1 ++ rest) said_left

  step_back : ◌≡◌ {A = List ℕ × List ℕ} (said_at bs i, proposed_at bs i) s
  step_back = ap₂ (λ xs ys. (xs, ys)) (list_back bs i s.0 (written_list s.1 ++ rest) said_left) (list_back bs (after_list bs i) s.1 rest proposed_left)

  after_left : drop (after_step bs i) bs ≡ rest
  after_left = rest_left bs (after_list bs i) s.1 rest proposed_left

  step_accepted : (k : ℕ) → FitStep s → step_check (case_step k) bs i ≡ None
  step_accepted k fit =
      both_passed _ _
      (list_accepted bs i s.0 (written_list s.1 ++ rest) said_left (case_step k) fit.0)
      (list_accepted bs (after_list bs i) s.1 rest proposed_left (case_step k) fit.1)

-- the steps stand at i, and nothing comes after them
module _ (bs : List ℕ) where
  steps_accepted : (steps : List (List ℕ × List ℕ)) → AllByRecursion FitStep steps → (k i : ℕ) → drop i bs ≡ flat_map written_step steps → end_from bs (length steps) k i ≡ None
  unfolding end_from
  steps_accepted [] fit k i left = passed_if _ _ (le-ltb i (length bs) (let all = length-drop i bs in let none = ap length left in omega arith))
  steps_accepted (s ∷ steps) fit k i left =
      both_passed _ _
      (step_accepted bs i s (flat_map written_step steps) left k fit.0)
      (steps_accepted steps fit.1 (k + 1) (after_step bs i) (after_left bs i s (flat_map written_step steps) left))

  steps_back : (steps : List (List ℕ × List ℕ)) → AllByRecursion FitStep steps → (k i : ℕ) → drop i bs ≡ flat_map written_step steps → steps_from bs (length steps) k i ≡ steps
  unfolding steps_from
  steps_back [] fit k i left = refl
  steps_back (s ∷ steps) fit k i left =
      ap (λ c. where_passes c ((said_at bs i, proposed_at bs i) ∷ steps_from bs (length steps) (k + 1) (after_step bs i))) (step_accepted bs i s (flat_map written_step steps) left k fit.0)
      ∙ ap₂ ◌∷◌ (step_back bs i s (flat_map written_step steps) left) (steps_back steps fit.1 (k + 1) (after_step bs i) (after_left bs i s (flat_map written_step steps) left))

-- the file of the steps
module _ (steps : List (List ℕ × List ℕ)) (good : WellFormed steps) where
  number_accepted : count_check (written_case steps) 0 ≡ None
  number_accepted =
      both_passed _ _
      (passed_if _ _ (le-ltb (length (written_case steps)) (0 + 1) (omega arith)))
      (passed_if _ _ (le-ltb 64 (length steps) good.few_steps))

  pub accepted : case_end (written_case steps) ≡ None
  accepted = both_passed _ _ number_accepted (steps_accepted (written_case steps) steps good.fit 0 1 refl)

  pub steps_meant : case_steps (written_case steps) ≡ steps
  steps_meant =
      ap (λ c. where_passes c (steps_from (written_case steps) (length steps) 0 1)) number_accepted
      ∙ steps_back (written_case steps) steps good.fit 0 1 refl
