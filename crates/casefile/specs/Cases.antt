-- A case file: the number of its steps in one byte, at most 64, and each step as two lists of marks.
-- A list is its count in two bytes, at most 1,024, and that many marks of two bytes. Assumes nothing.
--     marks_in bs             the marks of the bytes bs, two bytes to a mark
--     list_at bs i            the marks of the list whose count stands at i
--     after_list bs i         where that list ends
--     list_check here bs i    refuses a list that is too long or not all there
--     said_at bs i            the first list of the step at i
--     proposed_at bs i        its second list
--     after_step bs i         where that step ends
--     step_check here bs i    refuses a step of which a list is refused
--     case_step k             step k of the case, as an item
--     count_check bs i        refuses the number of steps, which stands at i
--     steps_from bs n k i     the lists of the n steps at i, the first of them step k, up to the first that is refused
--     end_from bs n k i       how a file ends that has n more steps at i: what is told of the first step that is
--                             refused, or else of bytes that are left over, or nothing
--     case_steps bs           the lists of the steps of a case file, up to the first that is refused
--     case_end bs             how a case file ends
use Rattle.std.specs.Prelude.{ℕ, zero, suc, ◌+◌, ◌*◌, ◌/◌, List, [], ◌∷◌, map, length, Option, slice_index}
use Rattle.std.specs.List.{range_with_len}
use Rattle.refusals.specs.declared.Told.{Told}
use Rattle.refusals.specs.declared.Item.{Item}
use Rattle.refusals.specs.declared.Section.TheVariants.{Case}
use Rattle.refusals.specs.Checks.{◌⨟◌, where_passes}
use Rattle.reading.specs.Reads.{pair, part, there, at_most, ends_at}

abbrev pub marks_in : List ℕ → List ℕ
marks_in bs = map (λ j. pair bs (2 * j)) (range_with_len 0 (length bs / 2))

abbrev pub list_at : List ℕ → ℕ → List ℕ
list_at bs i = marks_in (part bs (i + 2) (2 * pair bs i))

abbrev pub after_list : List ℕ → ℕ → ℕ
after_list bs i = i + 2 + 2 * pair bs i

abbrev pub list_check : Item → List ℕ → ℕ → Option Told
list_check here bs i = there here bs i 2 ⨟ at_most here i 1024 (pair bs i) ⨟ there here bs (i + 2) (2 * pair bs i)

abbrev pub said_at : List ℕ → ℕ → List ℕ
said_at = list_at

abbrev pub proposed_at : List ℕ → ℕ → List ℕ
proposed_at bs i = list_at bs (after_list bs i)

abbrev pub after_step : List ℕ → ℕ → ℕ
after_step bs i = after_list bs (after_list bs i)

abbrev pub step_check : Item → List ℕ → ℕ → Option Told
step_check here bs i = list_check here bs i ⨟ list_check here bs (after_list bs i)

abbrev pub case_step : ℕ → Item
case_step k = record { section = Case; item = k }

abbrev pub count_check : List ℕ → ℕ → Option Told
count_check bs i = there (case_step 0) bs i 1 ⨟ at_most (case_step 0) i 64 (slice_index bs i)

unfoldable pub steps_from : List ℕ → ℕ → ℕ → ℕ → List (List ℕ × List ℕ)
steps_from bs zero k i = []
steps_from bs (suc n) k i =
    where_passes (step_check (case_step k) bs i) ((said_at bs i, proposed_at bs i) ∷ steps_from bs n (k + 1) (after_step bs i))

unfoldable pub end_from : List ℕ → ℕ → ℕ → ℕ → Option Told
end_from bs zero k i = ends_at bs i
end_from bs (suc n) k i = step_check (case_step k) bs i ⨟ end_from bs n (k + 1) (after_step bs i)

abbrev pub case_steps : List ℕ → List (List ℕ × List ℕ)
case_steps bs = where_passes (count_check bs 0) (steps_from bs (slice_index bs 0) 0 1)

abbrev pub case_end : List ℕ → Option Told
case_end bs = count_check bs 0 ⨟ end_from bs (slice_index bs 0) 0 1
