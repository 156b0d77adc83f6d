-- What a refusal tells: its number and its spot, and of a file the item too. Assumes nothing.
--     section_number s          the number of a section
--     refusal n spot            what a call tells that reads no file: no item
--     refusal_in here n spot    what the reader of a file tells
--     answered told r           what a call answers, with what its fault tells in the place of the fault
use Rattle.std.specs.Prelude.{ℕ, Some, None, Result}
use Rattle.std.specs.Result.{result_map_both}
use Rattle.refusals.specs.declared.Told.{Told}
use Rattle.refusals.specs.declared.Section.{Section}
use Rattle.refusals.specs.declared.Section.TheVariants.{Rules, Names, End, Case, Series}
use Rattle.refusals.specs.declared.Item.{Item}

abbrev pub section_number : Section → ℕ
section_number Rules = 1
section_number Names = 2
section_number End = 3
section_number Case = 4
section_number Series = 5

abbrev pub refusal : ℕ → ℕ → Told
refusal n s = record { number = n; item = None; spot = s }

abbrev pub refusal_in : Item → ℕ → ℕ → Told
refusal_in here n s = record { number = n; item = Some here; spot = s }

abbrev pub answered : {T E : Type 0} → (E → Told) → Result T E → Result T Told
answered told r = result_map_both (λ x. x) told r
