-- The steps that a table of records stands for. Assumes nothing.
--     step_with said marks   a step, by the two sets of marks
--     step_of r              the step that the record r holds
--     records_of t           the records of the steps that stand
--     standing t             the steps that stand, in their order
use Rattle.std.specs.Prelude.{List, map, take}
use Rattle.marks.specs.Words.{members}
use Rattle.marks.specs.declared.mark_set.MarkSet.{MarkSet}
use Rattle.norms.specs.Steps.{Step}
use Rattle.steps.specs.declared.record.Record.{Record}
use Rattle.steps.specs.declared.table.Table.{Table}

abbrev pub step_with : MarkSet → MarkSet → Step
step_with said marks = record { said = members said; marks = members marks }

abbrev pub step_of : Record → Step
step_of r = step_with r.said r.marks

abbrev pub records_of : Table → List Record
records_of t = take t.count t.places.records.items

abbrev pub standing : Table → List Step
standing t = map step_of (records_of t)
