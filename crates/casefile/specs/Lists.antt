-- The marks that are kept of a step. Assumes nothing.
--     marks_of l       the marks of a `MarkList`
--     said_of s        the marks that a step says
--     proposed_of s    the marks that it proposes
use Rattle.std.specs.Prelude.{ℕ, List, take}
use Rattle.casefile.specs.declared.lists.MarkList.{MarkList}
use Rattle.casefile.specs.declared.lists.StepLists.{StepLists}

abbrev pub marks_of : MarkList → List ℕ
marks_of l = take l.count l.marks

abbrev pub said_of : StepLists → List ℕ
said_of s = marks_of s.said

abbrev pub proposed_of : StepLists → List ℕ
proposed_of s = marks_of s.proposed
