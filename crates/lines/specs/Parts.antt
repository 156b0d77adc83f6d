-- The parts of a finding's line. Assumes nothing.
--     is_breach w    whether the word says a breach
--     name_text n    the bytes that stand for the name
use Rattle.std.specs.Prelude.{ℕ, Bool, true, false, List}
use Rattle.lines.specs.Text.{unnamed}
use Rattle.lines.specs.declared.report.Word.{Word}
use Rattle.lines.specs.declared.report.Word.TheVariants.{Breach, Violated}
use Rattle.lines.specs.declared.report.Name.{Name}
use Rattle.lines.specs.declared.report.Name.TheVariants.{Given, Unnamed}

abbrev pub is_breach : Word → Bool
is_breach Breach = true
is_breach Violated = false

abbrev pub name_text : Name → List ℕ
name_text (Given name) = name.now
name_text (Unnamed i) = unnamed i
