use Rattle.std.proofs.Common.{◌≡◌, ◌-◌}
use Rattle.casefile.specs.Cases.{end_from, case_end}
use Rattle.casefile.proofs.case_check.check_case.Given as goal

-- as the steps that are left end, the whole file ends
abbrev pub invariant-loop-step : goal.invariant-loop-step
invariant-loop-step l = (l.reader.bytes.now ≡ l.bytes) × (end_from l.bytes (l.count - l.step) l.step l.reader.at ≡ case_end l.bytes)
