-- What the refusal of a report line tells. Assumes nothing.
use Rattle.refusals.specs.declared.Told.{Told}
use Rattle.lines.specs.Faults.{short_told}
use Rattle.review.specs.Faults.{list_told}
use Rattle.report.specs.declared.fault.LineFault.{LineFault}
use Rattle.report.specs.declared.fault.LineFault.TheVariants.{List, Short}

abbrev pub line_told : LineFault → Told
line_told (List fault) = list_told fault
line_told (Short fault) = short_told fault
