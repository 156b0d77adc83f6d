-- What the faults of a case file tell. Assumes nothing.
use Rattle.refusals.specs.declared.Told.{Told}
use Rattle.reading.specs.Faults.{read_told}
use Rattle.casefile.specs.declared.fault.CaseFault.{CaseFault}

abbrev pub case_told : CaseFault → Told
case_told f = read_told f.read
