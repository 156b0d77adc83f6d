-- What the first refusal of a run tells. Assumes nothing.
use Rattle.refusals.specs.declared.Told.{Told}
use Rattle.bookcheck.specs.Faults.{book_told}
use Rattle.casefile.specs.Faults.{case_told}
use Rattle.review.specs.Faults.{propose_told}
use Rattle.run.specs.declared.fault.RunFault.{RunFault}
use Rattle.run.specs.declared.fault.RunFault.TheVariants.{Book, Case, Propose}

abbrev pub run_told : RunFault → Told
run_told (Book f) = book_told f
run_told (Case f) = case_told f
run_told (Propose f) = propose_told f
