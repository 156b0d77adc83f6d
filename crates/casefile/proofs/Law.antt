-- A case file is read to its end exactly where it is the file of some well-formed steps. Assumes nothing.
use Rattle.std.proofs.Common.{◌≡◌, ℕ, ◌<◌, true, ◌↔◌, List, get_or, is_ok, None, Result, sym, ap, ◌∙◌, subst}
use Rattle.refusals.specs.Telling.{answered}
use Rattle.refusals.specs.Checks.{passes}
use Rattle.refusals.proofs.Refused.{passes_exactly}
use Rattle.casefile.specs.declared.fault.CaseFault.{CaseFault}
use Rattle.casefile.specs.Faults.{case_told}
use Rattle.casefile.specs.Cases.{case_steps, case_end}
use Rattle.casefile.specs.Written.{FileOf, CaseFile}
use Rattle.casefile.proofs.WriteBack.{file_read}
use Rattle.casefile.proofs.ReadBack.{accepted, steps_meant}

-- the law, for bytes
pub case_law : (bs : List ℕ) → ((i : ℕ) → get_or bs i 0 < 256) → (case_end bs ≡ None) ↔ CaseFile bs
case_law bs small = (
  (λ passed. (case_steps bs, file_read bs small passed)),
  (λ file. subst (λ xs. case_end xs ≡ None) (sym file.1.is_written) (accepted file.0 file.1.well_formed)),
)

-- what is read from the file of steps
pub steps_read : (bs : List ℕ) (steps : List (List ℕ × List ℕ)) → FileOf steps bs → case_steps bs ≡ steps
steps_read bs steps file = ap case_steps file.is_written ∙ steps_meant steps file.well_formed

-- a call that reads the whole file
pub call_law : (r : Result (Unit {0}) CaseFault) (bs : List ℕ) → ((i : ℕ) → get_or bs i 0 < 256) → answered case_told r ≡ passes tt (case_end bs) → (is_ok r ≡ true) ↔ CaseFile bs
call_law r bs small answer = passes_exactly case_told r (case_end bs) (case_law bs small) answer
