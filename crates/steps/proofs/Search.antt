-- The search for finding k through the places of a table. Assumes nothing.
use Rattle.std.proofs.Common.{◌≡◌, ℕ, ◌+◌, ◌-◌, ◌<◌, ◌≤◌, length, get_or, take, Ok, Err, sym, ap, ◌∙◌, arith}
use Rattle.std.specs.List.{slice_get}
use Rattle.std.specs.Option.{ok_or}
use Rattle.std.proofs.lemmas.List.{take_all}
use Rattle.std.proofs.lemmas.Option.{slice_get_past}
use Rattle.marks.specs.Words.{members}
use Rattle.norms.specs.Findings.{dated_from, findings, findings_in}
use Rattle.steps.specs.declared.record.Record.{Record}
use Rattle.steps.specs.declared.table.Table.{Table}
use Rattle.steps.specs.Listed.{listed}
use Rattle.steps.specs.Standing.{standing, step_of, records_of}
use Rattle.steps.proofs.Places.{length_standing, step_at}
use Rattle.steps.proofs.Listing.{count_step, list_here, entry_of, length_of}

-- all findings of the steps before place i are seen, and k is not among them
module _ (t : Table) (i : ℕ) (r : Record) (below : i < length (records_of t)) (here : r ≡ get_or (records_of t) i r)
    (seen k : ℕ) (counted : seen ≡ length (dated_from 1 (take i (standing t)))) (passed : seen ≤ k) where
  within : i < length (standing t)
  within = omega (arith, length_standing t)

  at : get_or (standing t) i (step_of r) ≡ step_of r
  at = step_at t i r (step_of r) below here

  pub found_at : (m : ℕ) → Ok m ≡ listed (findings_in (members r.marks)) (k - seen) → Ok (i + 1, m) ≡ listed (findings (standing t)) k
  found_at m e =
      sym (ap (λ o. ok_or o (length (findings (standing t))))
      (list_here (standing t) i (step_of r) within at k m (omega arith)
      (ap (λ n. slice_get (findings_in (members r.marks)) (k - n)) (sym counted) ∙ entry_of (findings_in (members r.marks)) (k - seen) m e)))

  pub counted_on : (n : ℕ) → Err n ≡ listed (findings_in (members r.marks)) (k - seen)
      → (seen + n ≤ k) × (seen + n ≡ length (dated_from 1 (take (i + 1) (standing t))))
  counted_on n e =
      let l = length_of (findings_in (members r.marks)) (k - seen) n e in
      (omega arith, omega (arith, count_step (standing t) i (step_of r) within at))

-- no finding has the number k
pub none_left : (t : Table) (i seen k : ℕ) → i ≡ length (records_of t) → seen ≡ length (dated_from 1 (take i (standing t))) → seen ≤ k
    → Err seen ≡ listed (findings (standing t)) k
none_left t i seen k all counted passed =
    let whole : seen ≡ length (findings (standing t)) = counted ∙ ap (λ l. length (dated_from 1 l)) (take_all i (standing t) (omega (arith, length_standing t))) in
    ap Err whole ∙ sym (ap (λ o. ok_or o (length (findings (standing t)))) (slice_get_past (findings (standing t)) k (omega arith)))
