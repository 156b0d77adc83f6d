-- The steps that stand in a table. Assumes nothing.
use Rattle.std.proofs.Common.{◌≡◌, ℕ, suc, ◌+◌, ◌-◌, ◌<◌, List, [], ◌∷◌, map, length, get_or, unwrap_or, Some, None, MatchOption, Option, Bor, sym, refl, ap, ◌∙◌, add-one, arith}
use Rattle.std.specs.List.{slice_get}
use Rattle.std.specs.Option.{option_map, option_copied}
use Rattle.std.specs.Slice.{IsItemAt}
use Rattle.std.proofs.slice.Searches.{copied_from_item}
use Rattle.std.proofs.iter.runs.Lists.{none-some, slice_get-map}
use Rattle.std.proofs.lemmas.List.{length-map, get_or-map}
use Rattle.std.proofs.lemmas.Option.{slice_get-get_or}
use Rattle.marks.specs.Sets.{Set, nothing}
use Rattle.marks.specs.Words.{members}
use Rattle.norms.specs.Scenarios.{marks_of}
use Rattle.norms.specs.Steps.{Step, handed_on, inherited}
use Rattle.norms.specs.Traces.{of_step}
use Rattle.steps.specs.declared.record.Record.{Record}
use Rattle.steps.specs.declared.table.Table.{Table}
use Rattle.steps.specs.Standing.{step_of, standing, records_of}

-- as many steps stand as there are records
pub length_standing : (t : Table) → length (standing t) ≡ length (records_of t)
length_standing t = length-map (records_of t) step_of

-- the step at a place
pub step_at : (t : Table) (i : ℕ) (r : Record) (d : Step) → i < length (records_of t) → r ≡ get_or (records_of t) i r → get_or (standing t) i d ≡ step_of r
step_at t i r d h e = get_or-map step_of (records_of t) i r d h ∙ ap step_of (sym e)

-- the marks of the step at a place, by its number
pub marks_here : (rs : List Record) (i : ℕ) (r : Record) → i < length rs → r ≡ get_or rs i r → members r.marks ≡ of_step (marks_of (map step_of rs)) (i + 1)
marks_here rs i r within here =
    let at : slice_get rs i ≡ Some r = slice_get-get_or rs i r within ∙ ap Some (sym here) in
    sym (ap (of_step (marks_of (map step_of rs))) (add-one i)
    ∙ ap (λ o. unwrap_or o nothing) (slice_get-map (λ (s : Step). s.marks) (map step_of rs) i ∙ ap (option_map (λ (s : Step). s.marks)) (slice_get-map step_of rs i ∙ ap (option_map step_of) at)))

-- the marks of the step with the number n, which stands at place o, in the record q
read_marks : (q : Option (Bor Record)) (M : Set ℕ) → MatchOption q (M ≡ nothing) (λ r. M ≡ members r.now.marks)
    → M ≡ unwrap_or (option_map (λ (s : Step). s.marks) (option_map step_of (option_copied q))) nothing
read_marks None M e = e
read_marks (Some r) M e = e

pub marks_at : (rs : List Record) (n : ℕ) (o : Option ℕ) (q : Option (Bor Record)) (M : Set ℕ)
    → MatchOption o (n ≡ 0) (λ k. n ≡ k + 1) → MatchOption o (q ≡ None) (λ k. IsItemAt rs k q)
    → MatchOption q (M ≡ nothing) (λ r. M ≡ members r.now.marks) → M ≡ of_step (marks_of (map step_of rs)) n
marks_at rs n None None M first lent marks = marks ∙ sym (ap (of_step (marks_of (map step_of rs))) first)
marks_at rs n None (Some r) M first lent marks = absurd (none-some r (sym lent))
marks_at rs n (Some k) q M here lent marks =
    read_marks q M marks
    ∙ ap (λ o. unwrap_or (option_map (λ (s : Step). s.marks) (option_map step_of o)) nothing) (copied_from_item rs k k q (λ past. past) (λ within. within) lent)
    ∙ sym (ap (of_step (marks_of (map step_of rs))) (here ∙ add-one k)
    ∙ ap (λ o. unwrap_or o nothing) (slice_get-map (λ (s : Step). s.marks) (map step_of rs) k ∙ ap (option_map (λ (s : Step). s.marks)) (slice_get-map step_of rs k)))

-- the last of the steps that stand hands on
handed_last : (steps : List Step) → inherited steps ≡ unwrap_or (option_map (λ (s : Step). handed_on s.marks) (slice_get steps (length steps - 1))) nothing
handed_last [] = refl
handed_last (s ∷ []) = refl
handed_last (s ∷ t ∷ steps) =
    let last = λ (o : Option Step). unwrap_or (option_map (λ (s : Step). handed_on s.marks) o) nothing in
    let here : suc (length steps) - 1 ≡ length steps = omega arith in
    let there : suc (suc (length steps)) - 1 ≡ suc (length steps) = omega arith in
    handed_last (t ∷ steps) ∙ ap (λ n. last (slice_get (t ∷ steps) n)) here ∙ sym (ap (λ n. last (slice_get (s ∷ t ∷ steps) n)) there)

read_handed : (q : Option (Bor Record)) (M : Set ℕ) → MatchOption q (M ≡ nothing) (λ r. M ≡ handed_on (members r.now.marks))
    → M ≡ unwrap_or (option_map (λ (s : Step). handed_on s.marks) (option_map step_of (option_copied q))) nothing
read_handed None M e = e
read_handed (Some r) M e = e

pub inherited_standing : (rs : List Record) (q : Option (Bor Record)) (M : Set ℕ) → option_copied q ≡ slice_get rs (length rs - 1)
    → MatchOption q (M ≡ nothing) (λ r. M ≡ handed_on (members r.now.marks)) → M ≡ inherited (map step_of rs)
inherited_standing rs q M last handed =
    read_handed q M handed
    ∙ ap (λ o. unwrap_or (option_map (λ (s : Step). handed_on s.marks) (option_map step_of o)) nothing) last
    ∙ sym (handed_last (map step_of rs)
    ∙ ap (λ o. unwrap_or (option_map (λ (s : Step). handed_on s.marks) o) nothing) (ap (λ n. slice_get (map step_of rs) (n - 1)) (length-map rs step_of) ∙ slice_get-map step_of rs (length rs - 1)))
