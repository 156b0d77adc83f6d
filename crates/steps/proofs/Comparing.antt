-- Two tables, step by step, and what their comparison tells. Assumes nothing.
use Rattle.std.proofs.Common.{◌≡◌, ℕ, zero, suc, ◌+◌, ◌<◌, Bool, true, false, ◌≢◌, List, [], ◌∷◌, drop, get_or, length, map, Some, None, Decides, sym, refl, ap, ◌∙◌, subst, ap₂, arith}
use Rattle.std.specs.Bool.{MatchBool}
use Rattle.std.specs.List.{AllWithin, HoldsAt, zip}
use Rattle.std.proofs.lemmas.List.{length-map}
use Rattle.std.proofs.lemmas.Bool.{false≢true}
use Rattle.marks.specs.Sets.{Set, nothing, beyond}
use Rattle.marks.specs.Members.{lowest}
use Rattle.marks.specs.Words.{members}
use Rattle.marks.specs.declared.mark_set.MarkSet.{MarkSet}
use Rattle.marks.proofs.Held.{held_past}
use Rattle.norms.specs.Laws.{Low}
use Rattle.norms.specs.Steps.{Step}
use Rattle.norms.specs.Traces.{of_step, at}
use Rattle.norms.specs.Scenarios.{said_of, marks_of, trace, Lowest}
use Rattle.norms.proofs.Lowest.{Covered, covered_more, covered_all, lowest_dated}
use Rattle.steps.specs.declared.table.Table.{Table}
use Rattle.steps.specs.declared.record.Record.{Record}
use Rattle.steps.specs.Standing.{standing, step_of, records_of}
use Rattle.steps.proofs.Places.{length_standing}

low_members : (a : MarkSet) → Low (members a)
low_members a = held_past a.words a.sixteen

-- the lowest mark that one step has and the other lacks, after steps that have none
module _ (sets others : List (Set ℕ)) (s : ℕ) (a b : MarkSet) (own : members a ≡ of_step sets s) (its : members b ≡ of_step others s)
    (covered : Covered sets others s) where
  low : Low (of_step sets s)
  low = subst Low own (low_members a)

  of_steps : lowest (beyond (members a) (members b)) ≡ lowest (beyond (of_step sets s) (of_step others s))
  of_steps = ap₂ (λ (M N : Set ℕ). lowest (beyond M N)) own its

  pub lowest_at : (m : ℕ) → Some m ≡ lowest (beyond (members a) (members b)) → Lowest (beyond (at sets) (at others)) (Some (s, m))
  lowest_at m e = lowest_dated sets others s m covered low (sym (e ∙ of_steps))

  pub none_at : None ≡ lowest (beyond (members a) (members b)) → Covered sets others (s + 1)
  none_at e = covered_more sets others s covered low (sym (e ∙ of_steps))

-- before the first step there is no mark
pub covered_first : (sets others : List (Set ℕ)) → Covered sets others 1
covered_first sets others zero m first = refl
covered_first sets others (suc s) m first = absurd (omega arith)

-- at each of the steps up to the last, the first table has no mark that the second lacks
pub none_left : (t u : Table) (n : ℕ) → length (records_of t) < n → Covered (marks_of (standing t)) (marks_of (standing u)) n
    → Lowest (beyond (trace (standing t)) (trace (standing u))) None
none_left t u n last covered =
    covered_all (marks_of (standing t)) (marks_of (standing u)) n (omega (arith, length-map (standing t) (λ (s : Step). s.marks), length_standing t)) covered

-- whether the same was said at both of two steps
abbrev pub SaidSame : Record × Record → Type 0
SaidSame p = members p.0.said ≡ members p.1.said

abbrev pub SaidOther : Record × Record → Type 0
SaidOther p = SaidSame p → ⊥

-- equally many steps, with the same said at each
same_said : (rs us : List Record) → length rs ≡ length us → AllWithin SaidSame (zip rs us) 0 (length (zip rs us)) → said_of (map step_of rs) ≡ said_of (map step_of us)
same_said [] [] long each = refl
same_said [] (u ∷ us) long each = absurd (omega arith)
same_said (r ∷ rs) [] long each = absurd (omega arith)
same_said (r ∷ rs) (u ∷ us) long each =
    ap₂ ◌∷◌ (each 0 (r, u) (omega arith) (omega arith)) (same_said rs us (omega arith) (λ k d low high. each (suc k) d (omega arith) (omega arith)))

said_apart : (rs us : List Record) (k : ℕ) → k < length (zip rs us) → HoldsAt SaidOther (zip rs us) k → said_of (map step_of rs) ≢ said_of (map step_of us)
said_apart [] us k within other same = absurd (omega arith)
said_apart (r ∷ rs) [] k within other same = absurd (omega arith)
said_apart (r ∷ rs) (u ∷ us) zero within other same = other (r, u) (ap (λ sets. get_or sets 0 nothing) same)
said_apart (r ∷ rs) (u ∷ us) (suc k) within other same = said_apart rs us k (omega arith) other (ap (drop 1) same)

pub said_decided : (rs us : List Record) (r : Bool) → length rs ≡ length us
    → MatchBool r (AllWithin SaidSame (zip rs us) 0 (length (zip rs us))) ((k : ℕ) × (k < length (zip rs us)) × HoldsAt SaidOther (zip rs us) k)
    → Decides r (said_of (map step_of rs) ≡ said_of (map step_of us))
said_decided rs us true long each = (λ yes. same_said rs us long each, λ same. refl)
said_decided rs us false long other = (λ no. absurd (false≢true no), λ same. absurd (said_apart rs us other.0 other.1 other.2 same))
