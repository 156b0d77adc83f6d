-- The findings of a step among all marks. Assumes nothing.
use Rattle.std.proofs.Common.{◌≡◌, ℕ, ◌≤◌, Bool, false, List, length, ◌&&◌, ◌||◌, eqb, filter, Some, None, MatchOption, Option, sym, refl, ap, ◌∙◌, arith}
use Rattle.std.specs.Iterator.{Yields}
use Rattle.std.specs.List.{slice_get}
use Rattle.std.proofs.lemmas.Iterator.{YieldsList}
use Rattle.std.proofs.lemmas.Iterator.Consumers.{YieldsList-turn, YieldsList-end}
use Rattle.std.proofs.lemmas.List.Sums.{length-filter, count_by-le-length}
use Rattle.marks.proofs.InARow.{length_numbers}
use Rattle.std.proofs.lemmas.Option.{slice_get-get_or}
use Rattle.marks.specs.Sets.{Set}
use Rattle.marks.specs.Members.{marks_in}
use Rattle.marks.specs.Numbers.{attribute, breached, violated, mark, instance, holds}
use Rattle.marks.specs.declared.mark.Mark.{Mark}
use Rattle.marks.specs.Numbered.{numbers}
use Rattle.marks.proofs.InARow.{numbers_counted}
use Rattle.norms.specs.Findings.{finding, findings_in}

pub found_all : (M : Set ℕ) → filter (finding M) (numbers 0 1024) ≡ findings_in M
unfolding marks_in findings_in
found_all M = ap (filter (finding M)) (numbers_counted 1024)

-- a `for` over the findings of a step, of which those of xs were passed; its road is told last, so that its steps are known there
module _ {S A : Type 0} {steps : S → Option A → S → Type 0} {v : A → ℕ} {s : S} (M : Set ℕ) (xs : List A) (t u : S) (r : Option A)
    (passed : Yields steps s xs t) (next : steps t r u) (road : YieldsList steps v s (filter (finding M) (numbers 0 1024))) where
  -- the next one is finding k, where k were passed
  pub found_at : (x : A) → r ≡ Some x → (k : ℕ) → k ≡ length xs → Some (v x) ≡ slice_get (findings_in M) k
  found_at x is k here =
      let at = YieldsList-turn road xs t passed r u x is next in
      ap Some at.1 ∙ sym (slice_get-get_or (filter (finding M) (numbers 0 1024)) (length xs) (v x) at.0)
      ∙ ap (λ l. slice_get l (length xs)) (found_all M) ∙ ap (slice_get (findings_in M)) (sym here)

  -- after the last one, as many were passed as there are
  pub found_whole : r ≡ None → length xs ≡ length (findings_in M)
  found_whole is = (YieldsList-end road xs t passed r u is next).1 ∙ ap length (found_all M)

-- no more findings than marks
pub few_found : (M : Set ℕ) → length (findings_in M) ≤ 1024
few_found M =
    omega (arith, ap length (found_all M), length-filter (finding M) (numbers 0 1024), count_by-le-length (finding M) (numbers 0 1024), length_numbers 0 1024)

-- the answer r to whether the mark o of the number n, which is none above 1,023, is a finding
pub finding_of : (M : Set ℕ) (n : ℕ) (o : Option Mark) (r : Bool) → (1024 ≤ n → M n ≡ false) → MatchOption o (1024 ≤ n) (λ m. m.number ≡ n)
    → MatchOption o (r ≡ false) (λ m. r ≡ finding M m.number) → r ≡ finding M n
finding_of M n None r past above none = none ∙ none_past (M n) (past above)
  where
    none_past : (b : Bool) → b ≡ false → false ≡ (b && (eqb (attribute n) breached || eqb (attribute n) violated && M (mark (instance n) holds)))
    none_past b e = rw e refl
finding_of M n (Some m) r past here told = told ∙ ap (finding M) here
