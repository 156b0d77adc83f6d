-- An array made by a function of the index. Assumes nothing.
use Rattle.std.proofs.Common.{◌≡◌, ℕ, zero, suc, ◌+◌, ◌<◌, ◌≤◌, List, get_or, subst, refl, ap, ◌∙◌, ⊎_elim, arith}
use Rattle.std.proofs.lemmas.Bool.{cases_lt}
use Rattle.std.specs.Array.{IsFromFnResult, IsFromFnResultFrom}
use denote.Param.Members.{Mut, Called}

-- a closure f that answers h i to each i, and stays as it is
module _ {F B : Type 0} {g : Mut F (ℕ × Unit {0}) B} (f : F) (h : ℕ → B) (answers : (i : ℕ) (y : B) (q : F) → Called g f (i, tt) y q → (q ≡ f) × (y ≡ h i)) where
  made_from : (ys : List B) (i n : ℕ) (p : F) → p ≡ f → IsFromFnResultFrom g p ys i n → (k : ℕ) (d : B) → i ≤ k → k < i + n → get_or ys k d ≡ h k
  made_from ys i zero p same made k d low high = absurd (omega arith)
  made_from ys i (suc n) p same (q, y, at, called, rest) k d low high =
      let (kept, is) = answers i y q (subst (λ c. Called g c (i, tt) y q) same called) in
      ⊎_elim
      (λ later. made_from ys (i + 1) n q kept rest k d (omega arith) (omega arith))
      (λ here. let this : k ≡ i = omega arith in ap (λ j. get_or ys j d) this ∙ at.1 d ∙ is ∙ ap h (omega arith))
      (cases_lt i k)

  pub made_at : (ys : List B) (n : ℕ) → IsFromFnResult g f ys n → (k : ℕ) (d : B) → k < n → get_or ys k d ≡ h k
  made_at ys n made k d lt = made_from ys 0 n f refl made.each k d (omega arith) (omega arith)
