-- What the answer of a call says of its check, and the answer of a call whose checks below n stop at i. Assumes nothing.
use Rattle.std.proofs.Common.{◌≡◌, ℕ, ◌+◌, ◌<◌, Bool, true, false, ◌↔◌, is_ok, Some, None, Ok, Err, Option, Result, sym, refl, ap, ◌∙◌, arith}
use Rattle.std.proofs.lemmas.Bool.{false≢true}
use Rattle.refusals.specs.declared.Told.{Told}
use Rattle.refusals.specs.Telling.{answered}
use Rattle.refusals.specs.Checks.{refuse_if, first_below, passes}
use Rattle.refusals.proofs.First.{first_found, first_passed}

pub refused_at : {T : Type 0} (x : T) (c : ℕ → Option Told) (i n : ℕ) (t : Told) → first_below i c ≡ None → c i ≡ Some t → i < n → ◌≡◌ {A = Result T Told} (Err t) (passes x (first_below n c))
refused_at x c i n t before here below = sym (ap (λ d. passes x d) (first_found c i n t before here below))

pub refused_if : (b : Bool) (t : Told) → b ≡ true → refuse_if b t ≡ Some t
refused_if b t e = ap (λ x. refuse_if x t) e

pub passed_if : (b : Bool) (t : Told) → b ≡ false → refuse_if b t ≡ None
passed_if b t e = ap (λ x. refuse_if x t) e

-- what the answer of a call says of its check
pub refused_by : {T : Type 0} (x : T) (c : Option Told) (t : Told) → ◌≡◌ {A = Result T Told} (Err t) (passes x c) → c ≡ Some t
refused_by x None t e = absurd (let z : ◌≡◌ {A = ℕ} 0 1 = cc in omega arith)
refused_by x (Some u) t e = cc

pub passed : {T : Type 0} (x y : T) (c : Option Told) → ◌≡◌ {A = Result T Told} (Ok x) (passes y c) → (c ≡ None) × (x ≡ y)
passed x y None e = (refl, cc)
passed x y (Some u) e = absurd (let z : ◌≡◌ {A = ℕ} 0 1 = cc in omega arith)

-- a call that makes the check c, which passes exactly where P holds
pub passes_exactly : {E P : Type 0} (told : E → Told) (r : Result (Unit {0}) E) (c : Option Told) → (c ≡ None) ↔ P → answered told r ≡ passes tt c → (is_ok r ≡ true) ↔ P
passes_exactly told (Ok x) c law answer = ((λ ok. law.0 (passed x tt c answer).0), (λ p. refl))
passes_exactly told (Err e) c law answer = (
  (λ ok. absurd (false≢true ok)),
  (λ p. absurd (let none = law.1 p in let some = refused_by tt c (told e) answer in let z : ◌≡◌ {A = ℕ} 0 1 = cc in omega arith)),
)

-- a loop that makes the checks c below n by calls: the call at i made the check d
module _ {S : Type 0} (x : S) (c : ℕ → Option Told) (i : ℕ) (d : Option Told) (before : first_below i c ≡ None) (same : d ≡ c i) where
  pub call_passed : (z : S) → ◌≡◌ {A = Result S Told} (Ok z) (passes x d) → first_below (i + 1) c ≡ None
  call_passed z e = first_passed c i before (sym same ∙ (passed z x d e).0)

  pub call_refused : {T : Type 0} (y : T) (t : Told) → ◌≡◌ {A = Result S Told} (Err t) (passes x d) → (n : ℕ) → i < n → ◌≡◌ {A = Result T Told} (Err t) (passes y (first_below n c))
  call_refused y t e n below = refused_at y c i n t before (sym same ∙ refused_by x d t e) below
