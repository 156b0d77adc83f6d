-- All standing steps together, as one program over dated marks. A dated mark is a step number, counted from 1, with
-- a mark. What is said here holds of rules over marks of any kind and of any way of handing on. Assumes nothing.
--     Hand A              which marks are handed on: `H c a e` says that c at the next step requires a at this
--                         one and bars e at this one
--     at sets d           the dated mark d is in the set of its step; sets are those of the steps from 1 on
--     dated s r           the rule r, dated with step s
--     hands s c a e       the rule that hands c on from step s
--     Together P H n      the rules of P dated with each of n steps, and handing on between neighbours
--     Hands H hand M      the function hand gives what a step with the marks M hands on
--     given_at            what step k + 1 is given: what is said and what the step before hands on
--     EachStable          each of the sets is a stable model of P over what its step is given
use Rattle.std.specs.Prelude.{◌≡◌, ℕ, zero, suc, ◌<◌, ◌≤◌, false, ◌||◌, ◌⊎◌, ◌↔◌, List, [], ◌∷◌, map, length}
use Rattle.std.specs.List.{slice_get}
use Rattle.std.specs.Option.{unwrap_or}
use Rattle.marks.specs.Sets.{Set, ◌∈◌, nothing}
use Rattle.norms.specs.Programs.{Rule, Program, Stable}

abbrev pub Hand : Type 0 → Type 1
Hand A = A → A → A → Type 0

module _ {A : Type 0} where
  -- the set of step s; no mark where there is no such step
  abbrev pub of_step : List (Set A) → ℕ → Set A
  of_step sets zero = nothing
  of_step sets (suc k) = unwrap_or (slice_get sets k) nothing

  abbrev pub at : List (Set A) → Set (ℕ × A)
  at sets d = of_step sets d.0 d.1

  abbrev pub dated : ℕ → Rule A → Rule (ℕ × A)
  dated s r = record { head = (s, r.head); required = map (λ a. (s, a)) r.required; barred = map (λ a. (s, a)) r.barred }

  abbrev pub hands : ℕ → A → A → A → Rule (ℕ × A)
  hands s c a e = record { head = (suc s, c); required = (s, a) ∷ []; barred = (s, e) ∷ [] }

  abbrev pub Together : Program A → Hand A → ℕ → Program (ℕ × A)
  Together P H n r =
      ((s : ℕ) × (1 ≤ s) × (s ≤ n) × (q : Rule A) × P q × (r ≡ dated s q))
      ⊎ ((s : ℕ) × (1 ≤ s) × (s < n) × (c : A) × (a : A) × (e : A) × H c a e × (r ≡ hands s c a e))

  abbrev pub Hands : Hand A → (Set A → Set A) → Set A → Type 0
  Hands H hand M = (c : A) → (c ∈ hand M) ↔ ((a : A) × (e : A) × H c a e × (a ∈ M) × (M e ≡ false))

  abbrev pub given_at : (Set A → Set A) → List (Set A) → List (Set A) → ℕ → Set A
  given_at hand said sets k m = of_step said (suc k) m || hand (of_step sets k) m

  abbrev pub EachStable : Program A → (Set A → Set A) → List (Set A) → List (Set A) → Type 0
  EachStable P hand said sets = (k : ℕ) → k < length sets → Stable P (given_at hand said sets k) (of_step sets (suc k))
