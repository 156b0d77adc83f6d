-- Sets as tests that their members pass. Assumes nothing.
--     Set A      a set of elements of A
--     a ∈ S      a is a member of S
--     S ⊆ R      each member of S is one of R
--     nothing    the empty set
--     either S R the members of S and those of R
--     beyond S R the members of S that R lacks
--     among xs   the numbers of the list xs
use Rattle.std.specs.Prelude.{◌≡◌, ℕ, Bool, true, false, not, ◌&&◌, ◌||◌, List, [], ◌∷◌, ◌==◌}

infix 40 ◌∈◌
infix 40 ◌⊆◌
abbrev pub Set : Type 0 → Type 0
Set A = A → Bool

abbrev pub ◌∈◌ : {A : Type 0} → A → Set A → Type 0
a ∈ S = S a ≡ true

abbrev pub ◌⊆◌ : {A : Type 0} → Set A → Set A → Type 0
◌⊆◌ {A} S R = (a : A) → a ∈ S → a ∈ R

abbrev pub nothing : {A : Type 0} → Set A
nothing a = false

abbrev pub either : {A : Type 0} → Set A → Set A → Set A
either S R a = S a || R a

abbrev pub beyond : {A : Type 0} → Set A → Set A → Set A
beyond S R a = S a && not (R a)

abbrev pub among : List ℕ → Set ℕ
among [] m = false
among (x ∷ xs) m = m == x || among xs m
