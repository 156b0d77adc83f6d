-- Checks in their order: what is told is the first that fails. Assumes nothing.
--     refuse_if b t      refuses where the test b passes, and tells t
--     c ⨟ d              the check c, and after it d
--     first_below n c    the checks c 0, c 1, .. below n, in this order
--     passes x c         the answer of a call that makes the check c: x where it passes
-- What is made in spite of a refusal:
--     where_passes c xs         the list xs where the check c passes, and nothing where it refuses
--     count_where_passes c n    the same of a count: n where the check passes, and 0 where it refuses
use Rattle.std.specs.Prelude.{ℕ, zero, suc, Bool, cond, List, [], Some, None, Ok, Err, Option, Result}
use Rattle.refusals.specs.declared.Told.{Told}

infixl 20 ◌⨟◌
abbrev pub refuse_if : Bool → Told → Option Told
refuse_if b t = cond b (Some t) None

abbrev pub ◌⨟◌ : Option Told → Option Told → Option Told
None ⨟ d = d
Some t ⨟ d = Some t

unfoldable pub first_below : ℕ → (ℕ → Option Told) → Option Told
first_below zero c = None
first_below (suc n) c = first_below n c ⨟ c n

abbrev pub passes : {T : Type 0} → T → Option Told → Result T Told
passes x None = Ok x
passes x (Some t) = Err t

abbrev pub where_passes : {A : Type 0} → Option Told → List A → List A
where_passes None xs = xs
where_passes (Some t) xs = []

abbrev pub count_where_passes : Option Told → ℕ → ℕ
count_where_passes None n = n
count_where_passes (Some t) n = 0
