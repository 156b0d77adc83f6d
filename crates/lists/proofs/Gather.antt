-- A list that is checked from the front while its marks are gathered. Assumes nothing.
use Rattle.std.proofs.Common.{◌≡◌, ℕ, ◌+◌, ◌-◌, ◌<◌, ◌≤◌, Bool, true, false, ◌&&◌, ◌||◌, eqb, leb, List, [], ◌∷◌, ◌++◌, length, get_or, take, Some, None, Ok, Err, MatchOption, Option, sym, refl, ap, ◌∙◌, ap₂, arith}
use mathlib.Core.Path.{fun_ext}
use Rattle.std.proofs.lemmas.List.{take_more, take_all}
use Rattle.std.proofs.lemmas.Bool.{le-ltb, lt-ltb}
use Rattle.refusals.specs.declared.Told.{Told}
use Rattle.refusals.specs.Telling.{refusal}
use Rattle.refusals.specs.Checks.{◌⨟◌, refuse_if, first_below, passes}
use Rattle.refusals.specs.Rising.{unrising}
use Rattle.refusals.proofs.Rising.{is_first}
use Rattle.refusals.proofs.First.{first_none, first_passed, first_found}
use Rattle.refusals.proofs.Refused.{passed, refused_by}
use Rattle.marks.specs.Sets.{Set, nothing, among}
use Rattle.marks.specs.Words.{with_mark}
use Rattle.marks.specs.declared.mark.Mark.{Mark}
use Rattle.lists.specs.Lists.{list_mark, list_check}

among_push : (xs : List ℕ) (x m : ℕ) → among (xs ++ x ∷ []) m ≡ (eqb m x || among xs m)
among_push [] x m = refl
among_push (y ∷ xs) x m = ap (λ b. eqb m y || b) (among_push xs x m) ∙ or_swap (eqb m y) (eqb m x) (among xs m)
  where
    or_swap : (a b c : Bool) → (a || (b || c)) ≡ (b || (a || c))
    or_swap true true c = refl
    or_swap true false c = refl
    or_swap false b c = refl

-- o is the mark before place i, if there is one
abbrev IsBefore : List ℕ → ℕ → Option Mark → Type 0
IsBefore xs i o = MatchOption o (i ≡ 0) (λ b. (0 < i) × (b.number ≡ get_or xs (i - 1) 0))

-- r tells whether the mark m is not above o
abbrev pub IsNotAbove : Option Mark → Mark → Bool → Type 0
IsNotAbove o m r = MatchOption o (r ≡ false) (λ b. r ≡ leb m.number b.number)

is_unrising : (xs : List ℕ) (i : ℕ) (o : Option Mark) (m : Mark) (r : Bool) → IsBefore xs i o → m.number ≡ get_or xs i 0 → IsNotAbove o m r → r ≡ unrising xs i
is_unrising xs i None m r before here test = test ∙ sym (is_first xs i (omega arith))
is_unrising xs i (Some b) m r before here test =
    test ∙ ap₂ leb here before.1 ∙ sym (ap (λ t. t && leb (get_or xs i 0) (get_or xs (i - 1) 0)) (lt-ltb 0 i before.0))

-- a list whose refusals begin with n
module _ (n : ℕ) (bars : ℕ → ℕ → Option Told) (xs : List ℕ) where
  -- the marks before place i passed, S has just these, and o is the last of them
  abbrev pub Gathered : ℕ → Set ℕ → Option Mark → Type 0
  Gathered i S o = (first_below i (list_mark n bars xs) ≡ None) × (S ≡ among (take i xs)) × IsBefore xs i o

  pub gather_none : (S : Set ℕ) → S ≡ nothing → Gathered 0 S None
  gather_none S e = (first_none (list_mark n bars xs), e, refl)

  pub gather_all : (i : ℕ) (S : Set ℕ) (o : Option Mark) → i ≡ length xs → Gathered i S o → Ok S ≡ passes (among xs) (list_check n bars xs)
  gather_all i S o e g =
      ap Ok (g.1 ∙ ap among (take_all i xs (omega arith)))
      ∙ sym (ap (passes (among xs)) (ap (λ k. first_below k (list_mark n bars xs)) (sym e) ∙ g.0))

  module _ (i : ℕ) (S : Set ℕ) (o : Option Mark) (within : i < length xs) (g : Gathered i S o) where
    stop : (t : Told) → list_mark n bars xs i ≡ Some t → Err t ≡ passes (among xs) (list_check n bars xs)
    stop t e = sym (ap (passes (among xs)) (first_found (list_mark n bars xs) i (length xs) t g.0 e within))

    pub stop_high : 1024 ≤ get_or xs i 0 → Err (refusal n i) ≡ passes (among xs) (list_check n bars xs)
    stop_high h = stop (refusal n i) (ap (λ b. refuse_if b (refusal n i) ⨟ refuse_if (unrising xs i) (refusal (n + 1) i) ⨟ bars (get_or xs i 0) i) (lt-ltb 1023 (get_or xs i 0) h))

    -- the mark at place i
    module _ (m : Mark) (here : m.number ≡ get_or xs i 0) (r : Bool) (test : IsNotAbove o m r) where
      low : list_mark n bars xs i ≡ refuse_if r (refusal (n + 1) i) ⨟ bars m.number i
      low =
          ap (λ b. refuse_if b (refusal n i) ⨟ refuse_if (unrising xs i) (refusal (n + 1) i) ⨟ bars (get_or xs i 0) i) (le-ltb 1023 (get_or xs i 0) (omega (arith, m.low)))
          ∙ sym (ap₂ (λ b k. refuse_if b (refusal (n + 1) i) ⨟ bars k i) (is_unrising xs i o m r g.2 here test) here)

      pub stop_unrising : r ≡ true → Err (refusal (n + 1) i) ≡ passes (among xs) (list_check n bars xs)
      stop_unrising e = stop (refusal (n + 1) i) (low ∙ ap (λ b. refuse_if b (refusal (n + 1) i) ⨟ bars m.number i) e)

      rising : r ≡ false → list_mark n bars xs i ≡ bars m.number i
      rising e = low ∙ ap (λ b. refuse_if b (refusal (n + 1) i) ⨟ bars m.number i) e

      pub stop_barred : r ≡ false → (t : Told) → Err t ≡ passes (tt {0}) (bars m.number i) → Err t ≡ passes (among xs) (list_check n bars xs)
      stop_barred e t f = stop t (rising e ∙ refused_by tt (bars m.number i) t f)

      pub gather_more : r ≡ false → Ok (tt {0}) ≡ passes (tt {0}) (bars m.number i) → (R : Set ℕ) → R ≡ with_mark m.number S → Gathered (i + 1) R (Some m)
      gather_more e f R added = (
        first_passed (list_mark n bars xs) i g.0 (rising e ∙ (passed tt tt (bars m.number i) f).0),
        added ∙ ap₂ with_mark here g.1 ∙ sym (fun_ext λ x. ap (λ l. among l x) (take_more xs i 0 within) ∙ among_push (take i xs) (get_or xs i 0) x),
        (omega arith, here ∙ ap (λ k. get_or xs k 0) (omega arith)),
      )
