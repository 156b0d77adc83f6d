-- Numbers in a row, and the values of a type that has them as its numbers. Assumes nothing.
use Rattle.std.proofs.Common.{◌≡◌, ℕ, suc, ◌+◌, ◌-◌, ◌<◌, ◌≤◌, [], ◌∷◌, List, length, get_or, Some, None, Option, Bool, true, false, subst, sym, ap, ◌∙◌, arith}
use Rattle.std.specs.Option.{MatchOption}
use Rattle.std.specs.Bool.{⊤}
use Rattle.std.specs.Fn.{CalledAt}
use Rattle.std.specs.Iterator.{Yields, YieldsThen, YieldsFirstBy}
use denote.Param.Members.{Mut}
use denote.Ref.{Bor}
use Rattle.std.specs.List.{range_with_len, AllWithin, HoldsAt, FoldsTo}
use Rattle.std.proofs.lemmas.Iterator.{YieldsList, first_from_find}
use Rattle.std.proofs.lemmas.Iterator.Consumers.{YieldsList-from_first, YieldsList-turn, YieldsList-end}
use Rattle.std.proofs.lemmas.List.FromFn.{length-range_with_len, get_or-range_with_len}
use Rattle.std.proofs.lemmas.List.{ext_get_or}
use Rattle.marks.specs.Members.{counted}
use Rattle.marks.proofs.Counted.{length_counted, get_or_counted}
use Rattle.marks.specs.declared.numbered.Rising.{Rising}
use Rattle.marks.specs.Numbered.{numbers}

pub numbers_next : (a b : ℕ) → a < b → numbers a b ≡ a ∷ numbers (a + 1) b
unfolding numbers
numbers_next a b lt = let more : b - a ≡ suc (b - (a + 1)) = omega arith in ap (range_with_len a) more

pub numbers_past : (a b : ℕ) → b ≤ a → numbers a b ≡ []
unfolding numbers
numbers_past a b past = let none : b - a ≡ 0 = omega arith in ap (range_with_len a) none

pub length_numbers : (a b : ℕ) → length (numbers a b) ≡ b - a
unfolding numbers
length_numbers a b = length-range_with_len a (b - a)

pub get_or_numbers : (b i d : ℕ) → i < b → get_or (numbers 0 b) i d ≡ i
unfolding numbers
get_or_numbers b i d lt =
    let all : b - 0 ≡ b = omega arith in
    ap (λ n. get_or (range_with_len 0 n) i d) all ∙ get_or-range_with_len 0 b i d lt ∙ omega arith

pub numbers_counted : (b : ℕ) → numbers 0 b ≡ counted b
numbers_counted b =
    ext_get_or 0 (numbers 0 b) (counted b) (omega (arith, length_numbers 0 b, length_counted b))
    (λ i lt.
    let low : i < b = omega (arith, length_numbers 0 b) in
    get_or_numbers b i 0 low ∙ sym (get_or_counted b i low))

-- what holds of each number below b
pub each_below : (P : ℕ → Type 0) (b : ℕ) → AllWithin P (numbers 0 b) 0 (length (numbers 0 b)) → (n : ℕ) → n < b → P n
each_below P b all n lt = subst P (get_or_numbers b n 0 lt) (all n 0 (omega arith) (omega (arith, length_numbers 0 b)))

-- the iterator s over all values, from the first on, where `number` gives their numbers, which are those below b
module _ {T : Type 0} (number : T → ℕ) (b : ℕ) {s : Rising T} (first : s.next ≡ 0) where
  -- a call of its `next`
  abbrev pub Gives : Rising T → Option T → Rising T → Type 0
  Gives = YieldsFirstBy number (λ (r : Rising T). numbers r.next b)

  pub all_values : YieldsList Gives number s (numbers 0 b)
  all_values = YieldsList-from_first number (λ (r : Rising T). numbers r.next b) (numbers 0 b) (ap (λ a. numbers a b) first)

  -- what `find` answers: a value that is asked for, or none where no number is
  pub found : {F : Type 0} {g : Mut F (Bor T × Unit {0}) Bool} (u : Rising T) (f : F) (r : Option T) (Yes No : ℕ → Type 0)
      → (xs : List T) × (j : F) × YieldsThen Gives s xs r u × FoldsTo (λ p x q. CalledAt g p x false q) f xs j × MatchOption r ⊤ (λ x. (h : F) × CalledAt g j x true h)
      → ((x : T) (q : F) → CalledAt g f x true q → Yes (number x))
      → ((x : T) (q : F) → CalledAt g f x false q → (q ≡ f) × No (number x))
      → MatchOption r ((n : ℕ) → n < b → No n) (λ x. Yes (number x))
  found u f r Yes No ran wanted other = below r (first_from_find u f r Yes No ran all_values wanted other)
    where
      below : (r : Option T) → MatchOption r (AllWithin No (numbers 0 b) 0 (length (numbers 0 b))) (λ x. Yes (number x) × (i : ℕ) × (i < length (numbers 0 b)) × HoldsAt (λ y. y ≡ number x) (numbers 0 b) i × AllWithin No (numbers 0 b) 0 i) → MatchOption r ((n : ℕ) → n < b → No n) (λ x. Yes (number x))
      below None none = each_below No b none
      below (Some x) here = here.0

  -- in a loop that has seen the values xs: the next one has the number of these, and after the last one they are all
  module _ (xs : List T) (t u : Rising T) (r : Option T) (seen : Yields Gives s xs t) where
    pub turn : (x : T) → r ≡ Some x → Gives t r u → (length xs < b) × (number x ≡ length xs)
    turn x is gives =
        let at = YieldsList-turn all_values xs t seen r u x is gives in
        let low : length xs < b = omega (arith, at.0, length_numbers 0 b) in
        (low, at.1 ∙ get_or_numbers b (length xs) (number x) low)

    pub end : r ≡ None → Gives t r u → length xs ≡ b
    end is gives = omega (arith, (YieldsList-end all_values xs t seen r u is gives).1, length_numbers 0 b)
