-- The members of a set of marks, as a list and as words. Assumes nothing.
--     counted n       the numbers below n, rising
--     marks_in M      the marks of M, rising
--     lowest M        the lowest of them, or none
--     number_of f n   the number whose bit k is f k, for each k below n, and which has no other bit
--     words_of M      M as sixteen words of 64 bits: mark m is bit m mod 64 of word m div 64
use Rattle.std.specs.Prelude.{ℕ, zero, suc, ◌+◌, ◌*◌, ◌^◌, Bool, cond, List, [], ◌∷◌, ◌++◌, map, filter, Option}
use Rattle.std.specs.List.{slice_get}
use Rattle.marks.specs.Sets.{Set}

unfoldable pub counted : ℕ → List ℕ
counted zero = []
counted (suc n) = counted n ++ n ∷ []

unfoldable pub marks_in : Set ℕ → List ℕ
marks_in M = filter M (counted 1024)

abbrev pub lowest : Set ℕ → Option ℕ
lowest M = slice_get (marks_in M) 0

unfoldable pub number_of : (ℕ → Bool) → ℕ → ℕ
number_of f zero = 0
number_of f (suc n) = number_of f n + cond (f n) (2 ^ n) 0

unfoldable pub words_of : Set ℕ → List ℕ
words_of M = map (λ i. number_of (λ k. M (64 * i + k)) 64) (counted 16)
