-- A set of marks as sixteen words of 64 bits: mark m is bit m mod 64 of word m div 64. Assumes nothing.
--     bit w k      bit k of the word w
--     held ws      the marks of the words ws
--     members s    the marks of a `MarkSet`
--     with_mark m S   the set S, and the mark m
use Rattle.std.specs.Prelude.{ℕ, ◌/◌, ◌%◌, ◌^◌, Bool, ◌||◌, List, ◌==◌, slice_index}
use Rattle.marks.specs.Sets.{Set}
use Rattle.marks.specs.declared.mark_set.MarkSet.{MarkSet}

unfoldable pub bit : ℕ → ℕ → Bool
bit w k = w / 2 ^ k % 2 == 1

unfoldable pub held : List ℕ → Set ℕ
held ws m = bit (slice_index ws (m / 64)) (m % 64)

abbrev pub members : MarkSet → Set ℕ
members s = held s.words

-- the set S, and the mark m
abbrev pub with_mark : ℕ → Set ℕ → Set ℕ
with_mark m S x = x == m || S x
