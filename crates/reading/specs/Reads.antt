-- What is read of the bytes of a file, how a number is written, and when reading is refused. Assumes nothing.
--     pair bs i              the two-byte number at i, the high byte first
--     byte_pair n            a number as two bytes, the high byte first
--     part bs i n            the n bytes at i
--     there here bs i n      refuses where the n bytes at i are not all there (1, at the file's length)
--     at_most here i limit n refuses a count n, which stands at i, above its limit (2, at the count)
--     ends_at bs i           refuses bytes that are left over from i on (9, at the first of them)
use Rattle.std.specs.Prelude.{ℕ, ◌+◌, ◌*◌, ◌/◌, ◌%◌, List, [], ◌∷◌, length, take, drop, Option, nat_lt, slice_index}
use Rattle.refusals.specs.declared.Told.{Told}
use Rattle.refusals.specs.declared.Item.{Item}
use Rattle.refusals.specs.declared.Section.TheVariants.{End}
use Rattle.refusals.specs.Telling.{refusal_in}
use Rattle.refusals.specs.Checks.{refuse_if}

abbrev pub pair : List ℕ → ℕ → ℕ
pair bs i = slice_index bs i * 256 + slice_index bs (i + 1)

abbrev pub byte_pair : ℕ → List ℕ
byte_pair n = n / 256 ∷ n % 256 ∷ []

abbrev pub part : List ℕ → ℕ → ℕ → List ℕ
part bs i n = take n (drop i bs)

abbrev pub there : Item → List ℕ → ℕ → ℕ → Option Told
there here bs i n = refuse_if (nat_lt (length bs) (i + n)) (refusal_in here 1 (length bs))

abbrev pub at_most : Item → ℕ → ℕ → ℕ → Option Told
at_most here i limit n = refuse_if (nat_lt limit n) (refusal_in here 2 i)

-- the end of a file, as an item
abbrev pub the_end : Item
the_end = record { section = End; item = 0 }

abbrev pub ends_at : List ℕ → ℕ → Option Told
ends_at bs i = refuse_if (nat_lt i (length bs)) (refusal_in the_end 9 i)
