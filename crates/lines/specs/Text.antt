-- The lines of a report, as bytes. Assumes nothing.
--     rest_of_line ws                  a space before each of the words ws, and a newline
--     line_of w ws                     the word w and the words ws, parted by single spaces, and a newline
--     finding_line step breach name    the line of a finding: a breach, or else a violated duty
--     unnamed i                        what stands for the name of instance i where it has none
--     steps_line n                     the last line of a case that was read whole
--     refused_line number spot         the last line of a case that was refused
--     joined pieces                    the pieces, one after another
--     written xs old                   what a buffer holds that held old, once xs is written from the front on
use Rattle.std.specs.Prelude.{ℕ, Bool, cond, List, [], ◌∷◌, ◌++◌, length, drop, codes, decimal}
use Rattle.std.specs.List.{flat_map}
use Rattle.std.specs.Borrow.{Bor}

abbrev pub rest_of_line : List (List ℕ) → List ℕ
rest_of_line [] = 10 ∷ []
rest_of_line (w ∷ ws) = 32 ∷ (w ++ rest_of_line ws)

abbrev pub line_of : List ℕ → List (List ℕ) → List ℕ
line_of w ws = w ++ rest_of_line ws

abbrev pub finding_line : ℕ → Bool → List ℕ → List ℕ
finding_line step breach name = line_of (decimal step) (cond breach (codes "breach") (codes "violated") ∷ name ∷ [])

abbrev pub unnamed : ℕ → List ℕ
unnamed i = 35 ∷ decimal i

abbrev pub steps_line : ℕ → List ℕ
steps_line n = line_of (codes "steps") (decimal n ∷ [])

abbrev pub refused_line : ℕ → ℕ → List ℕ
refused_line number spot = line_of (codes "refused") (decimal number ∷ decimal spot ∷ [])

abbrev pub joined : List (Bor (List ℕ)) → List ℕ
joined pieces = flat_map (λ piece. piece.now) pieces

abbrev pub written : List ℕ → List ℕ → List ℕ
written xs old = xs ++ drop (length xs) old
