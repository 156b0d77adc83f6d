-- How many bytes pieces have together. Assumes nothing.
use Rattle.std.proofs.Common.{◌≡◌, ℕ, ◌+◌, ◌<◌, ◌≤◌, List, length, take, get_or, sum_by, Bor}
use Rattle.std.proofs.lemmas.List.Concat.{length-flat_map}
use Rattle.std.proofs.lemmas.List.Folds.{length-flat_map-take}
use Rattle.lines.specs.Text.{joined}

pub joined_length : (pieces : List (Bor (List ℕ))) → length (joined pieces) ≡ sum_by (λ piece. length piece.now) pieces
joined_length pieces = length-flat_map (λ (piece : Bor (List ℕ)). piece.now) pieces

-- the pieces before the one at i, and that one
pub joined_before : (pieces : List (Bor (List ℕ))) (i : ℕ) (d : Bor (List ℕ)) → i < length pieces → length (joined (take i pieces)) + length (get_or pieces i d).now ≤ length (joined pieces)
joined_before pieces i d h = length-flat_map-take (λ (piece : Bor (List ℕ)). piece.now) pieces i d h
