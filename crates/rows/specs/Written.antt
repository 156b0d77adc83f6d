-- How a rule is written as a row. Assumes nothing.
--     zeros n         n bytes zero
--     written_row r   the row of the rule r
use Rattle.std.specs.Prelude.{ℕ, ◌-◌, ◌*◌, List, ◌∷◌, ◌++◌, length, replicate}
use Rattle.std.specs.List.{flat_map}
use Rattle.norms.specs.Programs.{Rule}
use Rattle.norms.specs.Rules.{body}
use Rattle.reading.specs.Reads.{byte_pair}

abbrev pub zeros : ℕ → List ℕ
zeros n = replicate n 0

abbrev pub written_row : Rule ℕ → List ℕ
written_row r =
    byte_pair r.head
    ++ (length r.required ∷ length r.barred ∷ (flat_map byte_pair (body r) ++ zeros (28 - 2 * length (body r))))
