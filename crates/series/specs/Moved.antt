-- The rules of a series: rule n is the row with 8 × width × n added to each moving mark. The positions of a row
-- are 0 for its head and k + 1 for its body mark k; the bits of `moving` say which of them move. Assumes nothing.
--     mark_in row p        the mark of the row at position p
--     moved row m n p      the mark of rule n at position p
--     mark_of row m n p    the same, where there is a rule n and the row has a mark at position p
--     moved_marks row m n  the body marks of rule n
--     series_rule row m n  rule n
--     series_rules row m   the rules, of which there are `count`
use Rattle.std.specs.Prelude.{ℕ, zero, suc, ◌+◌, ◌*◌, cond, ◌&&◌, List, map, take, drop, Some, None, Option, nat_le, nat_lt}
use Rattle.std.specs.List.{range_with_len}
use Rattle.marks.specs.Words.{bit}
use Rattle.norms.specs.Programs.{Rule}
use Rattle.rows.specs.Rows.{head, required_count, body_count, mark_at}
use Rattle.series.specs.declared.movement.Movement.{Movement}

abbrev pub mark_in : List ℕ → ℕ → ℕ
mark_in row zero = head row
mark_in row (suc k) = mark_at row k

abbrev pub moved : List ℕ → Movement → ℕ → ℕ → ℕ
moved row m n p = mark_in row p + cond (bit m.moving p) (8 * m.width * n) 0

abbrev pub mark_of : List ℕ → Movement → ℕ → ℕ → Option ℕ
mark_of row m n p = cond (nat_lt n m.count && nat_le p (body_count row)) (Some (moved row m n p)) None

abbrev pub moved_marks : List ℕ → Movement → ℕ → List ℕ
moved_marks row m n = map (λ k. moved row m n (suc k)) (range_with_len 0 (body_count row))

abbrev pub series_rule : List ℕ → Movement → ℕ → Rule ℕ
series_rule row m n =
    record {
      head = moved row m n 0;
      required = take (required_count row) (moved_marks row m n);
      barred = drop (required_count row) (moved_marks row m n);
    }

abbrev pub series_rules : List ℕ → Movement → List (Rule ℕ)
series_rules row m = map (series_rule row m) (range_with_len 0 m.count)
