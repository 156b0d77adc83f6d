use Rattle.std.proofs.Common.{◌≡◌, length, take}
use Rattle.lines.specs.Text.{joined, written}
use Rattle.lines.proofs.pieces.write_pieces.Given as goal

abbrev pub invariant-loop-piece : goal.invariant-loop-piece
invariant-loop-piece l =
    (l.at ≡ length (joined (take l.piece-index l.pieces))) × (l.buffer ≡ written (joined (take l.piece-index l.pieces)) l.initial.buffer)
