use Rattle.std.proofs.Common.{◌≡◌, ℕ, ◌*◌, ◌<◌, get_or}
use Rattle.reading.specs.Reads.{pair}
use Rattle.casefile.proofs.lists.MarkList.fill.Given as goal

abbrev pub invariant-loop-i : goal.invariant-loop-i
invariant-loop-i l = (k : ℕ) → k < l.i → get_or l.self.marks k 0 ≡ pair l.bytes (2 * k)
