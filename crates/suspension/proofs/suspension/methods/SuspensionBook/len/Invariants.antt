use Rattle.std.proofs.Common.{◌≡◌, ◌+◌, length, drop}
use Rattle.suspension.proofs.Skipping.{below}
use Rattle.suspension.specs.Rest.{rest}
use Rattle.suspension.proofs.suspension.methods.SuspensionBook.len.Given as goal

abbrev pub invariant-loop-aside : goal.invariant-loop-aside
invariant-loop-aside g l =
    l.left ≡ length (rest l.self.numbers.now (g.B.Book.rules l.self.book)) + below (drop l.aside-index l.self.numbers.now) l.all
