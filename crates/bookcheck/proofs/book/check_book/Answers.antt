use Rattle.std.proofs.Common.{Ok, arith}
use Rattle.bookcheck.specs.Faults.{book_told}
use Rattle.bookcheck.proofs.Law.{call_law}
use Rattle.bookcheck.proofs.book.check_book.Goals as goal

pub returns-clause-law : goal.returns-clause-law
returns-clause-law c = call_law book_told (Ok tt) c.args.bytes.now (λ i. let f = c.type_inv.bytes i in omega arith) c.in_ok-read_book.ensures.answer
