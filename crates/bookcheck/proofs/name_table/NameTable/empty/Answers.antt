use Rattle.std.proofs.Common.{arith}
use Rattle.refusals.proofs.First.{first_none}
use Rattle.refusals.proofs.Passed.{is_none}
use Rattle.bookcheck.specs.Checks.{name_check}
use Rattle.bookcheck.proofs.Walk.{name_at_none}
use Rattle.bookcheck.proofs.name_table.NameTable.empty.Goals as goal

pub invariant_of-result : goal.invariant_of-result
invariant_of-result c = record {
  within = omega (arith, name_at_none c.args.bytes.now 0);
  checked = is_none _ (first_none (name_check c.args.bytes.now 0));
}
