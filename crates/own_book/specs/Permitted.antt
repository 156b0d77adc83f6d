-- The rules of a permission. Assumes nothing.
--     permitted p         one rule: enabled of the act requires holds of the fact
--     sound_permitted p   it keeps the bounds of a book; the proof that the interface of a book asks for
use Rattle.std.specs.Prelude.{ℕ, List, [], ◌∷◌}
use Rattle.std.proofs.Common.{arith}
use Rattle.marks.specs.Numbers.{mark, holds, enabled}
use Rattle.norms.specs.Programs.{Rule}
use Rattle.norms.specs.Rules.{SoundBook}
use Rattle.own_book.specs.declared.permission.Permission.{Permission}

abbrev pub permitted : Permission → List (Rule ℕ)
permitted p = record { head = mark p.act.number enabled; required = mark p.fact.number holds ∷ []; barred = [] } ∷ []

pub sound_permitted : (p : Permission) → SoundBook (permitted p)
sound_permitted p =
    record {
      few = omega arith;
      each = (
        record {
          low = omega (arith, p.act.low);
          not_carried = λ e. omega arith;
          not_breached = λ e. omega arith;
          few = omega arith;
          body_low = (omega (arith, p.fact.low), tt);
        },
        tt,
      );
    }
