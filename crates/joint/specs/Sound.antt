-- The rules of a joint book keep the bounds of a book: the proof that the interface of a book asks for. It stands here
-- since an impl can take it from no other place, and need not be read. Assumes nothing.
use Rattle.std.specs.Prelude.{◌≡◌, ℕ, List, ◌++◌, Some, None, Option, refl}
use Rattle.std.proofs.Common.{sym, subst, arith}
use Rattle.std.proofs.lemmas.List.{length-append, append-nil}
use Rattle.std.proofs.ByRecursion.{All-append}
use Rattle.std.proofs.lemmas.Bool.{ltb-false}
use Rattle.refusals.specs.declared.Told.{Told}
use Rattle.refusals.specs.Checks.{where_passes}
use Rattle.refusals.proofs.Passed.{test_failed}
use Rattle.norms.specs.Programs.{Rule}
use Rattle.norms.specs.Rules.{SoundRule, SoundBook}
use Rattle.joint.specs.Joined.{joint_check, joint_rules}

pub sound_joint : (a b : List (Rule ℕ)) → SoundBook a → SoundBook b → SoundBook (joint_rules a b)
sound_joint a b first second = by_check (joint_check a b) refl
  where
    by_check : (c : Option Told) → joint_check a b ≡ c → SoundBook (a ++ where_passes c b)
    by_check None passed =
        record {
          few = omega (arith, length-append a b, ltb-false _ _ (test_failed _ _ passed));
          each = All-append SoundRule a b first.each second.each;
        }
    by_check (Some t) refused = subst SoundBook (sym (append-nil a)) first
