-- The rules of two books that are joined. Assumes nothing.
use Rattle.std.proofs.Common.{◌≡◌, ℕ, ◌+◌, ◌-◌, ◌<◌, ◌≤◌, ltb, List, ◌++◌, length, Some, None, Ok, Err, Option, Result, sym, ap, ◌∙◌, subst₂, arith}
use Rattle.std.specs.List.{slice_get}
use Rattle.std.specs.Result.{result_ok}
use Rattle.std.proofs.iter.runs.Lists.{nth_left, nth_right}
use Rattle.std.proofs.lemmas.List.{append-nil, length-append}
use Rattle.std.proofs.lemmas.Option.{slice_get_past}
use Rattle.std.proofs.lemmas.Bool.{le-ltb, ltb-false}
use Rattle.refusals.specs.declared.Told.{Told}
use Rattle.refusals.specs.Telling.{refusal, answered}
use Rattle.refusals.specs.Checks.{passes, where_passes}
use Rattle.refusals.proofs.Passed.{test_failed}
use Rattle.refusals.proofs.Refused.{passed_if, passed, refused_by}
use Rattle.norms.specs.Programs.{Rule}
use Rattle.norms.specs.Equal.{Equal}
use Rattle.norms.proofs.Equal.{joined}
use Rattle.joint.specs.Joined.{joint_check, joint_rules, EitherOrder}

-- what `ok` of a call's answer says of its check c
module _ {E : Type 0} (told : E → Told) where
  pub ok_passed : (r : Result (Unit {0}) E) (c : Option Told) → answered told r ≡ passes tt c → result_ok r ≡ Some tt → c ≡ None
  ok_passed (Ok x) c answer ok = (passed x tt c answer).0
  ok_passed (Err e) c answer ok = absurd (let z : ◌≡◌ {A = ℕ} 0 1 = cc in omega arith)

  pub ok_refused : (r : Result (Unit {0}) E) (c : Option Told) → answered told r ≡ passes tt c → result_ok r ≡ None → (t : Told) × (c ≡ Some t)
  ok_refused (Ok x) c answer ok = absurd (let z : ◌≡◌ {A = ℕ} 0 1 = cc in omega arith)
  ok_refused (Err e) c answer ok = (told e, refused_by tt c (told e) answer)

module _ (a b : List (Rule ℕ)) where
  pub few_passes : length a + length b ≤ 1024 → joint_check a b ≡ None
  few_passes few = passed_if (ltb 1024 (length a + length b)) (refusal 12 0) (le-ltb 1024 (length a + length b) few)

  pub passed_few : joint_check a b ≡ None → length a + length b ≤ 1024
  passed_few passed = ltb-false 1024 (length a + length b) (test_failed _ _ passed)

  pub rules_passed : joint_check a b ≡ None → joint_rules a b ≡ a ++ b
  rules_passed passed = ap (λ c. a ++ where_passes c b) passed

  pub size : joint_check a b ≡ None → length (joint_rules a b) ≡ length a + length b
  size passed = ap length (rules_passed passed) ∙ length-append a b

  pub rules_refused : (t : Told) → joint_check a b ≡ Some t → joint_rules a b ≡ a
  rules_refused t refused = ap (λ c. a ++ where_passes c b) refused ∙ append-nil a

  module _ (n : ℕ) where
    pub place_first : n < length a → slice_get a n ≡ slice_get (joint_rules a b) n
    place_first below = sym (nth_left a (where_passes (joint_check a b) b) n below)

    pub place_second : joint_check a b ≡ None → length a ≤ n → slice_get b (n - length a) ≡ slice_get (joint_rules a b) n
    place_second passed past =
        let back : length a + (n - length a) ≡ n = omega arith in
        sym (ap (λ r. slice_get r n) (rules_passed passed) ∙ ap (slice_get (a ++ b)) (sym back) ∙ nth_right a b (n - length a))

    pub place_past : (t : Told) × (joint_check a b ≡ Some t) → length a ≤ n → None ≡ slice_get (joint_rules a b) n
    place_past (t, refused) past = sym (ap (λ r. slice_get r n) (rules_refused t refused) ∙ slice_get_past a n past)

pub either_order : (a b : List (Rule ℕ)) → EitherOrder a b
either_order a b passed =
    let turned : joint_check b a ≡ None = few_passes b a (omega (arith, passed_few a b passed)) in
    subst₂ Equal (sym (rules_passed a b passed)) (sym (rules_passed b a turned)) (joined a b)
