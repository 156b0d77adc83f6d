-- What is known of the steps that stand after some exchanges. Assumes nothing.
--     Entered p          the lists p of a step passed their checks
--     Sound rules ls     each step of the lists ls is stable over what it is given, and the lists passed their checks
use Rattle.std.proofs.Common.{ℕ, ◌<◌, eqb, List, [], ◌∷◌, ◌++◌, take, Ok, Err, Option, None, Some, IsSomeAnd, Result, sym, refl, subst, arith}
use Rattle.std.specs.List.{AllByRecursion}
use Rattle.std.proofs.lemmas.List.{map_push, take-map}
use Rattle.std.proofs.ByRecursion.{All-push, All-take}
use Rattle.std.proofs.lemmas.Bool.{ne_eqb, or_from, cond_both}
use Rattle.refusals.specs.declared.Told.{Told}
use Rattle.marks.specs.Sets.{among}
use Rattle.norms.specs.Programs.{Rule}
use Rattle.norms.specs.Scenarios.{marks_of}
use Rattle.norms.specs.Laws.{Low}
use Rattle.norms.proofs.Scenarios.{EachStep, no_step, steps_taken, steps_more}
use Rattle.review.specs.declared.review.Accepted.{Accepted}
use Rattle.review.specs.Proposals.{Judged, step_by}
use Rattle.review.proofs.Settling.{settled}
use Rattle.transcripts.specs.Asks.{Ask, propose, go_back, look, list, show, Reply, judged, Exchange}
use Rattle.transcripts.specs.Hearing.{Lists, steps_by, passed, then, stands, Settles, Heard}
use Rattle.two_reviews.specs.Law.{Rising}
use Rattle.two_reviews.proofs.Checked.{free_exactly}

pub record Entered (p : Lists) : Type 0 where
  pub rising : Rising p.0
  pub low : AllByRecursion (λ m. m < 1024) p.1

pub record Sound (rules : List (Rule ℕ)) (ls : List Lists) : Type 0 where
  pub each : EachStep rules (steps_by ls)
  pub entered : AllByRecursion Entered ls

-- the marks of low lists
pub low_among : (xs : List ℕ) → AllByRecursion (λ m. m < 1024) xs → Low (among xs)
low_among [] each m high = refl
low_among (x ∷ xs) each m high =
    or_from (eqb m x) (among xs m) (ne_eqb m x (λ same. omega (arith, each.0))) (low_among xs each.1 m high)

pub low_steps : (ls : List Lists) → AllByRecursion Entered ls → AllByRecursion Low (marks_of (steps_by ls))
low_steps [] entered = tt
low_steps (p ∷ ls) entered = (low_among p.1 entered.0.low, low_steps ls entered.1)

module _ (rules : List (Rule ℕ)) where
  sound_none : Sound rules []
  sound_none = record { each = no_step rules; entered = tt }

  sound_taken : (n : ℕ) (ls : List Lists) → Sound rules ls → Sound rules (take n ls)
  sound_taken n ls sound =
      record {
        each = subst (EachStep rules) (take-map (λ (p : Lists). step_by p.0 p.1) n ls) (steps_taken rules n (steps_by ls) sound.each);
        entered = All-take Entered n ls sound.entered;
      }

  sound_more : (ls : List Lists) (said proposed : List ℕ) (a : Accepted)
      → Sound rules ls → Judged rules (steps_by ls) said proposed (Ok a) → Sound rules (ls ++ (said, proposed) ∷ [])
  sound_more ls said proposed a sound answer =
      let passes = ((settled rules (steps_by ls) said proposed).exactly (Ok a) answer).0 refl in
      let free = (free_exactly (steps_by ls) said proposed).0 passes.0 in
      record {
        each =
            subst (EachStep rules) (sym (map_push (λ (p : Lists). step_by p.0 p.1) ls (said, proposed)))
            (steps_more rules (steps_by ls) (step_by said proposed) sound.each passes.1);
        entered = All-push Entered ls (said, proposed) sound.entered (record { rising = free.said_rising; low = free.proposed_low });
      }

  sound_judged : (ls : List Lists) (said proposed : List ℕ) (r : Result Accepted Told)
      → Sound rules ls → Judged rules (steps_by ls) said proposed r → Sound rules (then ls (propose said proposed) (Some (judged r)))
  sound_judged ls said proposed (Ok a) sound answer = sound_more ls said proposed a sound answer
  sound_judged ls said proposed (Err t) sound answer = sound

  -- a call that is answered as it should be
  sound_then : (ls : List Lists) (words : List ℕ) (ask : Ask) (reply : Reply) (after : List ℕ)
      → Sound rules ls → Settles rules (steps_by ls) words ask reply after → Sound rules (then ls ask (Some reply))
  sound_then ls words (propose said proposed) reply after sound ((r, same, answer), kept) =
      subst (λ x. Sound rules (then ls (propose said proposed) (Some x))) (sym same) (sound_judged ls said proposed r sound answer)
  sound_then ls words (go_back n) reply after sound settles =
      cond_both (passed (Some reply)) (take n ls) ls (Sound rules) (λ _. sound_taken n ls sound) (λ _. sound)
  sound_then ls words (look s m) reply after sound settles = sound
  sound_then ls words (list k) reply after sound settles = sound
  sound_then ls words (show s) reply after sound settles = sound

  -- an exchange that has its reply
  sound_heard : (ls : List Lists) (words : List ℕ) (ask : Ask) (reply : Option Reply) (after : List ℕ)
      → Sound rules ls → IsSomeAnd reply (λ r. Settles rules (steps_by ls) words ask r after) → Sound rules (then ls ask reply)
  sound_heard ls words ask None after sound answered = absurd answered
  sound_heard ls words ask (Some reply) after sound answered = sound_then ls words ask reply after sound answered

  sound_after : (ls : List Lists) (xs : List Exchange) → Sound rules ls → Heard rules ls xs → Sound rules (stands ls xs)
  unfolding stands Heard
  sound_after ls [] sound heard = sound
  sound_after ls (x ∷ xs) sound heard =
      sound_after (then ls x.ask x.reply) xs (sound_heard ls x.words x.ask x.reply x.after sound heard.0) heard.1

  pub sound_stands : (xs : List Exchange) → Heard rules [] xs → Sound rules (stands [] xs)
  sound_stands xs heard = sound_after [] xs sound_none heard
