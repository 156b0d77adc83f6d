-- A review that hears one call after the other. Assumes nothing.
--     Lists               the said list and the proposed list of a step, as they were handed in
--     steps_by ls         the steps of such lists
--     then ls ask reply   which steps stand after a call and its reply, where those of ls stood before: an accepted proposal adds
--                         the next, going back to n leaves those up to n; any other call, any refused one, and any that
--                         has no reply so far, changes nothing
--     stands ls xs        which steps stand after the exchanges xs, where those of ls stood before
--     Settles rules steps words ask reply after
--                         where these steps stand, the definitions settle the reply so, and the words so; of a proposal
--                         they leave open which mark is shown with a refusal of the step itself
--     Heard rules ls xs   each of the exchanges has a reply, which is so with the steps that stand at its time
use Rattle.std.specs.Prelude.{◌≡◌, ℕ, Bool, false, cond, List, [], ◌∷◌, ◌++◌, map, length, take, is_ok, Option, None, Some, IsSomeAnd, Result}
use Rattle.refusals.specs.declared.Told.{Told}
use Rattle.norms.specs.Programs.{Rule}
use Rattle.norms.specs.Steps.{Step}
use Rattle.review.specs.declared.review.Accepted.{Accepted}
use Rattle.review.specs.Proposals.{Judged, step_by}
use Rattle.review.specs.Listings.{listing}
use Rattle.review.specs.Recalls.{going_back, looking, showing, written}
use Rattle.transcripts.specs.Asks.{Ask, propose, go_back, look, list, show, Reply, judged, went_back, looked, listed, shown, Exchange}

abbrev pub Lists : Type 0
Lists = List ℕ × List ℕ

abbrev pub steps_by : List Lists → List Step
steps_by ls = map (λ (p : Lists). step_by p.0 p.1) ls

-- there is a reply, and it is no refusal
abbrev pub passed : Option Reply → Bool
passed None = false
passed (Some (judged r)) = is_ok r
passed (Some (went_back r)) = is_ok r
passed (Some (looked r)) = is_ok r
passed (Some (listed r)) = is_ok r
passed (Some (shown r)) = is_ok r

abbrev pub then : List Lists → Ask → Option Reply → List Lists
then ls (propose said proposed) reply = cond (passed reply) (ls ++ (said, proposed) ∷ []) ls
then ls (go_back n) reply = cond (passed reply) (take n ls) ls
then ls (look step mark) reply = ls
then ls (list k) reply = ls
then ls (show step) reply = ls

unfoldable pub stands : List Lists → List Exchange → List Lists
stands ls [] = ls
stands ls (x ∷ xs) = stands (then ls x.ask x.reply) xs

module _ (rules : List (Rule ℕ)) where
  abbrev pub Settles : List Step → List ℕ → Ask → Reply → List ℕ → Type 0
  Settles steps words (propose said proposed) reply after =
      ((r : Result Accepted Told) × (reply ≡ judged r) × Judged rules steps said proposed r) × (after ≡ words)
  Settles steps words (go_back n) reply after = (reply ≡ went_back (going_back steps n)) × (after ≡ words)
  Settles steps words (look s m) reply after = (reply ≡ looked (looking steps s m)) × (after ≡ words)
  Settles steps words (list k) reply after = (reply ≡ listed (listing steps k)) × (after ≡ words)
  Settles steps words (show s) reply after =
      (reply ≡ shown (showing steps s (length words))) × (after ≡ written steps s words (showing steps s (length words)))

  unfoldable pub Heard : List Lists → List Exchange → Type 0
  Heard ls [] = Unit {0}
  Heard ls (x ∷ xs) = IsSomeAnd x.reply (λ reply. Settles (steps_by ls) x.words x.ask reply x.after) × Heard (then ls x.ask x.reply) xs
