-- What is asked of a review, and what it replies. Assumes nothing.
--     Ask        a call with its arguments
--     Reply      the values of its answer, or the refusal
--     Exchange   what was asked and the words that were lent with it, the reply, or none so far, and what these words held
--                afterwards
use Rattle.std.specs.Prelude.{ℕ, Bool, List, Option, Result}
use Rattle.refusals.specs.declared.Told.{Told}
use Rattle.review.specs.declared.review.Accepted.{Accepted}
use Rattle.review.specs.declared.review.Shown.{Shown}

pub data Ask : Type 0 where
  propose : (said proposed : List ℕ) → Ask
  go_back : (n : ℕ) → Ask
  look : (step mark : ℕ) → Ask
  list : (k : ℕ) → Ask
  show : (step : ℕ) → Ask

pub data Reply : Type 0 where
  judged : Result Accepted Told → Reply
  went_back : Result ℕ Told → Reply
  looked : Result Bool Told → Reply
  listed : Result (ℕ × ℕ) Told → Reply
  shown : Result Shown Told → Reply

pub record Exchange : Type 0 where
  pub ask : Ask
  pub words : List ℕ
  pub reply : Option Reply
  pub after : List ℕ
