-- What go back, look and show answer, by the steps that stand. Assumes nothing.
--     going_back steps n     n; 31 where it is more than the standing steps
--     kept_after steps a     the steps that stand after that answer: the first n, or all of them where it refuses
--     step_check steps s     32 where s is 0 or there is no standing step of this number
--     looking steps s m      whether the mark m stands at step s; 32, then 33 where m is above 1,023
--     shown_of M             how many marks M has, and the lowest of them
--     showing steps s room   the same of the step s; 32, then 35 where there is room for fewer than sixteen words
--     written steps s ws a   the words ws after that answer: the step's sixteen at their front, or as they were where it refuses
use Rattle.std.specs.Prelude.{ℕ, Bool, ◌||◌, List, ◌++◌, length, take, drop, Ok, Err, Option, Result, ◌==◌, nat_lt}
use Rattle.refusals.specs.declared.Told.{Told}
use Rattle.refusals.specs.Telling.{refusal}
use Rattle.refusals.specs.Checks.{refuse_if, ◌⨟◌, passes}
use Rattle.marks.specs.Sets.{Set}
use Rattle.marks.specs.Members.{marks_in, lowest, words_of}
use Rattle.norms.specs.Steps.{Step}
use Rattle.norms.specs.Traces.{of_step}
use Rattle.norms.specs.Scenarios.{marks_of, trace}
use Rattle.review.specs.declared.review.Shown.{Shown}

abbrev pub going_back : List Step → ℕ → Result ℕ Told
going_back steps n = passes n (refuse_if (nat_lt (length steps) n) (refusal 31 (length steps)))

abbrev pub kept_after : List Step → Result ℕ Told → List Step
kept_after steps (Ok n) = take n steps
kept_after steps (Err t) = steps

abbrev pub step_check : List Step → ℕ → Option Told
step_check steps s = refuse_if (s == 0 || nat_lt (length steps) s) (refusal 32 (length steps))

abbrev pub looking : List Step → ℕ → ℕ → Result Bool Told
looking steps s m = passes (trace steps (s, m)) (step_check steps s ⨟ refuse_if (nat_lt 1023 m) (refusal 33 m))

abbrev pub shown_of : Set ℕ → Shown
shown_of M = record { marks = length (marks_in M); lowest = lowest M }

abbrev pub showing : List Step → ℕ → ℕ → Result Shown Told
showing steps s room = passes (shown_of (of_step (marks_of steps) s)) (step_check steps s ⨟ refuse_if (nat_lt room 16) (refusal 35 16))

abbrev pub written : List Step → ℕ → List ℕ → Result Shown Told → List ℕ
written steps s ws (Ok a) = words_of (of_step (marks_of steps) s) ++ drop 16 ws
written steps s ws (Err t) = ws
