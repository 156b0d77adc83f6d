-- A set of marks and its sixteen words. Assumes nothing.
use Rattle.std.proofs.Common.{◌≡◌, ℕ, ◌+◌, ◌*◌, ◌/◌, ◌%◌, ◌^◌, ◌<◌, Bool, eqb, List, length, get_or, sym, ap, ◌∙◌, ap₂, arith, Decides}
use Rattle.std.specs.Cmp.Lexicographic.{pointwise}
use Rattle.std.proofs.lemmas.Bool.Decides.{Decides-eqb}
use Rattle.std.proofs.lemmas.Slice.Eq.{slice_eq-Decides}
use Rattle.std.proofs.lemmas.List.{length-map, get_or-map, ext_get_or}
use Rattle.marks.specs.Sets.{Set}
use Rattle.marks.specs.Words.{bit, held, members}
use Rattle.marks.specs.declared.mark_set.MarkSet.{MarkSet}
use Rattle.marks.specs.Members.{counted, number_of, words_of}
use Rattle.marks.proofs.Counted.{length_counted, get_or_counted}
use Rattle.marks.proofs.Numbers.{number_same, number_of_bits}

-- the word at place i
abbrev word : Set ℕ → ℕ → ℕ
word M i = number_of (λ k. M (64 * i + k)) 64

pub length_words_of : (M : Set ℕ) → length (words_of M) ≡ 16
unfolding words_of
length_words_of M = length-map (counted 16) (word M) ∙ length_counted 16

pub get_or_words_of : (M : Set ℕ) (i : ℕ) → i < 16 → get_or (words_of M) i 0 ≡ number_of (λ k. M (64 * i + k)) 64
unfolding words_of
get_or_words_of M i lt = get_or-map (word M) (counted 16) i 0 0 (omega (arith, length_counted 16)) ∙ ap (word M) (get_or_counted 16 i lt)

-- the marks of one word
held_at : (ws : List ℕ) (i k : ℕ) → k < 64 → held ws (64 * i + k) ≡ bit (get_or ws i 0) k
unfolding held
held_at ws i k lt =
    let place : (64 * i + k) / 64 ≡ i = omega arith in
    let rest : (64 * i + k) % 64 ≡ k = omega arith in
    ap₂ (λ p q. bit (get_or ws p 0) q) place rest

-- words are settled by their marks
words_of_held : (ws : List ℕ) → length ws ≡ 16 → ((i : ℕ) → get_or ws i 0 < 2 ^ 64) → ws ≡ words_of (held ws)
words_of_held ws long fits =
    ext_get_or 0 ws (words_of (held ws)) (long ∙ sym (length_words_of (held ws)))
    (λ i lt. sym
    (get_or_words_of (held ws) i (omega arith)
    ∙ number_same (λ k. held ws (64 * i + k)) (bit (get_or ws i 0)) 64 (held_at ws i)
    ∙ number_of_bits (get_or ws i 0) 64 (fits i)))

-- the words of a set
pub words_are : (s : MarkSet) → s.words ≡ words_of (members s)
words_are s = words_of_held s.words s.sixteen s.fits

-- sets of the same marks have the same words, so that a comparison of the words decides whether the marks are the same
same_words : (a b : MarkSet) → members a ≡ members b → a.words ≡ b.words
same_words a b same = words_are a ∙ ap words_of same ∙ sym (words_are b)

pub same_marks : (a b : MarkSet) (r : Bool) → r ≡ pointwise eqb a.words b.words → Decides r (members a ≡ members b)
same_marks a b r e =
    let words = slice_eq-Decides Decides-eqb a.words b.words r e in
    ((λ yes. ap held (words.0 yes)), (λ same. words.1 (same_words a b same)))
