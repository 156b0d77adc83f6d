-- Rules over marks of any kind, and their stable models. Assumes nothing.
--     Rule A             a rule: its head, and its body of required and barred marks
--     Program A          a collection of rules, by which rules are in it
--     Stays M r          r stays in the reduct by M: it bars no mark of M
--     Met S r            each mark that r requires is in S
--     Closed P M S       S is closed under the reduct of P by M
--     Smallest P M G L   L is the smallest set that contains G and is closed under the reduct of P by M
--     Stable P G M       M is a stable model of P over the given marks G
--     Brings P M S m     some rule of the reduct with its required marks in S has the head m
--     Round P M S R      one round leads from S to R: it adds the heads of all rules of the reduct whose
--                        required marks stood when the round began
--     Grows S R          R has a mark that S lacks
--     Rounds P M G n S   n rounds from G, each of which adds a mark, lead to S
--     Depth P M G d L    d rounds add a mark, and lead to L, which a further round leaves as it is
use Rattle.std.specs.Prelude.{◌≡◌, ℕ, suc, false, ◌⊎◌, ◌↔◌, List}
use Rattle.std.specs.List.{AllByRecursion}
use Rattle.marks.specs.Sets.{Set, ◌∈◌, ◌⊆◌}

pub record Rule (A : Type 0) : Type 0 where
  pub head : A
  pub required : List A
  pub barred : List A

abbrev pub Program : Type 0 → Type 1
Program A = Rule A → Type 0

module _ {A : Type 0} where
  abbrev pub Stays : Set A → Rule A → Type 0
  Stays M r = AllByRecursion (λ b. M b ≡ false) r.barred

  abbrev pub Met : Set A → Rule A → Type 0
  Met S r = AllByRecursion (λ a. a ∈ S) r.required

  abbrev pub Closed : Program A → Set A → Set A → Type 0
  Closed P M S = (r : Rule A) → P r → Stays M r → Met S r → r.head ∈ S

  pub record Smallest (P : Program A) (M G L : Set A) : Type 0 where
    pub given : G ⊆ L
    pub closed : Closed P M L
    pub least : (S : Set A) → G ⊆ S → Closed P M S → L ⊆ S

  abbrev pub Stable : Program A → Set A → Set A → Type 0
  Stable P G M = Smallest P M G M

  abbrev pub Brings : Program A → Set A → Set A → A → Type 0
  Brings P M S m = (r : Rule A) × P r × Stays M r × Met S r × (r.head ≡ m)

  abbrev pub Round : Program A → Set A → Set A → Set A → Type 0
  Round P M S R = (m : A) → (m ∈ R) ↔ ((m ∈ S) ⊎ Brings P M S m)

  abbrev pub Grows : Set A → Set A → Type 0
  Grows S R = (m : A) × (m ∈ R) × (S m ≡ false)

  pub data Rounds (P : Program A) (M G : Set A) : ℕ → Set A → Type 0 where
    none : Rounds P M G 0 G
    more : {n : ℕ} {S R : Set A} → Rounds P M G n S → Round P M S R → Grows S R → Rounds P M G (suc n) R

  pub record Depth (P : Program A) (M G : Set A) (d : ℕ) (L : Set A) : Type 0 where
    pub rounds : Rounds P M G d L
    pub rests : Round P M L L
