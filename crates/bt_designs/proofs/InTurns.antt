-- What two steps answer in turn.
use Rattle.std.proofs.Common.{◌≡◌, Result, Ok, Err, inl, inr, sym, ap, ◌∙◌, subst}
use Rattle.bt_text.specs.Answers.{UnlessMemory, HasOneAnswer}
use Rattle.bt_designs.specs.Steps.{InTurn, stopped, went_on}

-- equal answers have equal values, or equal faults, and no answer has both
pub same_value : {A E : Type 0} (v w : A) → ◌≡◌ {A = Result A E} (Ok v) (Ok w) → v ≡ w
same_value v w e = cc

pub same_fault : {A E : Type 0} (e f : E) → ◌≡◌ {A = Result A E} (Err e) (Err f) → e ≡ f
same_fault e f i = cc

pub not_both : {A E : Type 0} (v : A) (e : E) → ◌≡◌ {A = Result A E} (Ok v) (Err e) → ⊥
not_both v e i = cc

-- two steps have one answer where the first has one, and the second has one to what the first may give
pub one_in_turn_of : {A B E F : Type 0} (First : Result A E → Type 0) (told : E → Result B F) (Second : A → Result B F → Type 0)
    → HasOneAnswer First → ((value : A) → First (Ok value) → HasOneAnswer (Second value)) → HasOneAnswer (InTurn First told Second)
one_in_turn_of First told Second one two a b (stopped e h i) (stopped f k j) = i ∙ ap told (same_fault e f (one (Err e) (Err f) h k)) ∙ sym j
one_in_turn_of First told Second one two a b (stopped e h i) (went_on v k j) = absurd (not_both v e (one (Ok v) (Err e) k h))
one_in_turn_of First told Second one two a b (went_on v h i) (stopped e k j) = absurd (not_both v e (one (Ok v) (Err e) h k))
one_in_turn_of First told Second one two a b (went_on v h i) (went_on w k j) =
    two v h a b i (subst (λ x. Second x b) (sym (same_value v w (one (Ok v) (Ok w) h k))) j)

-- two steps have one answer where each has one
pub one_in_turn : {A B E F : Type 0} (First : Result A E → Type 0) (told : E → Result B F) (Second : A → Result B F → Type 0)
    → HasOneAnswer First → ((value : A) → HasOneAnswer (Second value)) → HasOneAnswer (InTurn First told Second)
one_in_turn First told Second one two = one_in_turn_of First told Second one (λ value first. two value)

-- the second step's answer is that of both
pub went : {A B E F : Type 0} (memory : F) (First : Result A E → Type 0) (told : E → Result B F) (Second : A → Result B F → Type 0) (value : A) (answer : Result B F)
    → First (Ok value) → UnlessMemory memory (Second value) answer → UnlessMemory memory (InTurn First told Second) answer
went memory First told Second value (Ok b) h k = went_on value h k
went memory First told Second value (Err f) h (inl k) = inl (went_on value h k)
went memory First told Second value (Err f) h (inr m) = inr m

-- the first step's fault is told
pub stops : {A B E F : Type 0} (low : E) (memory : F) (First : Result A E → Type 0) (told : E → Result B F) (Second : A → Result B F → Type 0)
    (fault : E) (answer : Result B F) → told low ≡ Err memory → UnlessMemory low First (Err fault) → answer ≡ told fault
    → UnlessMemory memory (InTurn First told Second) answer
stops low memory First told Second fault (Ok b) m (inl h) e = stopped fault h e
stops low memory First told Second fault (Err f) m (inl h) e = inl (stopped fault h e)
stops low memory First told Second fault (Ok b) m (inr h) e = absurd (not_both b memory (e ∙ ap told h ∙ m))
stops low memory First told Second fault (Err f) m (inr h) e = inr (same_fault f memory (e ∙ ap told h ∙ m))

-- what is right of one kind is right of another
pub weaker : {B F : Type 0} (memory : F) (P Q : Result B F → Type 0) (answer : Result B F) → ((r : Result B F) → P r → Q r)
    → UnlessMemory memory P answer → UnlessMemory memory Q answer
weaker memory P Q (Ok b) more h = more (Ok b) h
weaker memory P Q (Err f) more (inl h) = inl (more (Err f) h)
weaker memory P Q (Err f) more (inr m) = inr m
