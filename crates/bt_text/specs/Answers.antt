-- What a call tells that has one right answer to each input.
use Rattle.std.specs.Prelude.{◌≡◌, Result, Ok, Err, ◌⊎◌}

-- what an answer tells, where its value is seen by view
abbrev pub seen : {X V E : Type 0} → (X → V) → Result X E → Result V E
seen view (Ok x) = Ok (view x)
seen view (Err e) = Err e

-- what the answer tells has P, unless it is the fault that tells want of memory
abbrev pub UnlessMemory : {V E : Type 0} → E → (Result V E → Type 0) → Result V E → Type 0
UnlessMemory memory P (Ok v) = P (Ok v)
UnlessMemory memory P (Err e) = P (Err e) ⊎ (e ≡ memory)

-- two right answers are equal
abbrev pub HasOneAnswer : {V E : Type 0} → (Result V E → Type 0) → Type 0
HasOneAnswer {V} {E} IsRight = (a b : Result V E) → IsRight a → IsRight b → a ≡ b

-- what is told is a right answer, and any right answer is what is told, unless memory ran out
pub record Answers {V E : Type 0} (memory : E) (IsRight : Result V E → Type 0) (told : Result V E) : Type 0 where
  pub right : UnlessMemory memory IsRight told
  pub only : (answer : Result V E) → IsRight answer → UnlessMemory memory (λ t. t ≡ answer) told

-- what is told is a right answer, and any right answer is what is told: of a call that takes no memory
pub record AnswersAlways {V E : Type 0} (IsRight : Result V E → Type 0) (told : Result V E) : Type 0 where
  pub right : IsRight told
  pub only : (answer : Result V E) → IsRight answer → told ≡ answer
