-- A right answer is the only one, where two right answers are equal.
use Rattle.std.specs.Prelude.{Result, Ok, Err}
use Rattle.std.proofs.Common.{inl, inr}
use Rattle.bt_text.specs.Answers.{UnlessMemory, Answers, AnswersAlways, HasOneAnswer}

-- what a body owes where its crate has proved that two right answers are equal
pub answers_of : {V E : Type 0} (memory : E) (IsRight : Result V E → Type 0) → HasOneAnswer IsRight → (told : Result V E) → UnlessMemory memory IsRight told → Answers memory IsRight told
answers_of memory IsRight one (Ok x) r = record { right = r; only = λ answer a. one (Ok x) answer r a }
answers_of memory IsRight one (Err e) (inl r) = record { right = inl r; only = λ answer a. inl (one (Err e) answer r a) }
answers_of memory IsRight one (Err e) (inr m) = record { right = inr m; only = λ answer a. inr m }

-- the same of a call that takes no memory
pub answers_always_of : {V E : Type 0} (IsRight : Result V E → Type 0) → HasOneAnswer IsRight → (told : Result V E) → IsRight told → AnswersAlways IsRight told
answers_always_of IsRight one told r = record { right = r; only = λ answer a. one told answer r a }
