-- What `recover` answers.
use Rattle.std.specs.Prelude.{◌≡◌, ℕ, List, Ok}
use Rattle.bt_print.specs.declared.answer.Answer.TheVariants as answer
use Rattle.bt_designs.specs.Alone.{IsLoneNet}
use Rattle.bt_print.specs.Replies.{Reply, design_told}
use Rattle.bt_designs.specs.Steps.{InTurn}

-- what `recover` answers to bytes: the network of the design that they are, or the first refusal
abbrev pub IsRecoveredFrom : List ℕ → Reply → Type 0
IsRecoveredFrom bytes = InTurn (IsLoneNet bytes) design_told (λ n reply. reply ≡ Ok (answer.Recovered n))
