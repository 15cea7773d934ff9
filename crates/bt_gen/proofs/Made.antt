-- One answer is right to an order.
use Rattle.std.proofs.Common.{ℕ, sym, ◌∙◌, ap}
use Rattle.std.specs.Prelude.{Result, Ok, Err}
use Rattle.bt_text.specs.Answers.{UnlessMemory, Answers, HasOneAnswer}
use Rattle.bt_text.proofs.OneAnswer.{answers_of}
use Rattle.bt_net.specs.Network.{Network}
use Rattle.bt_gen.specs.declared.fault.GenFault.{GenFault}
use Rattle.bt_gen.specs.declared.fault.GenFault.TheVariants.{Order, Memory}
use Rattle.bt_gen.specs.Orders.{IsGenerated}

pub one_made : (most : ℕ) (made : ℕ → Network) (order : ℕ) → HasOneAnswer (IsGenerated most made order)
one_made most made order (Ok m) (Ok n) p q = ap Ok (p.1 ∙ sym q.1)
one_made most made order (Ok m) (Err (Order k)) p q = absurd (q.0 p.0)
one_made most made order (Ok m) (Err Memory) p q = absurd q
one_made most made order (Err (Order k)) (Ok n) p q = absurd (p.0 q.0)
one_made most made order (Err (Order k)) (Err (Order j)) p q = ap (λ x. Err (Order x)) (p.1 ∙ sym q.1)
one_made most made order (Err (Order k)) (Err Memory) p q = absurd q
one_made most made order (Err Memory) b p q = absurd p

-- what a call owes that makes the network of an order
pub made_answers : (most : ℕ) (made : ℕ → Network) (order : ℕ) (told : Result Network GenFault) → UnlessMemory Memory (IsGenerated most made order) told → Answers Memory (IsGenerated most made order) told
made_answers most made order told right = answers_of Memory (IsGenerated most made order) (one_made most made order) told right
