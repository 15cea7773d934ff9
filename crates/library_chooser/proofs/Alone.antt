-- What is right of a network is right of the bytes that are its design alone.
use Rattle.std.proofs.Common.{List, ℕ, Ok}
use Rattle.bt_net.specs.Network.{Network}
use Rattle.bt_flow.specs.declared.property.Property.{Property}
use Rattle.bt_designs.specs.Alone.{IsLoneNet}
use Rattle.library_chooser.specs.Deciding.{IsDecided, IsDecidedOf}
use Rattle.library_chooser.specs.declared.deciding.Answer.{Answer}
use Rattle.library_chooser.specs.declared.deciding.Answer.TheVariants.{Holds, Fails, Open, NoDesign}

pub decided_alone : (bytes : List ℕ) (p : Property) (n : Network) → IsLoneNet bytes (Ok n)
    → (answer : Answer) → IsDecidedOf n p answer → IsDecided bytes p answer
decided_alone bytes p n lone Holds h = (n, lone, h)
decided_alone bytes p n lone Fails h = (n, lone, h)
decided_alone bytes p n lone Open h = (n, lone, h)
decided_alone bytes p n lone NoDesign h = absurd h
