-- What is right of a network is right of the bytes that are its design alone.
use Rattle.std.proofs.Common.{List, ℕ, Ok}
use Rattle.bt_net.specs.Network.{Network}
use Rattle.bt_flow.specs.declared.property.Property.{Property}
use Rattle.bt_designs.specs.Alone.{IsLoneNet}
use Rattle.library_verdict.specs.Judging.{IsJudged, IsJudgedOf}
use Rattle.library_verdict.specs.declared.judging.Judged.{Judged}
use Rattle.library_verdict.specs.declared.judging.Judged.TheVariants.{Holds, Fails, Refused, Open}

pub judged_alone : (bytes : List ℕ) (p : Property) (n : Network) → IsLoneNet bytes (Ok n)
    → (judged : Judged) → IsJudgedOf n p judged → IsJudged bytes p judged
judged_alone bytes p n lone (Holds definitions log) h = (n, lone, h)
judged_alone bytes p n lone (Fails state) h = (n, lone, h)
judged_alone bytes p n lone (Refused refusal) h = absurd h
judged_alone bytes p n lone Open h = (n, lone, h)
