use Rattle.std.proofs.Common.{ap, eq-eqb}
use Rattle.std.proofs.lemmas.Bool.{eqb-true, false≢true}
use Rattle.std.proofs.lemmas.Option.{same_Some, none-some}
use Rattle.std.proofs.Common.{Some}
use Rattle.bt_model.proofs.giving.pair.Goals as goal

pub returns-in-Some : goal.returns-in-Some
returns-in-Some c = (
  λ t. (c.in-Some.ensures.pair c.args.b).0 (ap Some (eqb-true c.in-Some.exit c.args.b t)),
  λ pair. eq-eqb c.in-Some.exit c.args.b (same_Some c.in-Some.exit c.args.b ((c.in-Some.ensures.pair c.args.b).1 pair)),
)

pub returns-in-None : goal.returns-in-None
returns-in-None c = (
  λ t. absurd (false≢true t),
  λ pair. absurd (none-some c.args.b ((c.in-None.ensures.pair c.args.b).1 pair)),
)
