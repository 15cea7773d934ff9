use Rattle.std.proofs.Common.{IfOk, subst}
use Rattle.bt_cnf.specs.Formulas.{FormulaParts}
use Rattle.bt_sat.specs.inner.Loading.{IsLoaded}
use Rattle.bt_sat.proofs.loading.load.Goals as goal

pub started-requires-clause-logged : goal.started-requires-clause-logged
started-requires-clause-logged c = c.in_ok-known.ensures.logged c.args.limit

pub returns : goal.returns
returns c = subst (λ (f : FormulaParts). IfOk c.started.result (IsLoaded f c.args.limit)) c.in_ok-known.ensures.formula c.started.ensures
