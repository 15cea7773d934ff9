use Rattle.bt_model.specs.Requests.{line_of}
use Rattle.bt_model.specs.RequestFaults.{NameOneEnd}
use Rattle.bt_model.specs.inner.Least.{IsLeastIfAny, IsLaterHere}
use Rattle.bt_model.proofs.refusing.line_refused_by_demand.Given as goal

abbrev pub invariant-loop-j : goal.invariant-loop-j
invariant-loop-j l = IsLeastIfAny (IsLaterHere NameOneEnd line_of l.demands l.k l.j) l.least
