use Rattle.bt_model.specs.Requests.{line_of}
use Rattle.bt_model.specs.RequestFaults.{IsOutOfPlace, NameOneEnd}
use Rattle.bt_model.specs.inner.Least.{IsLeastIfAny, IsRefusedBelow}
use Rattle.bt_model.proofs.refusing.refused_demand.Given as goal

abbrev pub invariant-loop-k : goal.invariant-loop-k
invariant-loop-k l = IsLeastIfAny (IsRefusedBelow (IsOutOfPlace l.net l.rect) NameOneEnd line_of l.demands l.k) l.least
