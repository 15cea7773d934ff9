use Rattle.std.proofs.Common.{sym, subst}
use Rattle.bt_place.specs.Solutions.{IsSolution}
use Rattle.bt_layout.specs.inner.Likely.{Solves}
use Rattle.bt_layout.proofs.likely.trial_of.Goals as goal

pub decode-requires : goal.decode-requires
decode-requires c = subst (IsSolution c.args.request.now) (sym c.deref.ensures.value) (subst (Solves c.args.request.now) c.in-Model.is c.requires)
