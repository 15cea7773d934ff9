use Rattle.std.proofs.Common.{◌∙◌, ◌+◌, sym, subst, arith}
use Rattle.std.proofs.lemmas.Bool.{iff_false}
use Rattle.std.proofs.lemmas.Option.{slice_get-get_or}
use Rattle.bt_model.specs.Requests.{line_of}
use Rattle.bt_model.specs.RequestFaults.{IsOutOfPlace, NameOneEnd}
use Rattle.bt_model.specs.inner.Least.{IsLeastIfAny, MayPrecede, IsRefusedBelow}
use Rattle.bt_model.proofs.Leasts.{below_step, below_skip, below_all}
use Rattle.bt_model.proofs.refusing.refused_demand.Goals as goal
use Rattle.bt_model.proofs.refusing.refused_demand.Goals.{then-may_precede, else-may_precede}

pub loop-k-preserved : goal.loop-k-preserved
loop-k-preserved c =
    let is_one = (slice_get-get_or c.args.demands.now c.loop-k.k _ c.loop-k-test.true) in
    elim c.if-may_precede.branch [
      | then-may_precede w ↦ subst (λ o. IsLeastIfAny (IsRefusedBelow (IsOutOfPlace c.args.net.now c.args.rect) NameOneEnd line_of c.args.demands.now (c.loop-k.k + 1)) o) (sym (w.least-is ∙ w.earlier-least.ensures))
          (below_step (IsOutOfPlace c.args.net.now c.args.rect) NameOneEnd line_of c.args.demands.now c.loop-k.k c.loop-k.least w.line_refused_by_demand.result c.loop-k.invariant w.line_refused_by_demand.ensures)
      | else-may_precede w ↦ subst (λ o. IsLeastIfAny (IsRefusedBelow (IsOutOfPlace c.args.net.now c.args.rect) NameOneEnd line_of c.args.demands.now (c.loop-k.k + 1)) o) (sym w.least-is)
          (below_skip (IsOutOfPlace c.args.net.now c.args.rect) NameOneEnd line_of c.args.demands.now c.loop-k.k _ c.loop-k.least is_one (subst (λ l. MayPrecede l c.loop-k.least → ⊥) c.line_of.ensures (iff_false c.may_precede.ensures w.if-may_precede.false)) c.loop-k.invariant)
    ]

pub returns : goal.returns
returns c = below_all (IsOutOfPlace c.args.net.now c.args.rect) NameOneEnd line_of c.args.demands.now c.loop-k.least
    (subst (λ k. IsLeastIfAny (IsRefusedBelow (IsOutOfPlace c.args.net.now c.args.rect) NameOneEnd line_of c.args.demands.now k) c.loop-k.least) (omega arith) c.loop-k.invariant)
