use Rattle.std.proofs.Common.{[], map, take, get_or, refl, arith}
use Rattle.bt_flow_formula.specs.Families.{backing_clause}
use Rattle.bt_flow_formula.specs.inner.Variables.{at_in}
use Rattle.bt_arena.proofs.Loops.{mapped_more}
use Rattle.bt_flow_formula.proofs.Numbers.{added_more, marks_stay, within_more}
use Rattle.bt_flow_formula.proofs.Kept.{clause_at}
use Rattle.bt_flow_formula.proofs.splitters.add_backing_at.Goals as goal

pub add_backing_of-requires : goal.add_backing_of-requires
add_backing_of-requires c =
    let f = backing_clause c.args.net.now c.args.entering in
    let at = at_in c.args.pairs.now in
    let vars = c.args.formula.now.vars in
    within_more at vars c.loop-edge.formula.vars (marks_stay at vars c.args.formula.now c.loop-edge.formula _ c.loop-edge.invariant (omega arith)) (f (get_or c.args.leaving.now c.loop-edge.edge-index 0))
    (clause_at at vars f c.args.leaving.now c.loop-edge.edge-index 0 c.loop-edge-test.true c.requires)

pub loop-edge-preserved : goal.loop-edge-preserved
loop-edge-preserved c =
    let f = backing_clause c.args.net.now c.args.entering in
    added_more (at_in c.args.pairs.now) c.args.formula.now c.loop-edge.formula c.add_backing_of.new.formula _ _ _ c.loop-edge.invariant c.in_ok-add_backing_of.ensures
    (mapped_more f c.args.leaving.now [] (map f (take c.loop-edge.edge-index c.args.leaving.now)) _ c.loop-edge.edge-index 0 c.loop-edge-test.true refl refl)
