use Rattle.std.proofs.Common.{ℕ, List, [], map, take, refl, arith}
use Rattle.std.specs.List.{flat_map}
use Rattle.bt_flow_formula.specs.declared.state_literal.StateLiteral.{StateLiteral}
use Rattle.bt_flow_formula.specs.Families.{backing_clause}
use Rattle.bt_flow_formula.specs.inner.Variables.{at_in}
use Rattle.bt_arena.proofs.Loops.{taken_more}
use Rattle.bt_flow_formula.proofs.Numbers.{added_more, marks_stay, all_within_more}
use Rattle.bt_flow_formula.proofs.Kept.{within_at}
use Rattle.bt_flow_formula.proofs.splitters.add_backing.Goals as goal

pub add_backing_at-requires : goal.add_backing_at-requires
add_backing_at-requires c =
    let f : ℕ → List (List StateLiteral) = λ a. map (backing_clause c.args.net.now a) c.args.leaving.now in
    let at = at_in c.args.pairs.now in
    let vars = c.args.formula.now.vars in
    all_within_more at vars c.loop-edge.formula.vars (marks_stay at vars c.args.formula.now c.loop-edge.formula _ c.loop-edge.invariant (omega arith)) _
    (within_at at vars f c.args.entering.now c.loop-edge.edge-index 0 c.loop-edge-test.true c.requires)

pub loop-edge-preserved : goal.loop-edge-preserved
loop-edge-preserved c =
    let f : ℕ → List (List StateLiteral) = λ a. map (backing_clause c.args.net.now a) c.args.leaving.now in
    added_more (at_in c.args.pairs.now) c.args.formula.now c.loop-edge.formula c.add_backing_at.new.formula _ _ _ c.loop-edge.invariant c.in_ok-add_backing_at.ensures
    (taken_more f c.args.entering.now [] (flat_map f (take c.loop-edge.edge-index c.args.entering.now)) _ c.loop-edge.edge-index 0 c.loop-edge-test.true refl refl)
