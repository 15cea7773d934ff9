use Rattle.std.proofs.Common.{◌++◌, ◌∷◌, [], cond, append-nil, sym, ◌∙◌, ap}
use Rattle.bt_demands.specs.Classes.{class_of}
use Rattle.bt_demands.specs.Pinning as pinning
use Rattle.bt_facts.specs.declared.fact.Fact.TheVariants as fact
use Rattle.bt_facts.specs.Rules.{some_of}
use Rattle.bt_arena.proofs.Loops.{taken_more, taken_all}
use Rattle.bt_facts.proofs.Drawn.{made_flat}
use Rattle.bt_demands.proofs.pinning.add_pin_classes.Goals as goal

pub loop-edge-init : goal.loop-edge-init
loop-edge-init c = sym (append-nil c.args.draft.now)

pub loop-edge-preserved : goal.loop-edge-preserved
loop-edge-preserved c = taken_more (λ e. cond (pinning.is_edge_of c.args.end e) (some_of (fact.Carries c.args.cell (class_of c.args.demands.now e) ∷ []) ∷ []) []) c.args.edges.now c.args.draft.now c.loop-edge.draft c.add_pin_class.new.draft c.loop-edge.edge-index _ c.loop-edge-test.true c.loop-edge.invariant (c.in_ok-add_pin_class.ensures)

pub returns : goal.returns
returns c = taken_all (λ e. cond (pinning.is_edge_of c.args.end e) (some_of (fact.Carries c.args.cell (class_of c.args.demands.now e) ∷ []) ∷ []) []) c.args.edges.now c.args.draft.now c.loop-edge.draft c.loop-edge.edge-index c.loop-edge-test.false c.loop-edge.invariant ∙ ap (λ l. c.args.draft.now ++ l) (sym (made_flat (λ e. some_of (fact.Carries c.args.cell (class_of c.args.demands.now e) ∷ [])) (pinning.is_edge_of c.args.end) c.args.edges.now))
