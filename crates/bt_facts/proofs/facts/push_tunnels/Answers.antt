use Rattle.std.proofs.Common.{◌++◌, ◌∷◌, [], ◌-◌, append-nil, sym, ◌∙◌, arith, ap}
use Rattle.bt_parts.specs.Cells.{steps}
use Rattle.bt_facts.specs.declared.fact.Fact.TheVariants as fact
use Rattle.bt_arena.proofs.Loops.{one_from_more, one_from_all}
use Rattle.bt_facts.proofs.facts.push_tunnels.Goals as goal

pub loop-place-init : goal.loop-place-init
loop-place-init c = sym (append-nil c.args.facts.now.items)

pub loop-place-preserved : goal.loop-place-preserved
loop-place-preserved c = one_from_more (λ j. fact.Tunnel (steps j c.args.dir c.args.cell) c.args.dir) c.args.facts.now.items c.loop-place.facts.items c.push.new.self.items c.loop-place.place (omega arith) c.loop-place.invariant (c.in_ok-push.ensures.items ∙ ap (λ to. c.loop-place.facts.items ++ fact.Tunnel to c.args.dir ∷ []) c.far.ensures)

pub returns : goal.returns
returns c = one_from_all (λ j. fact.Tunnel (steps j c.args.dir c.args.cell) c.args.dir) c.args.facts.now.items c.loop-place.facts.items c.loop-place.place (c.args.distance - 1) (omega arith) c.loop-place.invariant
