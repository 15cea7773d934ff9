use Rattle.std.proofs.Common.{◌++◌, map, append-nil, sym, ◌∙◌, ap}
use Rattle.bt_facts.specs.Spots.{dirs}
use Rattle.bt_facts.specs.Facts as told
use Rattle.bt_arena.proofs.Loops.{taken_more, taken_all}
use Rattle.bt_rules.proofs.contents.push_turned.Goals as goal

pub loop-shape-init : goal.loop-shape-init
loop-shape-init c = sym (append-nil c.args.facts.now.items)

pub loop-shape-preserved : goal.loop-shape-preserved
loop-shape-preserved c = taken_more (λ of. map (told.holds c.args.cell of) dirs) c.args.shapes.now c.args.facts.now.items c.loop-shape.facts.items c.extend_from_slice.new.self.items c.loop-shape.shape-index _ c.loop-shape-test.true c.loop-shape.invariant (c.in_ok-extend_from_slice.ensures.items ∙ ap (λ l. c.loop-shape.facts.items ++ l) c.turned.ensures)

pub returns : goal.returns
returns c = taken_all (λ of. map (told.holds c.args.cell of) dirs) c.args.shapes.now c.args.facts.now.items c.loop-shape.facts.items c.loop-shape.shape-index c.loop-shape-test.false c.loop-shape.invariant
