use Rattle.std.proofs.Common.{◌∷◌, [], map, append-nil, sym}
use Rattle.bt_facts.specs.declared.fact.Fact.TheVariants as fact
use Rattle.bt_facts.specs.Rules.{not_all}
use Rattle.bt_arena.proofs.Loops.{place_more}
use Rattle.bt_demands.proofs.siding.add_all_apart.Goals as goal

pub loop-other-init : goal.loop-other-init
loop-other-init c = sym (append-nil c.args.draft.now)

pub loop-other-preserved : goal.loop-other-preserved
loop-other-preserved c = place_more (λ u. map (λ x. not_all (fact.Stops x c.args.output ∷ fact.Stops x u ∷ [])) c.args.border.now) c.args.draft.now c.loop-other.draft c.add_apart.new.draft c.loop-other.other c.loop-other.invariant (c.in_ok-add_apart.ensures)
