use Rattle.std.proofs.Common.{◌≡◌, subst}
use Rattle.std.proofs.lemmas.Bool.{both_ways}
use Rattle.bt_facts.specs.declared.fact.Shape.TheVariants as shape
use Rattle.bt_facts.specs.Facts.{holds}
use Rattle.bt_place.specs.inner.Reaching.{Says, cell_in}
use Rattle.bt_place.proofs.Marking.{no_next_empty, next_handed, next_under}
use Rattle.bt_place.proofs.reaching.next.Goals as goal

pub returns-in_default : goal.returns-in_default
returns-in_default c =
    no_next_empty c.args.reading.now c.requires.solved c.args.i c.requires.within c.in_default.ensures

pub returns-then-is_entrance : goal.returns-then-is_entrance
returns-then-is_entrance c =
    let t = c.args.reading.now in
    let shape_is : c.in-Turned.shape ≡ shape.Entrance = c.is_entrance.ensures.0 c.if-is_entrance.true in
    next_under t c.requires.solved c.args.i c.in-Turned.dir c.exit_of.result c.requires.within
    (subst (λ s. Says t (holds (cell_in t c.args.i) s c.in-Turned.dir)) shape_is c.in-Turned.ensures) c.exit_of.ensures

pub returns-else-is_entrance : goal.returns-else-is_entrance
returns-else-is_entrance c =
    next_handed c.args.reading.now c.requires.solved c.args.i c.in-Turned.shape c.in-Turned.dir c.handed.result c.requires.within c.in-Turned.ensures
    (λ same. both_ways c.is_entrance.result c.if-is_entrance.false (c.is_entrance.ensures.1 same)) c.handed.ensures
