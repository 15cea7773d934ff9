use Rattle.std.proofs.Common.{refl, sym, ◌∙◌, arith}
use Rattle.std.proofs.lemmas.Bool.{false≢true}
use Rattle.bt_extend.proofs.Taken.{one_taken, taken_up_to, taken_all}
use Rattle.bt_extend.proofs.extending.extend_by.Goals as goal

pub loop-place-init : goal.loop-place-init
loop-place-init c = record { are = tt; is = refl }

pub returns-then-not-is_definition : goal.returns-then-not-is_definition
returns-then-not-is_definition c =
    taken_up_to c.args.formula.now c.loop-place.formula c.args.definitions.now c.loop-place.place c.index-definitions-place.result c.loop-place-test.true c.index-definitions-place.is
    c.loop-place.invariant (λ is. false≢true (sym c.if-not-is_definition.true ∙ c.is_definition.ensures.1 is))

pub loop-place-preserved : goal.loop-place-preserved
loop-place-preserved c =
    one_taken c.args.formula.now c.loop-place.formula c.add_definition.new.formula c.args.definitions.now c.loop-place.place c.index-definitions-place.result c.loop-place-test.true
    c.index-definitions-place.is c.loop-place.invariant (c.is_definition.ensures.0 c.if-not-is_definition.false) c.in_ok-add_definition.ensures

pub returns : goal.returns
returns c = taken_all c.args.formula.now c.loop-place.formula c.args.definitions.now c.loop-place.place (omega arith) c.loop-place.invariant
