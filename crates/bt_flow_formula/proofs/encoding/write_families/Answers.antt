use Rattle.std.proofs.Common.{[], take, refl, ◌∙◌, ap, arith}
use Rattle.std.specs.List.{flat_map}
use Rattle.std.proofs.lemmas.List.{take_all}
use Rattle.bt_flow_formula.specs.Families.{family_clauses}
use Rattle.bt_flow_formula.specs.inner.Adding.{with_clauses}
use Rattle.bt_flow_formula.specs.inner.Variables.{at_in}
use Rattle.bt_arena.proofs.Loops.{taken_more}
use Rattle.bt_flow_formula.proofs.Numbers.{with_none, added_more, marks_stay, all_within_more}
use Rattle.bt_flow_formula.proofs.Kept.{within_at}
use Rattle.bt_flow_formula.proofs.encoding.write_families.Goals as goal

pub loop-family-init : goal.loop-family-init
loop-family-init c = with_none (at_in c.args.pairs.now) c.args.formula.now

pub write_family-requires-clause-within : goal.write_family-requires-clause-within
write_family-requires-clause-within c =
    let at = at_in c.args.pairs.now in
    let n = c.args.net.now in
    let vars = c.args.formula.now.vars in
    all_within_more at vars c.loop-family.formula.vars (marks_stay at vars c.args.formula.now c.loop-family.formula _ c.loop-family.invariant (omega arith)) (family_clauses n _)
    (within_at at vars (family_clauses n) c.args.families.now c.loop-family.family-index _ c.loop-family-test.true c.requires.within)

pub loop-family-preserved : goal.loop-family-preserved
loop-family-preserved c =
    added_more (at_in c.args.pairs.now) c.args.formula.now c.loop-family.formula c.write_family.new.formula _ _ _ c.loop-family.invariant c.in_ok-write_family.ensures
    (taken_more (family_clauses c.args.net.now) c.args.families.now [] (flat_map (family_clauses c.args.net.now) (take c.loop-family.family-index c.args.families.now)) _ c.loop-family.family-index _
    c.loop-family-test.true refl refl)

pub returns : goal.returns
returns c =
    c.loop-family.invariant
    ∙ ap (λ l. with_clauses (at_in c.args.pairs.now) c.args.formula.now (flat_map (family_clauses c.args.net.now) l)) (take_all c.loop-family.family-index c.args.families.now c.loop-family-test.false)
