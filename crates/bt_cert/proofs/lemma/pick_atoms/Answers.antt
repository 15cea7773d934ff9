use Rattle.std.proofs.Common.{◌∷◌, ◌++◌, [], true, take, ap, sym, subst, ◌∙◌}
use Rattle.std.proofs.lemmas.List.{take_more}
use Rattle.bt_cert.specs.inner.Weighing.{IsPicked}
use Rattle.bt_cert.proofs.AtomRows.{picks_more, picks_fail}
use Rattle.bt_cert.proofs.lemma.pick_atoms.Goals as goal

pub returns-in_default : goal.returns-in_default
returns-in_default c = picks_fail c.args.formula.now c.args.lits.now c.loop-lit.lit-index c.lit-item.result c.loop-lit-test.true c.lit-item.is c.in_default.ensures

pub loop-lit-preserved : goal.loop-lit-preserved
loop-lit-preserved c =
    let f = c.args.formula.now in
    let lits = c.args.lits.now in
    let i = c.loop-lit.lit-index in
    let lit = c.lit-item.result in
    let is = take_more lits i lit c.loop-lit-test.true ∙ ap (λ x. take i lits ++ x ∷ []) (sym c.lit-item.is) in
    subst (λ xs. IsPicked f xs c.push.new.self.items true) (sym is)
    (subst (λ picks. IsPicked f (take i lits ++ lit ∷ []) picks true) (sym c.in_ok-push.ensures.items)
    (picks_more f (take i lits) c.loop-lit.picks.items lit c.in-Some.place c.loop-lit.invariant c.in-Some.ensures))
