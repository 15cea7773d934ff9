use Rattle.std.proofs.Common.{◌≡◌, ◌⊎◌, inl, inr, List, true, false, Ok, Err, ap, subst, ◌∙◌}
use Rattle.bt_frac.specs.Ratio.{Ratio}
use Rattle.bt_frac.specs.Rows.{RowParts}
use Rattle.bt_farkas.specs.Farkas.{IsFarkas, IsSumJudged}
use Rattle.bt_farkas.specs.declared.wide.SumFault.{SumFault}
use Rattle.bt_farkas.specs.declared.wide.SumFault.TheVariants.{Wide, Memory}
use Rattle.bt_farkas.specs.declared.wide.WideAt.{WideAt}
use Rattle.bt_farkas.specs.WeightedRows.{picked, weighted}
use Rattle.bt_cert.specs.Judging.{MayWeighRows}
use Rattle.bt_cert.specs.inner.Weighing.{rows_of, IsPicked}
use Rattle.bt_cert.proofs.AtomRows.{lemma_valid, lemma_fails, lemma_wide}
use Rattle.bt_cert.proofs.lemma.judge_lemma.Goals as goal

pub returns-in-Ok-true : goal.returns-in-Ok-true
returns-in-Ok-true c =
    let f = c.args.formula.now in
    let lits = c.args.lits.now in
    let weights = c.args.weights.now in
    let picks = c.pick_atoms.new.picks.items in
    let is_picked = subst (IsPicked f lits picks) c.if-not-branch.false c.in_ok-pick_atoms.ensures in
    let may = subst (λ xs. MayWeighRows (picked (rows_of f) xs) weights) c.deref.ensures.value (c.may_weigh_picked.ensures.0 c.if-not-may_weigh_picked.false) in
    let same = ap (λ xs. weighted xs c.deref-2.result.now weights) c.rows.ensures.value ∙ ap (λ xs. weighted (rows_of f) xs weights) c.deref-2.ensures.value in
    lemma_valid f lits weights (picked (rows_of f) picks) c.rows.ensures.known c.requires.fractions is_picked.1 may
    (subst (λ sum. IsFarkas sum (Ok true)) same (subst (λ b. IsFarkas (weighted c.rows.result.now c.deref-2.result.now weights) (Ok b)) c.in-Ok-true.field-0-test c.in-Ok-true.ensures.right))

pub returns-in-Ok-false : goal.returns-in-Ok-false
returns-in-Ok-false c =
    let f = c.args.formula.now in
    let lits = c.args.lits.now in
    let weights = c.args.weights.now in
    let picks = c.pick_atoms.new.picks.items in
    let is_picked = subst (IsPicked f lits picks) c.if-not-branch.false c.in_ok-pick_atoms.ensures in
    let may = subst (λ xs. MayWeighRows (picked (rows_of f) xs) weights) c.deref.ensures.value (c.may_weigh_picked.ensures.0 c.if-not-may_weigh_picked.false) in
    let same = ap (λ xs. weighted xs c.deref-2.result.now weights) c.rows.ensures.value ∙ ap (λ xs. weighted (rows_of f) xs weights) c.deref-2.ensures.value in
    lemma_fails f lits weights (picked (rows_of f) picks) is_picked.1 may
    (subst (λ sum. IsFarkas sum (Ok false)) same (subst (λ b. IsFarkas (weighted c.rows.result.now c.deref-2.result.now weights) (Ok b)) c.in-Ok-false.field-0-test c.in-Ok-false.ensures.right))

told : (sum : List (RowParts × Ratio)) (fault : SumFault) (at : WideAt) → fault ≡ Wide at → IsSumJudged sum (Err fault) ⊎ (fault ≡ Memory) → IsFarkas sum (Err at)
told sum fault at is (inl p) = subst (λ e. IsSumJudged sum (Err e)) is p
told sum fault at is (inr e) = cc

pub returns-in-Err-Wide : goal.returns-in-Err-Wide
returns-in-Err-Wide c =
    let f = c.args.formula.now in
    let lits = c.args.lits.now in
    let weights = c.args.weights.now in
    let picks = c.pick_atoms.new.picks.items in
    let is_picked = subst (IsPicked f lits picks) c.if-not-branch.false c.in_ok-pick_atoms.ensures in
    let may = subst (λ xs. MayWeighRows (picked (rows_of f) xs) weights) c.deref.ensures.value (c.may_weigh_picked.ensures.0 c.if-not-may_weigh_picked.false) in
    let same = ap (λ xs. weighted xs c.deref-2.result.now weights) c.rows.ensures.value ∙ ap (λ xs. weighted (rows_of f) xs weights) c.deref-2.ensures.value in
    lemma_wide f lits weights (picked (rows_of f) picks) c.in-Err-Wide.at is_picked.1 may
    (subst (λ sum. IsFarkas sum (Err c.in-Err-Wide.at)) same (told (weighted c.rows.result.now c.deref-2.result.now weights) c.in-Err-Wide.field-0 c.in-Err-Wide.at c.in-Err-Wide.field-0-is c.in-Err-Wide.ensures.right))
