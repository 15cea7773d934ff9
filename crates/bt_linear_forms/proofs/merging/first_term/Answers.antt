use Rattle.std.proofs.Common.{◌<◌, ◌≡◌, arith, inl, inr, refl, ap, ◌∙◌, Some}
use Rattle.std.proofs.lemmas.Result.{err_from_is_err_and}
use Rattle.bt_farkas.specs.WeightedRows.{coefficient_at}
use Rattle.bt_linear_forms.proofs.NamedTerms.{number_here}
use Rattle.bt_linear_forms.proofs.Totals.{step_first, step_before, step_second, step_after, step_same}
use Rattle.bt_linear_forms.proofs.Walks.{unfit_right}
use Rattle.bt_linear_forms.proofs.merging.first_term.Goals as goal

pub returns-in-Less-clause-step : goal.returns-in-Less-clause-step
returns-in-Less-clause-step c =
    let less : c.in-Some-Some.first.0 < c.in-Some-Some.second.0 = grind (arith) in
    step_before _ _ _ _ _ _ _ c.denominator.ensures.known c.in-Some-Some.ensures.some c.in-Some-Some.ensures'.some less

pub returns-in_ok-term-in-Equal-clause-step : goal.returns-in_ok-term-in-Equal-clause-step
returns-in_ok-term-in-Equal-clause-step c =
    let same : c.in-Some-Some.first.0 ≡ c.in-Some-Some.second.0 = grind (arith) in
    step_same _ _ _ _ _ _ _ _ c.denominator.ensures.known c.in-Some-Some.ensures.some c.in-Some-Some.ensures'.some same c.in_ok-term-in-Equal.ensures.term

pub returns-in_ok-term-in-Greater-clause-step : goal.returns-in_ok-term-in-Greater-clause-step
returns-in_ok-term-in-Greater-clause-step c =
    let less : c.in-Some-Some.second.0 < c.in-Some-Some.first.0 = grind (arith) in
    step_after _ _ _ _ _ _ _ _ c.denominator.ensures.known c.requires.factor c.in_ok-term-in-Greater.ensures.term c.in-Some-Some.ensures'.some c.in-Some-Some.ensures.some less

pub returns-in-Some-None-clause-step : goal.returns-in-Some-None-clause-step
returns-in-Some-None-clause-step c = step_first _ _ _ _ _ c.denominator.ensures.known c.in-Some-None.ensures.some c.in-Some-None.ensures'.none

pub returns-in_ok-term-in-None-Some-clause-step : goal.returns-in_ok-term-in-None-Some-clause-step
returns-in_ok-term-in-None-Some-clause-step c =
    step_second _ _ _ _ _ _ c.denominator.ensures.known c.requires.factor c.in_ok-term-in-None-Some.ensures.term c.in-None-Some.ensures'.some c.in-None-Some.ensures.none

pub returns-in_err-term-in-Equal-clause-unfit : goal.returns-in_err-term-in-Equal-clause-unfit
returns-in_err-term-in-Equal-clause-unfit c =
    let same : c.in-Some-Some.first.0 ≡ c.in-Some-Some.second.0 = grind (arith) in
    let has : coefficient_at c.in-Some-Some.second.0 c.args.left.now ≡ Some c.in-Some-Some.first.1 =
    ap (λ l. coefficient_at c.in-Some-Some.second.0 l) c.in-Some-Some.ensures.some ∙ number_here c.in-Some-Some.first c.in-Some-Some.left_rest.now c.in-Some-Some.second.0 same in
    let p = err_from_is_err_and c.from_residual.result c.from_residual.ensures.1 in
    let u = c.in_err-term-in-Equal.ensures.unfit in
    rw (p.1, p.2) (unfit_right _ _ _ _ _ _ _ c.in-Some-Some.ensures'.some (inr has) (u.0 ∙ same, u.1, u.2))

pub returns-in_err-term-in-Greater-clause-unfit : goal.returns-in_err-term-in-Greater-clause-unfit
returns-in_err-term-in-Greater-clause-unfit c =
    let p = err_from_is_err_and c.from_residual-in_err-term-in-Greater.result c.from_residual-in_err-term-in-Greater.ensures.1 in
    rw (p.1, p.2) (unfit_right _ _ _ _ _ _ _ c.in-Some-Some.ensures'.some (inl refl) c.in_err-term-in-Greater.ensures.unfit)

pub returns-in_err-term-in-None-Some-clause-unfit : goal.returns-in_err-term-in-None-Some-clause-unfit
returns-in_err-term-in-None-Some-clause-unfit c =
    let p = err_from_is_err_and c.from_residual-in_err-term-in-None-Some.result c.from_residual-in_err-term-in-None-Some.ensures.1 in
    rw (p.1, p.2) (unfit_right _ _ _ _ _ _ _ c.in-None-Some.ensures'.some (inl refl) c.in_err-term-in-None-Some.ensures.unfit)
