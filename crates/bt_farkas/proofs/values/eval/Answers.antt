use Rattle.std.proofs.Common.{◌≡◌, ◌<◌, ◌≤◌, ◌↔◌, IsTrue, Ok, Err, length, get_or, subst, refl}
use Rattle.std.proofs.lemmas.List.{take_all}
use Rattle.bt_text.proofs.OneAnswer.{answers_always_of}
use Rattle.bt_frac.specs.Values.{nothing, value_in, valued, Stands}
use Rattle.bt_farkas.specs.Evaluation.{IsEvaluation}
use Rattle.bt_farkas.specs.RunningSums.{RunsTo}
use Rattle.bt_farkas.proofs.EvalLemmas.{one_evaluation, wide_column, valued_more, value_is, evaluated}
use Rattle.bt_farkas.proofs.values.eval.Goals as goal

pub returns-in_default : goal.returns-in_default
returns-in_default c =
    let row = c.args.row.now in
    let values = c.args.values.now in
    let i = c.loop-column.column-index in
    let term = c.loop-column-item.result in
    let same = c.terms-column-items.ensures.value in
    let inside : i < length row.terms = subst (λ ts. i < length ts) same c.loop-column-test.true in
    let is : term ≡ get_or row.terms i term = subst (λ ts. term ≡ get_or ts i term) same c.loop-column-item.is in
    let value = value_is row.terms values i term c.index-values-column.result c.requires inside is c.index-values-column.is in
    answers_always_of (IsEvaluation row values) (one_evaluation row values) (Err (record { row = 0; column = term.0 }))
    (refl, wide_column row.terms (value_in values) i term c.index-values-column.result c.loop-column.sum inside is value c.loop-column.invariant c.in_default.ensures.none)

pub loop-column-preserved : goal.loop-column-preserved
loop-column-preserved c =
    let row = c.args.row.now in
    let values = c.args.values.now in
    let i = c.loop-column.column-index in
    let term = c.loop-column-item.result in
    let same = c.terms-column-items.ensures.value in
    let inside : i < length row.terms = subst (λ ts. i < length ts) same c.loop-column-test.true in
    let is : term ≡ get_or row.terms i term = subst (λ ts. term ≡ get_or ts i term) same c.loop-column-item.is in
    let value = value_is row.terms values i term c.index-values-column.result c.requires inside is c.index-values-column.is in
    valued_more row.terms (value_in values) i term c.index-values-column.result c.loop-column.sum c.in-Some.next inside is value c.loop-column.invariant c.in-Some.ensures.some

pub returns : goal.returns
returns c =
    let row = c.args.row.now in
    let values = c.args.values.now in
    let i = c.loop-column.column-index in
    let all = subst (λ ts. length ts ≤ i) c.terms-column-items.ensures.value c.loop-column-test.false in
    let told : IsTrue c.stands.result ↔ Stands row.relation c.loop-column.sum row.bound =
    subst (λ r. IsTrue c.stands.result ↔ Stands r c.loop-column.sum row.bound) c.relation.ensures
    (subst (λ b. IsTrue c.stands.result ↔ Stands c.relation.result c.loop-column.sum b) c.bound.ensures.value c.stands.ensures) in
    answers_always_of (IsEvaluation row values) (one_evaluation row values) (Ok c.stands.result)
    (evaluated row values c.loop-column.sum c.stands.result
    (subst (λ ts. RunsTo nothing (valued (value_in values) ts) c.loop-column.sum) (take_all i row.terms all) c.loop-column.invariant) told)
