use Rattle.std.proofs.Common.{rules, ◌≡◌, ◌<◌, length, arith, sym, subst, ap, ◌∙◌, Some, refl, inl, inr}
use Rattle.std.proofs.lemmas.List.{get_or_default}
use Rattle.bt_cnf.specs.Truths.{IsFalseIn}
use Rattle.bt_watch.specs.declared.assignment.Assignment.{Assignment}
use Rattle.bt_watch.specs.Watched.{no_lit}
use Rattle.bt_watch.specs.Propagating.{Keeps}
use Rattle.bt_watch.specs.Reasons.{lit_at}
use Rattle.bt_sat.specs.inner.LoggedFormula.{clauses_in}
use Rattle.bt_sat.specs.inner.Lemmas.{Admits, IsFailing}
use Rattle.bt_sat.proofs.Admitted
use Rattle.bt_sat.proofs.lemmas.admit.Goals as goal

pub returns-in_ok-keep : goal.returns-in_ok-keep
returns-in_ok-keep c =
    let all = clauses_in c.args.known.now in
    let s = c.args.search.now in
    let lits = c.args.lits.now in
    let mid = c.keep.new.search in
    let some : 0 < length lits = elim c.requires [ inl asserts ↦ asserts.some | inr fails ↦ fails.some ] in
    let at : c.index-lits-0.result ≡ lit_at lits 0 = c.index-lits-0.is ∙ get_or_default lits 0 c.index-lits-0.result no_lit some in
    let here : IsFalseIn s.assignment.values c.index-lits-0.result = search rules in
    let is : IsFailing all s lits = Admitted.failing all s lits c.requires (subst (IsFalseIn s.assignment.values) at here) in
    let keeps : Keeps lits (length all) s mid = subst (λ n. Keeps lits n s mid) c.in_ok-number.ensures c.in_ok-keep.ensures in
    subst (λ n. Admits all lits s mid (Some n)) (sym c.in_ok-number.ensures) (record {
      stands = Admitted.failed_many all s lits is mid keeps (omega (arith, c.if-lits-gt1.true));
      variables = ap (λ (a : Assignment). length a.values) keeps.assignment;
    })

pub returns-else-lits-gt1 : goal.returns-else-lits-gt1
returns-else-lits-gt1 c =
    let all = clauses_in c.args.known.now in
    let s = c.args.search.now in
    let lits = c.args.lits.now in
    let some : 0 < length lits = elim c.requires [ inl asserts ↦ asserts.some | inr fails ↦ fails.some ] in
    let at : c.index-lits-0.result ≡ lit_at lits 0 = c.index-lits-0.is ∙ get_or_default lits 0 c.index-lits-0.result no_lit some in
    let here : IsFalseIn s.assignment.values c.index-lits-0.result = search rules in
    let is : IsFailing all s lits = Admitted.failing all s lits c.requires (subst (IsFalseIn s.assignment.values) at here) in
    subst (λ n. Admits all lits s s (Some n)) (sym c.in_ok-number.ensures) (record {
      stands = Admitted.failed_one all s lits is (omega (arith, some, c.if-lits-gt1.false));
      variables = refl;
    })
