use Rattle.std.proofs.Common.{◌≡◌, length, arith, Some, sym, subst, ◌∙◌}
use Rattle.std.proofs.lemmas.List.{get_or_default}
use Rattle.bt_watch.specs.Assigning.{Assigns}
use Rattle.bt_watch.specs.Watched.{no_lit}
use Rattle.bt_watch.specs.Propagating.{Keeps}
use Rattle.bt_watch.specs.Reasons.{lit_at}
use Rattle.bt_sat.specs.inner.LoggedFormula.{clauses_in}
use Rattle.bt_sat.proofs.Adopted
use Rattle.bt_sat.proofs.learning.adopt.Goals as goal

pub returns-then-lits-eq1-clause-ready : goal.returns-then-lits-eq1-clause-ready
returns-then-lits-eq1-clause-ready c =
    let all = clauses_in c.args.known.now in
    let s = c.args.search.now in
    let lits = c.args.lits.now in
    let at : lit_at lits 0 ≡ c.index-lits-0.result = get_or_default lits 0 no_lit c.index-lits-0.result c.requires.some ∙ sym c.index-lits-0.is in
    let assigns : Assigns s.assignment c.assign.new.assignment (lit_at lits 0) (Some (length all)) =
    subst (λ l. Assigns s.assignment c.assign.new.assignment l (Some (length all))) (sym at) (subst (λ n. Assigns s.assignment c.assign.new.assignment c.index-lits-0.result (Some n)) c.in_ok-number.ensures c.in_ok-assign.ensures) in
    Adopted.adopted_one all s lits c.requires c.assign.new.assignment c.if-lits-eq1.true assigns

pub keep-requires-clause-watchable : goal.keep-requires-clause-watchable
keep-requires-clause-watchable c =
    let all = clauses_in c.args.known.now in
    let some = c.requires.some in
    Adopted.watchable all c.args.search.now c.args.lits.now c.requires (omega (arith, some, c.if-lits-eq1.false))

pub returns-clause-ready : goal.returns-clause-ready
returns-clause-ready c =
    let all = clauses_in c.args.known.now in
    let s = c.args.search.now in
    let lits = c.args.lits.now in
    let mid = c.keep.new.search in
    let some = c.requires.some in
    let at : lit_at lits 0 ≡ c.index-lits-0-2.result = get_or_default lits 0 no_lit c.index-lits-0-2.result some ∙ sym c.index-lits-0-2.is in
    let keeps : Keeps lits (length all) s mid = subst (λ n. Keeps lits n s mid) c.in_ok-number.ensures c.in_ok-keep.ensures in
    let assigns : Assigns mid.assignment c.assign-2.new.assignment (lit_at lits 0) (Some (length all)) =
    subst (λ l. Assigns mid.assignment c.assign-2.new.assignment l (Some (length all))) (sym at) (subst (λ n. Assigns mid.assignment c.assign-2.new.assignment c.index-lits-0-2.result (Some n)) c.in_ok-number.ensures c.in_ok-assign-2.ensures) in
    Adopted.adopted_many all s lits c.requires mid keeps (omega (arith, some, c.if-lits-eq1.false)) c.assign-2.new.assignment assigns
