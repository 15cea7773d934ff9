use Rattle.std.proofs.Common.{◌≡◌, ◌≤◌, ◌<◌, arith, rules, length, sym, ◌∙◌}
use Rattle.std.proofs.lemmas.List.{get_or_default}
use Rattle.std.proofs.lemmas.List.Sorted.{All-permutation}
use Rattle.bt_watch.specs.Watched.{no_lit, second}
use Rattle.bt_watch.proofs.VisitedClause.{Brought, brought, visited_clause}
use Rattle.bt_watch.proofs.watched.visit_clause.Goals as goal

pub visit_second-requires-clause-variables : goal.visit_second-requires-clause-variables
visit_second-requires-clause-variables c =
    let at : Brought c.args.false_lit.now c.args.lits.now c.bring_second.new.lits =
    brought c.args.false_lit.now c.args.lits.now c.bring_second.new.lits c.requires.two c.bring_second.auto.lits c.bring_second.ensures in
    All-permutation (λ l. l.var < length c.args.values.now) c.args.lits.now c.bring_second.new.lits at.kept.permuted c.requires.variables

pub returns : goal.returns
returns c =
    let at : Brought c.args.false_lit.now c.args.lits.now c.bring_second.new.lits =
    brought c.args.false_lit.now c.args.lits.now c.bring_second.new.lits c.requires.two c.bring_second.auto.lits c.bring_second.ensures in
    let two : 2 ≤ length c.bring_second.new.lits = omega (arith, c.requires.two, c.bring_second.auto.lits) in
    let same : c.index-lits-1.result ≡ c.args.false_lit.now = search rules in
    let is : second c.bring_second.new.lits ≡ c.args.false_lit.now =
    get_or_default c.bring_second.new.lits 1 no_lit c.index-lits-1.result (omega (arith, two)) ∙ sym c.index-lits-1.is ∙ same in
    visited_clause c.args.values.now c.args.false_lit.now c.args.lits.now c.bring_second.new.lits c.visit_second.new.lits c.visit_second.result two at is c.requires.false_lit c.visit_second.ensures

pub returns-then-not-is : goal.returns-then-not-is
returns-then-not-is c =
    let at : Brought c.args.false_lit.now c.args.lits.now c.bring_second.new.lits =
    brought c.args.false_lit.now c.args.lits.now c.bring_second.new.lits c.requires.two c.bring_second.auto.lits c.bring_second.ensures in
    let two : 2 ≤ length c.bring_second.new.lits = omega (arith, c.requires.two, c.bring_second.auto.lits) in
    let differs : c.index-lits-1.result ≡ c.args.false_lit.now → ⊥ = search rules in
    let not_second : second c.bring_second.new.lits ≡ c.args.false_lit.now → ⊥ =
    λ e. differs (c.index-lits-1.is ∙ get_or_default c.bring_second.new.lits 1 c.index-lits-1.result no_lit (omega (arith, two)) ∙ e) in
    (at.kept, (λ e. not_second (at.not_first e)), not_second)
