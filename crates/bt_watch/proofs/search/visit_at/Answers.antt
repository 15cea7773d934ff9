use Rattle.std.proofs.Common.{◌<◌, arith, length, ap, subst, sym, ◌∙◌}
use Rattle.std.specs.Prelude.{slice_get}
use Rattle.bt_cnf.specs.declared.literal.Lit.{Lit}
use Rattle.bt_watch.specs.Assigning.{Assigns}
use Rattle.bt_watch.proofs.Lent.{without_of}
use Rattle.bt_watch.proofs.Lent
use Rattle.bt_watch.proofs.search.visit_at.Goals as goal

pub visit_by_id-requires-clause-id : goal.visit_by_id-requires-clause-id
visit_by_id-requires-clause-id c = Lent.id_below c.args.search.now c.args.false_lit.now c.args.list.now.items c.args.place c.index.result.now c.requires.watched c.requires.variable (omega (arith, c.requires.place, c.args.list.now.ok.0)) c.index.ensures

pub visit_by_id-requires-clause-watchable : goal.visit_by_id-requires-clause-watchable
visit_by_id-requires-clause-watchable c = Lent.watchable c.args.search.now c.args.false_lit.now c.args.list.now.items c.args.place c.index.result.now c.requires.watched c.requires.variable (omega (arith, c.requires.place, c.args.list.now.ok.0)) c.index.ensures

pub watch-requires : goal.watch-requires
watch-requires c =
    Lent.new_watch_stands c.args.search.now c.args.false_lit.now c.args.list.now.items c.args.place c.index.result.now c.requires.watched c.requires.variable (omega (arith, c.requires.place, c.args.list.now.ok.0)) c.index.ensures
    c.visit_by_id.new.clauses c.in-NewWatch.lit c.in-NewWatch.blocker c.in-NewWatch.ensures

pub unpack-lit-requires : goal.unpack-lit-requires
unpack-lit-requires c =
    Lent.unit_below c.args.search.now c.args.false_lit.now c.args.list.now.items c.args.place c.index.result.now c.requires.watched c.requires.variable (omega (arith, c.requires.place, c.args.list.now.ok.0)) c.index.ensures
    c.visit_by_id.new.clauses c.in-UnitLit.lit c.in-UnitLit.ensures

pub assign-requires : goal.assign-requires
assign-requires c =
    subst (λ (l : Lit). l.var < length c.args.search.now.assignment.values) (sym c.unpack-lit.ensures)
    (Lent.unit_below c.args.search.now c.args.false_lit.now c.args.list.now.items c.args.place c.index.result.now c.requires.watched c.requires.variable (omega (arith, c.requires.place, c.args.list.now.ok.0)) c.index.ensures
    c.visit_by_id.new.clauses c.in-UnitLit.lit c.in-UnitLit.ensures)

pub returns-in-Stale : goal.returns-in-Stale
returns-in-Stale c =
    Lent.stale c.args.search.now c.args.false_lit.now c.args.list.now.items c.args.place c.index.result.now c.requires.watched c.requires.variable (omega (arith, c.requires.place, c.args.list.now.ok.0)) c.index.ensures
    c.visit_by_id.new.clauses c.swap_remove.new.self.items c.in-Stale.ensures
    (without_of c.args.place c.args.list.now c.swap_remove.new.self (record { size = c.swap_remove.ensures.len; last = c.swap_remove.ensures.by_index.0; others = c.swap_remove.ensures.by_index.1 }))

pub returns-in-Satisfied : goal.returns-in-Satisfied
returns-in-Satisfied c =
    Lent.stays c.args.search.now c.args.false_lit.now c.args.list.now.items c.args.place c.index.result.now c.requires.watched c.requires.variable (omega (arith, c.requires.place, c.args.list.now.ok.0)) c.index.ensures
    c.visit_by_id.new.clauses c.in-Satisfied.blocker c.in-Satisfied.ensures

pub returns-in_ok-watch-in-NewWatch : goal.returns-in_ok-watch-in-NewWatch
returns-in_ok-watch-in-NewWatch c =
    Lent.moved c.args.search.now c.args.false_lit.now c.args.list.now.items c.args.place c.index.result.now c.requires.watched c.requires.variable (omega (arith, c.requires.place, c.args.list.now.ok.0)) c.index.ensures
    c.visit_by_id.new.clauses c.in-NewWatch.lit c.in-NewWatch.blocker c.watch.new.self c.swap_remove-in-NewWatch.new.self.items c.requires.truths c.in-NewWatch.ensures c.requires.false_lit
    c.in_ok-watch-in-NewWatch.ensures
    (without_of c.args.place c.args.list.now c.swap_remove-in-NewWatch.new.self (record { size = c.swap_remove-in-NewWatch.ensures.len; last = c.swap_remove-in-NewWatch.ensures.by_index.0; others = c.swap_remove-in-NewWatch.ensures.by_index.1 }))

pub returns-in_ok-assign-in-UnitLit : goal.returns-in_ok-assign-in-UnitLit
returns-in_ok-assign-in-UnitLit c =
    Lent.forced c.args.search.now c.args.false_lit.now c.args.list.now.items c.args.place c.index.result.now c.requires.watched c.requires.variable (omega (arith, c.requires.place, c.args.list.now.ok.0)) c.index.ensures
    c.visit_by_id.new.clauses c.in-UnitLit.lit c.assign.new.assignment c.number_of-reason.result c.requires.truths
    (c.number_of-reason.ensures ∙ ap (λ ns. slice_get ns c.index.result.now.id) c.deref.ensures.value) c.in-UnitLit.ensures
    (subst (λ l. Assigns c.args.search.now.assignment c.assign.new.assignment l c.number_of-reason.result) c.unpack-lit.ensures c.in_ok-assign-in-UnitLit.ensures)

pub returns-in-Conflict : goal.returns-in-Conflict
returns-in-Conflict c =
    Lent.failed c.args.search.now c.args.false_lit.now c.args.list.now.items c.args.place c.index.result.now c.requires.watched c.requires.variable (omega (arith, c.requires.place, c.args.list.now.ok.0)) c.index.ensures
    c.visit_by_id.new.clauses c.in-Conflict.ensures
