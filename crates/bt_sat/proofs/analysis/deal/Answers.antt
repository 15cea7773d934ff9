use Rattle.std.proofs.Common.{◌<◌, inl, inr, length, sym, subst, None, Some}
use Rattle.std.specs.List.{All}
use Rattle.bt_cnf.specs.declared.literal.Lit.{Lit}
use Rattle.bt_cnf.specs.Units.{clause_at}
use Rattle.bt_sat.specs.inner.Analysing.{IsReasonFor, IsTraced, IsTracing, MarksSeen}
use Rattle.bt_sat.specs.inner.KnownLits.{lits_in}
use Rattle.bt_sat.specs.inner.LoggedFormula.{clauses_in}
use Rattle.bt_sat.proofs.Deriving
use Rattle.bt_sat.proofs.analysis.deal.Goals as goal

pub reason_for-requires-clause-inside : goal.reason_for-requires-clause-inside
reason_for-requires-clause-inside c = Deriving.place_inside (clauses_in c.args.known.now) c.args.search.now c.requires.ordered c.args.conflict_level c.args.place c.args.analysis.now.agenda c.args.analysis.now.picked.items c.args.analysis.now.hints.items c.requires.taken

pub clause-requires : goal.clause-requires
clause-requires c =
    let why : IsReasonFor c.args.search.now c.args.conflict_level c.args.analysis.now.agenda c.args.place (Some c.in-Some.number) = subst (IsReasonFor c.args.search.now c.args.conflict_level c.args.analysis.now.agenda c.args.place) c.in-Some.is c.in_ok-reason.ensures in
    let all = clauses_in c.args.known.now in
    let inside = Deriving.place_inside all c.args.search.now c.requires.ordered c.args.conflict_level c.args.place c.args.analysis.now.agenda c.args.analysis.now.picked.items c.args.analysis.now.hints.items c.requires.taken in
    (c.requires.ordered.reasoned.reasons c.args.place c.in-Some.number inside why.1).below

pub mark_seen-requires : goal.mark_seen-requires
mark_seen-requires c =
    let why : IsReasonFor c.args.search.now c.args.conflict_level c.args.analysis.now.agenda c.args.place (Some c.in-Some.number) = subst (IsReasonFor c.args.search.now c.args.conflict_level c.args.analysis.now.agenda c.args.place) c.in-Some.is c.in_ok-reason.ensures in
    let all = clauses_in c.args.known.now in
    let s = c.args.search.now in
    let inside = Deriving.place_inside all s c.requires.ordered c.args.conflict_level c.args.place c.args.analysis.now.agenda c.args.analysis.now.picked.items c.args.analysis.now.hints.items c.requires.taken in
    let reason = c.requires.ordered.reasoned.reasons c.args.place c.in-Some.number inside why.1 in
    subst (λ ps. All (λ (l : Lit). l.var < length ps) (lits_in c.clause.result)) (sym c.deref.ensures.value)
    (subst (All (λ (l : Lit). l.var < length s.assignment.places.items)) (sym c.clause.ensures) (Deriving.reason_below all s c.requires.ordered c.args.place c.in-Some.number inside reason))

pub returns-in_ok-mark_seen-in-Some : goal.returns-in_ok-mark_seen-in-Some
returns-in_ok-mark_seen-in-Some c =
    let why : IsReasonFor c.args.search.now c.args.conflict_level c.args.analysis.now.agenda c.args.place (Some c.in-Some.number) = subst (IsReasonFor c.args.search.now c.args.conflict_level c.args.analysis.now.agenda c.args.place) c.in-Some.is c.in_ok-reason.ensures in
    let all = clauses_in c.args.known.now in
    let s = c.args.search.now in
    let old = c.args.analysis.now in
    let inside = Deriving.place_inside all s c.requires.ordered c.args.conflict_level c.args.place old.agenda old.picked.items old.hints.items c.requires.taken in
    let reason = c.requires.ordered.reasoned.reasons c.args.place c.in-Some.number inside why.1 in
    let marks : MarksSeen s.assignment.places.items (clause_at all c.in-Some.number) c.args.place old.agenda c.mark_seen.new.agenda =
    subst (λ ps. MarksSeen ps (clause_at all c.in-Some.number) c.args.place old.agenda c.mark_seen.new.agenda) c.deref.ensures.value
    (subst (λ cl. MarksSeen c.deref.result.now cl c.args.place old.agenda c.mark_seen.new.agenda) c.clause.ensures c.in_ok-mark_seen-in-Some.ensures) in
    subst (IsTracing all s c.args.conflict_level c.mark_seen.new.agenda old.picked.items c.args.place) (sym c.in_ok-push-in-Some.ensures.items)
    (record {
      derived = Deriving.resolved all s c.requires.ordered c.args.conflict_level c.args.place old.agenda old.picked.items old.hints.items c.requires.taken c.in-Some.number c.mark_seen.new.agenda reason marks;
      root = c.requires.taken.tracing.root;
      cuts = Deriving.resolved_cuts all s c.requires.ordered c.args.conflict_level c.args.place old.agenda old.picked.items old.hints.items c.requires.taken c.in-Some.number c.mark_seen.new.agenda reason marks why.0;
    })

pub returns-in_ok-push-in-None : goal.returns-in_ok-push-in-None
returns-in_ok-push-in-None c =
    let why : IsReasonFor c.args.search.now c.args.conflict_level c.args.analysis.now.agenda c.args.place None = subst (IsReasonFor c.args.search.now c.args.conflict_level c.args.analysis.now.agenda c.args.place) c.in-None.is c.in_ok-reason.ensures in
    let all = clauses_in c.args.known.now in
    let s = c.args.search.now in
    let old = c.args.analysis.now in
    let not_traced : IsTraced c.args.conflict_level old.agenda c.args.place → ⊥ = elim why [
      | inl never ↦ never
      | inr chosen ↦ λ traced. Deriving.not_chosen all s c.requires.ordered c.args.conflict_level c.args.place old.agenda old.picked.items old.hints.items c.requires.taken traced chosen
    ] in
    subst (λ ps. IsTracing all s c.args.conflict_level old.agenda ps c.args.place old.hints.items) (sym c.in_ok-push-in-None.ensures.items)
    (record {
      derived = Deriving.picked_up all s c.requires.ordered c.args.conflict_level c.args.place old.agenda old.picked.items old.hints.items c.requires.taken;
      root = c.requires.taken.tracing.root;
      cuts = Deriving.picked_cuts all s c.requires.ordered c.args.conflict_level c.args.place old.agenda old.picked.items old.hints.items c.requires.taken not_traced;
    })
