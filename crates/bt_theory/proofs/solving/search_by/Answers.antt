use Rattle.std.proofs.Common.{◌≡◌, ℕ, sym, subst, ap, ◌∙◌, Some}
use Rattle.std.proofs.lemmas.List.Elements.{All-nil}
use Rattle.std.proofs.lemmas.Result.{IfOk-weaker}
use Rattle.bt_sat.specs.Solving.{SolverParts, begun, log_of}
use Rattle.bt_pivot.specs.Tableaus.{TableauParts}
use Rattle.bt_cnf.specs.declared.limits.Limits.{Limits}
use Rattle.bt_theory.specs.declared.outcome.Outcome.{Outcome}
use Rattle.bt_theory.specs.declared.round.End.{End}
use Rattle.bt_cnf.specs.Formulas.{FormulaParts}
use Rattle.bt_log.specs.Logs.{LogParts}
use Rattle.bt_theory.specs.Reaching.{IsReachable, begins}
use Rattle.bt_theory.specs.Outcomes.{Fits, IsOutcomeOver}
use Rattle.bt_theory.specs.declared.base.Base.{Base}
use Rattle.bt_theory.specs.inner.Bases.{base_in, IsBase}
use Rattle.bt_theory.specs.inner.Rounds.{IsFirst, IsReady, IsRound, Tells}
use Rattle.bt_theory.proofs.solving.search_by.Goals as goal

-- a search that begins is ready
first_ready : (b : Base) (g : FormulaParts) (s : SolverParts) (limit : ℕ) (t : TableauParts) → s ≡ begun g limit → IsFirst (base_in b g) t → IsReady b s t
first_ready b g s limit t e h =
    subst (λ x. IsReady b x t) (sym e) (record { tableau = h.tableau; reachable = subst (IsReachable (base_in b g)) (sym h.basis) begins; fits = All-nil (Fits g) })

-- what a round says at its end of the formula at hand
said_of : (b : Base) (g : FormulaParts) (limits : Limits) (old new : SolverParts) (t : TableauParts) (e : End) (log : LogParts) (o : Outcome) → old.formula ≡ g → old.limit ≡ limits.learnt
    → IsRound limits.pivots b old new t (Some e) → log ≡ log_of new → Tells e log o → IsOutcomeOver (base_in b g) g limits o
said_of b g limits old new t e log o same limit round is_log tells =
    subst (λ h. IsOutcomeOver (base_in b h) h limits o) (round.formula ∙ same)
    (subst (λ k. IsOutcomeOver (base_in b new.formula) new.formula (record { learnt = k; pivots = limits.pivots }) o) (round.limit ∙ limit) (tells limits.pivots b new is_log round.says))

pub by_goals-requires-clause-ready : goal.by_goals-requires-clause-ready
by_goals-requires-clause-ready g c =
    first_ready c.args.base.now c.args.formula c.in_ok-solver.solver.kernel c.args.limits.learnt c.args.tables.now.tableau c.in_ok-solver.ensures.kernel c.requires.tables.tableau

pub by_goals-requires-clause-base : goal.by_goals-requires-clause-base
by_goals-requires-clause-base g c = subst (IsBase c.args.base.now) (sym (ap (λ x. x.formula) c.in_ok-solver.ensures.kernel)) c.requires.base

pub returns : goal.returns
returns g c =
    let e = c.in_ok-solver.ensures.kernel in
    IfOk-weaker c.outcome.result (Tells c.in_ok-end.end c.into_log.result) (IsOutcomeOver (base_in c.args.base.now c.args.formula) c.args.formula c.args.limits)
    (λ o told.
    said_of c.args.base.now c.args.formula c.args.limits c.in_ok-solver.solver.kernel c.by_goals.new.solver.kernel c.by_goals.new.tables.tableau c.in_ok-end.end c.into_log.result o
    (ap (λ x. x.formula) e) (ap (λ x. x.limit) e) c.in_ok-end.ensures c.into_log.ensures told) c.outcome.ensures
