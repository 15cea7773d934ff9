use Rattle.std.proofs.Common.{◌≡◌, List, Bool, take, map, sym, subst, arith}
use Rattle.std.specs.Prelude.{IfSome}
use Rattle.std.specs.List.{All, Any}
use Rattle.std.proofs.lemmas.Result.{IfOk-weaker}
use Rattle.bt_cnf.specs.Assignments.{truth_in}
use Rattle.bt_cnf.specs.Formulas.{FormulaParts}
use Rattle.bt_cnf.specs.Meeting.{MeetsClause}
use Rattle.bt_log.specs.Logs.{clause_of}
use Rattle.bt_sat.specs.Solving.{SolverParts}
use Rattle.bt_theory.specs.declared.base.Base.{Base}
use Rattle.bt_theory.specs.inner.Bases.{base_in, IsBase}
use Rattle.bt_theory.specs.inner.Choosing.{IsChosen}
use Rattle.bt_theory.specs.inner.Rounds.{HasModel, HasChosen, IsLemmaLearnt, IsRound}
use Rattle.bt_theory.specs.inner.Scopes.{IsConflictIn, parts_of}
use Rattle.bt_theory.proofs.Bases.{front_meets}
use Rattle.bt_theory.proofs.Rounds.{all_front, conflict_among, makes_lemma, learnt_round}
use Rattle.bt_theory.proofs.round.try_model.Goals as goal

-- what was chosen for the formula that was lent
has_chosen : (b : Base) (s : SolverParts) (lent : FormulaParts) (model front chosen : List Bool) → HasModel s model → lent ≡ s.formula → front ≡ take b.vars model
    → IsChosen front chosen (base_in b lent).clauses → HasChosen b s chosen
has_chosen b s lent model front chosen has e cut h =
    record { model = model; has = has; chose = subst (λ m. IsChosen m chosen (base_in b s.formula).clauses) cut (subst (λ (f : FormulaParts). IsChosen front chosen (base_in b f).clauses) e h) }

-- the front of the model that was lent meets what stands before the definitions in the formula that was lent
front_met : (b : Base) (s : SolverParts) (lent : FormulaParts) (model front : List Bool) → IsBase b s.formula → HasModel s model → lent ≡ s.formula → front ≡ take b.vars model
    → All (MeetsClause (truth_in front)) (base_in b lent).clauses
front_met b s lent model front is has e cut =
    subst (λ (f : FormulaParts). All (MeetsClause (truth_in front)) (base_in b f).clauses) (sym e)
    (subst (λ m. All (MeetsClause (truth_in m)) (base_in b s.formula).clauses) (sym cut)
    (front_meets b s.formula is model (all_front (MeetsClause (truth_in model)) s.formula.clauses (map clause_of s.steps) has.is_model.meets)))

pub front_of-requires : goal.front_of-requires
front_of-requires g c =
    let size = c.requires.model.is_model.size in
    let within = c.requires.base.vars in
    omega (arith, size, within)

pub choose-requires-clause-base : goal.choose-requires-clause-base
choose-requires-clause-base g c = subst (IsBase c.args.base.now) (sym c.formula.ensures) c.requires.base

pub choose-requires-clause-met : goal.choose-requires-clause-met
choose-requires-clause-met g c =
    front_met c.args.base.now c.args.solver.now.kernel c.formula.result.now c.args.model.now c.front_of.result.now c.requires.base c.requires.model c.formula.ensures c.front_of.ensures

pub try_all-requires-clause-chosen : goal.try_all-requires-clause-chosen
try_all-requires-clause-chosen g c =
    has_chosen c.args.base.now c.args.solver.now.kernel c.formula.result.now c.args.model.now c.front_of.result.now c.in_ok-chosen.chosen.items c.requires.model c.formula.ensures c.front_of.ensures
    c.in_ok-chosen.ensures

pub learn-requires : goal.learn-requires
learn-requires g c =
    let b = c.args.base.now in
    let s = c.args.solver.now.kernel in
    let chosen = c.in_ok-chosen.chosen.items in
    let of_model = has_chosen b s c.formula.result.now c.args.model.now c.front_of.result.now chosen c.requires.model c.formula.ensures c.front_of.ensures c.in_ok-chosen.ensures in
    let scopes = map parts_of c.args.scopes.now in
    let found = subst (λ list. Any (IsConflictIn list c.in-Some.conflict) scopes) c.deref.ensures.value
    (subst (λ o. IfSome o (λ conflict. Any (IsConflictIn c.deref.result.now conflict) scopes)) c.in-Some.is c.in_ok-conflict.ensures.found) in
    makes_lemma b s chosen c.in-Some.conflict of_model (conflict_among s.formula chosen c.in-Some.conflict scopes c.requires.scopes found)

pub returns-in-Some-clause-round : goal.returns-in-Some-clause-round
returns-in-Some-clause-round g c =
    let b = c.args.base.now in
    let s = c.args.solver.now.kernel in
    let s' = c.learn.new.solver.kernel in
    let t = c.args.tableau.now in
    let chosen = c.in_ok-chosen.chosen.items in
    let conflict = c.in-Some.conflict in
    let of_model = has_chosen b s c.formula.result.now c.args.model.now c.front_of.result.now chosen c.requires.model c.formula.ensures c.front_of.ensures c.in_ok-chosen.ensures in
    let scopes = map parts_of c.args.scopes.now in
    let found = subst (λ list. Any (IsConflictIn list conflict) scopes) c.deref.ensures.value
    (subst (λ o. IfSome o (λ conflict. Any (IsConflictIn c.deref.result.now conflict) scopes)) c.in-Some.is c.in_ok-conflict.ensures.found) in
    IfOk-weaker c.learn.result (IsLemmaLearnt s s' conflict) (IsRound c.args.pivots b s s' t)
    (learnt_round c.args.pivots b s s' t chosen conflict c.requires.ready of_model (conflict_among s.formula chosen conflict scopes c.requires.scopes found)) c.learn.ensures
