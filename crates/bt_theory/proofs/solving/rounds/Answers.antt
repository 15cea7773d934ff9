use Rattle.std.proofs.Common.{List, map, sym, subst, ap, ◌∙◌}
use Rattle.std.specs.List.{All}
use Rattle.std.proofs.lemmas.List.{with_items_is}
use Rattle.bt_theory.specs.inner.Bases.{IsBase}
use Rattle.bt_theory.specs.inner.Rounds.{GoesOnOrEnds, IsRound}
use Rattle.bt_theory.specs.inner.Scopes.{IsScopeOf, parts_of}
use Rattle.bt_theory.specs.declared.scope.Scope.{Scope}
use Rattle.bt_theory.proofs.solving.rounds.Goals as goal

pub round-requires-clause-scopes : goal.round-requires-clause-scopes
round-requires-clause-scopes g c =
    let f = c.args.solver.now.kernel.formula in
    subst (λ f. All (IsScopeOf f) (map parts_of c.deref_mut.result.now)) (sym c.loop-said.invariant.formula)
    (subst (λ (list : List Scope). All (IsScopeOf f) (map parts_of list)) (sym c.deref_mut.ensures.value) c.loop-said.invariant.scopes)

pub round-requires-clause-base : goal.round-requires-clause-base
round-requires-clause-base g c = subst (IsBase c.args.base.now) (sym c.loop-said.invariant.formula) c.requires.base

pub returns-in-Some : goal.returns-in-Some
returns-in-Some g c =
    let round = subst (IsRound c.args.pivots c.args.base.now c.loop-said.solver.kernel c.round.new.solver.kernel c.round.new.tableau) c.in-Some.is c.in_ok-said.ensures.round in
    record { formula = round.formula ∙ c.loop-said.invariant.formula; limit = round.limit ∙ c.loop-said.invariant.limit; says = round.says }

pub loop-said-preserved : goal.loop-said-preserved
loop-said-preserved g c =
    let old = c.loop-said.solver.kernel in
    let new = c.round.new.solver.kernel in
    let round = c.in_ok-said.ensures.round in
    record {
      formula = round.formula ∙ c.loop-said.invariant.formula;
      limit = round.limit ∙ c.loop-said.invariant.limit;
      ready = (subst (GoesOnOrEnds c.args.pivots c.args.base.now old new c.round.new.tableau) c.in_default.is round.says).0;
      scopes =
          subst (All (IsScopeOf c.args.solver.now.kernel.formula))
          (sym (ap (map parts_of) (with_items_is c.loop-said.tables.scopes c.round.new.scopes (c.round.auto.scopes ∙ c.deref_mut.ensures.len)) ∙ c.in_ok-said.ensures.scopes
          ∙ ap (map parts_of) c.deref_mut.ensures.value)) c.loop-said.invariant.scopes;
    }
