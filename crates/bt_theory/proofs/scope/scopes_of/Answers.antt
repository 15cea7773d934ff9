use Rattle.std.proofs.Common.{List, map, sym, subst}
use Rattle.std.specs.List.{All}
use Rattle.std.proofs.lemmas.List.{map_push}
use Rattle.std.proofs.lemmas.List.Elements.{All-push}
use Rattle.bt_theory.specs.inner.Scopes.{IsScopeOf, parts_of}
use Rattle.bt_theory.specs.declared.scope.Scope.{Scope}
use Rattle.bt_theory.proofs.scope.scopes_of.Goals as goal

pub loop-list-preserved : goal.loop-list-preserved
loop-list-preserved c =
    let f = c.args.formula.now in
    let scopes = c.loop-list.scopes.items in
    let scope = c.in_ok-scope_of.field-0 in
    subst (λ (list : List Scope). All (IsScopeOf f) (map parts_of list)) (sym c.in_ok-push.ensures.items)
    (subst (All (IsScopeOf f)) (sym (map_push parts_of scopes scope)) (All-push (IsScopeOf f) (map parts_of scopes) (parts_of scope) c.loop-list.invariant c.in_ok-scope_of.ensures))
