use Rattle.std.proofs.Common.{◌≤◌, length}
use Rattle.std.proofs.lemmas.Option.{MatchOption-at_some}
use Rattle.bt_entities.specs.declared.blueprint.TheConstants.{MOST_ENTITIES}
use Rattle.bt_layout.specs.inner.Likely.{IsLaidOut}
use Rattle.bt_layout.proofs.searching.early_layout.Goals as goal

pub returns-in-Some : goal.returns-in-Some
returns-in-Some c =
    let laid = MatchOption-at_some (Unit {0}) (λ parts. IsLaidOut c.args.request.now parts.items × (length parts.items ≤ MOST_ENTITIES)) c.in-Some.parts c.in-Some.is
    c.in_ok-parts.ensures in
    laid.0
