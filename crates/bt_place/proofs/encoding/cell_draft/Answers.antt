use Rattle.std.proofs.Common.{◌++◌, ◌∙◌, ap}
use Rattle.bt_rules.specs.PlaceRules.{cell_rules}
use Rattle.bt_place.proofs.encoding.cell_draft.Goals as goal

pub returns : goal.returns
returns c = c.in_ok-add_cell.ensures ∙ ap (λ d. d ++ cell_rules c.args.request.now c.args.cell) c.in_ok-draft.ensures
