use Rattle.std.proofs.Common.{◌∙◌, ap}
use Rattle.bt_rules.specs.PlaceRules.{cell_rules}
use Rattle.bt_place.specs.inner.Writing.{with_rules}
use Rattle.bt_place.proofs.Encoded.{drawn_numbered}
use Rattle.bt_place.proofs.Numbered.{cell_numbered}
use Rattle.bt_place.proofs.encoding.write_cell.Goals as goal

pub write-requires-clause-within : goal.write-requires-clause-within
write-requires-clause-within c = drawn_numbered c.args.request.now c.args.numbers.now c.args.formula.now.vars c.in_ok-draft.draft (cell_rules c.args.request.now c.args.cell) c.requires.encoding c.in_ok-draft.ensures
    (cell_numbered c.args.request.now c.requires.encoding.is_request c.args.cell c.requires.inside)

pub returns : goal.returns
returns c = c.in_ok-write.ensures ∙ ap (with_rules c.args.numbers.now c.args.formula.now) c.in_ok-draft.ensures
