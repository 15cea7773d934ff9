use Rattle.std.proofs.Common.{◌∙◌, ap}
use Rattle.bt_rules.specs.PlaceRules.{splitter_rules}
use Rattle.bt_place.specs.inner.Writing.{with_rules}
use Rattle.bt_place.proofs.Encoded.{drawn_numbered}
use Rattle.bt_place.proofs.Numbered.{splitter_numbered}
use Rattle.bt_place.proofs.encoding.write_splitter.Goals as goal

pub write-requires-clause-within : goal.write-requires-clause-within
write-requires-clause-within c = drawn_numbered c.args.request.now c.args.numbers.now c.args.formula.now.vars c.in_ok-draft.draft (splitter_rules c.args.request.now c.args.gate.now.splitter) c.requires.encoding c.in_ok-draft.ensures
    (splitter_numbered c.args.request.now c.requires.encoding.is_request c.args.gate.now.splitter c.requires.there)

pub returns : goal.returns
returns c = c.in_ok-write.ensures ∙ ap (with_rules c.args.numbers.now c.args.formula.now) c.in_ok-draft.ensures
