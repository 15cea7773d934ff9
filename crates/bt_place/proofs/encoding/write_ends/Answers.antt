use Rattle.std.proofs.Common.{◌∙◌, ap}
use Rattle.bt_demands.specs.Ends.{end_rules}
use Rattle.bt_place.specs.inner.Writing.{with_rules}
use Rattle.bt_place.proofs.Encoded.{drawn_numbered}
use Rattle.bt_place.proofs.Numbered.{ends_numbered}
use Rattle.bt_place.proofs.encoding.write_ends.Goals as goal

pub write-requires-clause-within : goal.write-requires-clause-within
write-requires-clause-within c = drawn_numbered c.args.request.now c.args.numbers.now c.args.formula.now.vars c.in_ok-draft.draft (end_rules c.args.request.now) c.requires.encoding c.in_ok-draft.ensures
    (ends_numbered c.args.request.now c.requires.encoding.is_request)

pub returns : goal.returns
returns c = c.in_ok-write.ensures ∙ ap (with_rules c.args.numbers.now c.args.formula.now) c.in_ok-draft.ensures
