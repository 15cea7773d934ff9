use Rattle.std.proofs.Common.{◌∙◌, ap}
use Rattle.bt_demands.specs.Counting.{count_rules}
use Rattle.bt_place.specs.inner.Writing.{with_rules}
use Rattle.bt_place.proofs.Encoded.{drawn_numbered}
use Rattle.bt_place.proofs.Numbered.{counts_numbered}
use Rattle.bt_place.proofs.encoding.write_counts.Goals as goal

pub write-requires-clause-within : goal.write-requires-clause-within
write-requires-clause-within c = drawn_numbered c.args.request.now c.args.numbers.now c.args.formula.now.vars c.in_ok-draft.draft (count_rules c.args.request.now) c.requires.encoding c.in_ok-draft.ensures
    (counts_numbered c.args.request.now c.requires.encoding.is_request c.requires.room)

pub returns : goal.returns
returns c = c.in_ok-write.ensures ∙ ap (with_rules c.args.numbers.now c.args.formula.now) c.in_ok-draft.ensures
