use Rattle.std.proofs.Common.{◌∷◌, [], ap, ◌∙◌}
use Rattle.bt_facts.specs.Drafts.{rule_of}
use Rattle.bt_place.specs.inner.Writing.{with_rules}
use Rattle.bt_place.proofs.Written.{rule_at, read_at}
use Rattle.bt_place.proofs.writing.write_at.Goals as goal

pub write_rule-requires-clause-within : goal.write_rule-requires-clause-within
write_rule-requires-clause-within c =
    let is = read_at c.args.rules.now c.args.place c.in-Some.id c.slice.result.now c.in-Some.ensures.some c.slice.ensures in
    rule_at c.args.numbers.now c.args.rules.now c.args.place c.slice.result.now c.requires.within c.requires.place is

pub returns : goal.returns
returns c =
    let is = read_at c.args.rules.now c.args.place c.in-Some.id c.slice.result.now c.in-Some.ensures.some c.slice.ensures in
    c.in_ok-write_rule.ensures ∙ ap (λ l. with_rules c.args.numbers.now c.args.formula.now (rule_of l ∷ [])) is
