use Rattle.std.proofs.Common.{◌<◌, ◌≤◌, length, map, take, ap, ◌∙◌, arith}
use Rattle.std.proofs.lemmas.List.{take_all}
use Rattle.bt_facts.specs.Drafts.{rule_of}
use Rattle.bt_place.specs.inner.Writing.{with_rules}
use Rattle.bt_place.proofs.Written.{with_none, has_after, place_written}
use Rattle.bt_place.proofs.writing.write_rules.Goals as goal

pub loop-place-init : goal.loop-place-init
loop-place-init c = with_none c.args.numbers.now c.args.formula.now

pub write_at-requires-clause-vars : goal.write_at-requires-clause-vars
write_at-requires-clause-vars c = has_after c.args.numbers.now c.args.formula.now c.loop-place.formula (map rule_of (take c.loop-place.place c.args.rules.now)) c.requires.vars c.loop-place.invariant

pub loop-place-preserved : goal.loop-place-preserved
loop-place-preserved c =
    let lt : c.loop-place.place < length c.args.rules.now = omega arith in
    place_written c.args.numbers.now c.args.formula.now c.loop-place.formula c.write_at.new.formula c.args.rules.now c.loop-place.place lt c.loop-place.invariant c.in_ok-write_at.ensures

pub returns : goal.returns
returns c =
    let most : length c.args.rules.now ≤ c.loop-place.place = omega arith in
    c.loop-place.invariant ∙ ap (λ l. with_rules c.args.numbers.now c.args.formula.now (map rule_of l)) (take_all c.loop-place.place c.args.rules.now most)
