use Rattle.std.proofs.Common.{◌≡◌, map, take}
use Rattle.bt_facts.specs.Drafts.{rule_of}
use Rattle.bt_place.specs.inner.Writing.{with_rules}
use Rattle.bt_place.proofs.writing.write_rules.Given as goal

abbrev pub invariant-loop-place : goal.invariant-loop-place
invariant-loop-place l = l.formula ≡ with_rules l.numbers l.initial.formula (map rule_of (take l.place l.rules))
