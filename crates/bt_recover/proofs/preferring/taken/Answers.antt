use Rattle.std.proofs.Common.{length, refl, subst}
use Rattle.std.proofs.lemmas.Bool.{iff_false}
use Rattle.std.proofs.lemmas.Option.{slice_get_past, slice_get_read}
use Rattle.bt_recover.specs.Preferred.{IsHalfOn}
use Rattle.bt_recover.proofs.PreferLemmas.{taken_never, taken_none, taken_here, taken_other}
use Rattle.bt_recover.proofs.preferring.taken.Goals as goal

pub returns-in_default-sink_half-clause-told : goal.returns-in_default-sink_half-clause-told
returns-in_default-sink_half-clause-told c = taken_never c.args.grid.now c.args.priorities.now c.args.splitters.now c.args.joint c.in_default-sink_half.is

pub returns-in_default-get-clause-told : goal.returns-in_default-get-clause-told
returns-in_default-get-clause-told c =
    taken_none c.args.grid.now c.args.priorities.now c.args.splitters.now c.args.joint c.in-Split.number c.in-Some.half c.in-Split.is c.in-Some.is (slice_get_past c.args.splitters.now c.in-Split.number c.in_default-get.ensures.lookup.3)

pub returns-then-is_half_on-clause-told : goal.returns-then-is_half_on-clause-told
returns-then-is_half_on-clause-told c =
    taken_here c.args.grid.now c.args.priorities.now c.args.splitters.now c.args.joint c.in-Split.number c.in-Some-get.at.now c.in-Some.half c.in-Split.is c.in-Some.is (slice_get_read c.args.splitters.now (length c.args.splitters.now) c.in-Split.number c.in-Some-get.at.now refl c.in-Some-get.ensures.lookup.3.0 c.in-Some-get.ensures.lookup.1)
    (subst (λ p. IsHalfOn c.args.grid.now c.in-Some-get.at.now p.take c.in-Some.half) c.priority_of.ensures (c.is_half_on.ensures.0 c.if-is_half_on.true))

pub returns-else-is_half_on-clause-told : goal.returns-else-is_half_on-clause-told
returns-else-is_half_on-clause-told c =
    taken_other c.args.grid.now c.args.priorities.now c.args.splitters.now c.args.joint c.in-Split.number c.in-Some-get.at.now c.in-Some.half c.in-Split.is c.in-Some.is (slice_get_read c.args.splitters.now (length c.args.splitters.now) c.in-Split.number c.in-Some-get.at.now refl c.in-Some-get.ensures.lookup.3.0 c.in-Some-get.ensures.lookup.1)
    (subst (λ p. IsHalfOn c.args.grid.now c.in-Some-get.at.now p.take c.in-Some.half → ⊥) c.priority_of.ensures (iff_false c.is_half_on.ensures c.if-is_half_on.false))
