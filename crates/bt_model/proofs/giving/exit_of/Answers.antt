use Rattle.std.proofs.lemmas.Bool.{iff_false}
use Rattle.std.proofs.lemmas.Option.{slice_get-get_or}
use Rattle.bt_model.proofs.HandLemmas.{exit_found, exit_of_none, exit_within}
use Rattle.bt_model.proofs.giving.exit_of.Goals as goal

pub returns-then-is_kind-clause-pair : goal.returns-then-is_kind-clause-pair
returns-then-is_kind-clause-pair c =
    exit_found c.args.parts.now c.args.a _ c.other_end.result (slice_get-get_or c.args.parts.now c.args.a _ c.requires.within) (c.is_kind.ensures.0 c.if-is_kind.true) c.other_end.ensures

pub returns-then-is_kind-clause-within : goal.returns-then-is_kind-clause-within
returns-then-is_kind-clause-within c = exit_within c.args.parts.now c.args.a c.other_end.result c.other_end.ensures

pub returns-else-is_kind-clause-pair : goal.returns-else-is_kind-clause-pair
returns-else-is_kind-clause-pair c =
    exit_of_none c.args.parts.now c.args.a _ (slice_get-get_or c.args.parts.now c.args.a _ c.requires.within) (iff_false c.is_kind.ensures c.if-is_kind.false)
