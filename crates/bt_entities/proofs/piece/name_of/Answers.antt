use Rattle.std.proofs.Common.{refl, inl, inr}
use Rattle.bt_json.specs.Stands.{json_of}
use Rattle.bt_entities.specs.declared.fault.Member.TheVariants.{Name}
use Rattle.bt_entities.proofs.Lowest.{lowest_bad}
use Rattle.bt_entities.proofs.piece.name_of.Goals as goal

pub returns-in_default : goal.returns-in_default
returns-in_default c = inl (λ members major first.
    lowest_bad members major first c.args.place (json_of c.args.entity.now) Name (λ name u. c.in_default.ensures name u.0)
    (inr (λ wrong. wrong (c.if-not-is_object.ensures.0 refl), inl (c.in_default.ensures, refl))))
