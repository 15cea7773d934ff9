use Rattle.std.proofs.Common.{pos, ◌∙◌, ap, arith, ◌≤◌, ◌++◌, length}
use Rattle.std.specs.Prelude.{codes}
use Rattle.std.specs.List.{join_with_byte}
use Rattle.bt_parts.specs.declared.part.Dir.TheVariants.{North}
use Rattle.bt_parts.specs.declared.part.Kind.TheVariants.{Belt}
use Rattle.bt_parts.specs.declared.part.Part.{Part}
use Rattle.bt_parts.specs.declared.part.Tier.TheVariants.{Basic}
use Rattle.bt_entities.specs.Written.{end_text, text_in}
use Rattle.bt_entities.proofs.Joining.{entity_pushed, all_pushed}
use Rattle.bt_entities.proofs.writing.text_of.Goals as goal

-- the part that stands for one past the end
abbrev no_part : Part
no_part = record { kind = Belt; tier = Basic; dir = North; cell = record { x = pos 0; y = pos 0 } }

pub loop-i-preserved : goal.loop-i-preserved
loop-i-preserved c =
    entity_pushed c.version_for-version.result c.args.priorities.now c.args.parts.now c.loop-i.i no_part (codes "{\"blueprint\":{\"item\":\"blueprint\",\"entities\":[") c.loop-i.text.items c.push_entity.new.text.items c.loop-i-test.true c.loop-i.invariant
    (rw c.priority_at.ensures at c.in_ok-push_entity.ensures)

pub returns : goal.returns
returns c =
    let ended : length c.args.parts.now ≤ c.loop-i.i = omega arith in
    let version = c.version_for-version.result in
    let priorities = c.args.priorities.now in
    c.in_ok-extend_from_slice.ensures.items
    ∙ ap (λ t. c.loop-i.text.items ++ t) c.end.ensures
    ∙ ap (λ t. t ++ end_text version) (c.loop-i.invariant ∙ ap (λ es. codes "{\"blueprint\":{\"item\":\"blueprint\",\"entities\":[" ++ join_with_byte 44 es) (all_pushed version priorities c.args.parts.now c.loop-i.i ended))
    ∙ ap (λ v. text_in v c.args.parts.now priorities) c.version_for-version.ensures
