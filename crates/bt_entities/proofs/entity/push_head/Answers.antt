use Rattle.std.proofs.Common.{◌∙◌, ap, ◌++◌}
use Rattle.std.specs.Prelude.{codes, decimal}
use Rattle.bt_entities.specs.Names.{prefix_of, stem_of}
use Rattle.bt_entities.specs.Written.{family_of}
use Rattle.bt_entities.proofs.Behind.{six_behind, number_and_name}
use Rattle.bt_entities.proofs.entity.push_head.Goals as goal

pub returns : goal.returns
returns c =
    let old = c.args.text.now.items in
    let a = codes "{\"entity_number\":" in
    let n = decimal c.args.number in
    let b = codes ",\"name\":\"" in
    let p = prefix_of c.args.part.tier in
    let s = stem_of (family_of c.args.part.kind) in
    let q = codes "\"" in
    six_behind old c.extend_from_slice.new.self.items c.push_number.new.text.items c.extend_from_slice-2.new.self.items c.extend_from_slice-3.new.self.items c.extend_from_slice-4.new.self.items c.extend_from_slice-5.new.self.items
    a n b p s q
    c.in_ok-extend_from_slice.ensures.items c.in_ok-push_number.ensures c.in_ok-extend_from_slice-2.ensures.items (rw c.prefix.ensures at c.in_ok-extend_from_slice-3.ensures.items)
    (rw c.stem.ensures at c.in_ok-extend_from_slice-4.ensures.items) c.in_ok-extend_from_slice-5.ensures.items
    ∙ ap (λ t. old ++ t) (number_and_name a n b p s q)
