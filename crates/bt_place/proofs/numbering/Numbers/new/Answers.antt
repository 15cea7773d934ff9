use Rattle.std.proofs.Common.{◌≡◌, List, [], ap, ◌∙◌, arith}
use Rattle.bt_facts.specs.declared.fact.Class.{Class}
use Rattle.bt_place.specs.Blocks.{starts_of}
use Rattle.bt_place.specs.Numbering.{variables}
use Rattle.bt_place.specs.PlaceFormula.{sizes_of}
use Rattle.bt_place.specs.inner.Blocks.{sizes_with}
use Rattle.bt_place.proofs.Sizing.{few_of_request, sizes_are}
use Rattle.bt_place.proofs.numbering.Numbers.new.Goals as goal

pub starts_of-starts-requires : goal.starts_of-starts-requires
starts_of-starts-requires c =
    let r = c.args.request.now in
    let classes = c.deref.ensures.value ∙ c.in_ok-classes.ensures in
    let same : variables (sizes_with c.extent_of-extent.result c.deref.result.now []) ≡ variables (sizes_of r) =
    ap variables (c.extent_of-extent.ensures c.deref.result.now []) ∙ ap (λ (l : List Class). variables (record (sizes_of r) { classes = l; ranks = [] })) classes in
    let small = few_of_request r c.net-net.ensures.request in
    omega (arith, same, small)

pub invariant_of-result : goal.invariant_of-result
invariant_of-result c =
    let classes = c.in_ok-classes.classes.items in
    let ranks = c.in_ok-ranks.ranks.items in
    record {
      request = c.args.request.now;
      is_request = c.net-net.ensures.request;
      of_request = sizes_are c.args.request.now classes ranks c.net-net.result.now (sizes_with c.extent_of-extent.result classes ranks)
          (c.extent_of-extent.ensures classes ranks) c.in_ok-classes.ensures c.in_ok-ranks.ensures c.net-net.ensures.net;
      begin = c.starts_of-starts.ensures ∙ ap (λ (l : List Class). starts_of (sizes_with c.extent_of-extent.result l [])) c.deref.ensures.value;
    }

pub returns-clause-sizes : goal.returns-clause-sizes
returns-clause-sizes c =
    let classes = c.in_ok-classes.classes.items in
    let ranks = c.in_ok-ranks.ranks.items in
    sizes_are c.args.request.now classes ranks c.net-net.result.now (sizes_with c.extent_of-extent.result classes ranks)
    (c.extent_of-extent.ensures classes ranks) c.in_ok-classes.ensures c.in_ok-ranks.ensures c.net-net.ensures.net
