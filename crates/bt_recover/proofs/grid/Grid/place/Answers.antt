use Rattle.std.proofs.Common.{◌≡◌, length, Ok, Err, refl, subst, arith, ap, inl}
use Rattle.std.proofs.lemmas.Option.{slice_get-get_or}
use Rattle.bt_recover.specs.declared.grid.GridFault.TheVariants.{Overlap}
use Rattle.bt_recover.specs.inner.Index.{IsIndexOf}
use Rattle.bt_recover.specs.Placing.{IsFirstOverlap}
use Rattle.bt_recover.proofs.IndexLemmas.{overlap_found, index_more, placed}
use Rattle.bt_recover.proofs.OneAnswer.{placed_answers}
use Rattle.bt_recover.proofs.grid.Grid.place.Goals as goal

pub returns-in-Some : goal.returns-in-Some
returns-in-Some c =
    placed_answers c.args.parts.items (Err (Overlap c.in-Some.first c.loop-i.i))
    (inl (subst (λ parts. IsFirstOverlap parts c.in-Some.first c.loop-i.i) c.deref-part-items.ensures.value
    (overlap_found c.deref-part-items.result.now c.loop-i.i _ c.in-Some.first c.loop-i.cells
    (slice_get-get_or c.deref-part-items.result.now c.loop-i.i _ c.loop-i-test.true) c.loop-i.invariant c.in-Some.ensures)))

pub loop-i-preserved : goal.loop-i-preserved
loop-i-preserved c =
    index_more c.deref-part-items.result.now c.loop-i.i _ c.loop-i.cells c.add.new.cells
    (slice_get-get_or c.deref-part-items.result.now c.loop-i.i _ c.loop-i-test.true) c.loop-i.invariant c.in_default.ensures c.in_ok-add.ensures

whole : (c : goal.After-loop-i) → IsIndexOf c.args.parts.items (length c.args.parts.items) c.loop-i.cells
whole c =
    let same : c.loop-i.i ≡ length c.args.parts.items = omega (arith, ap length c.deref-part-items.ensures.value) in
    rw (← same) (subst (λ parts. IsIndexOf parts c.loop-i.i c.loop-i.cells) c.deref-part-items.ensures.value c.loop-i.invariant)

pub invariant_of-result : goal.invariant_of-result
invariant_of-result c = record { in_range = c.requires; index = whole c }

pub returns : goal.returns
returns c = placed_answers c.args.parts.items (Ok c.args.parts.items) (refl, placed c.args.parts.items c.loop-i.cells (whole c))
