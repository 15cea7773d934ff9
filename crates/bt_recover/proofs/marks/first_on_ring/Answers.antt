use Rattle.std.proofs.Common.{◌≡◌, length, ap, subst, arith}
use Rattle.std.specs.Option.{MatchOption}
use Rattle.bt_model.specs.Orderly.{Never}
use Rattle.bt_recover.specs.Recovered.{IsFirst}
use Rattle.bt_recover.specs.inner.Marks.{IsUnmarkedLink}
use Rattle.bt_recover.proofs.MarkLemmas.{starts_more, first_ring, HasStarts}
use Rattle.bt_recover.proofs.marks.first_on_ring.Goals as goal

pub loop-i-preserved : goal.loop-i-preserved
loop-i-preserved c = record {
  are = c.mark_chain.ensures.marks;
  starts = starts_more c.args.grid.now c.loop-i.marks.items c.mark_chain.new.marks.items c.loop-i.i c.mark_chain.ensures.keeps c.loop-i.invariant.starts c.mark_chain.ensures.chain;
}

pub returns : goal.returns
returns c =
    let all : c.loop-i.i ≡ length c.args.grid.now = omega (arith, ap length c.parts-count.ensures.value) in
    first_ring c.args.grid.now c.requires.orderly.well_placed c.loop-i.marks.items c.loop-i.invariant.are
    (subst (λ n. HasStarts c.args.grid.now c.loop-i.marks.items n) all c.loop-i.invariant.starts)
    c.first_unmarked.result
    (subst (λ marks. MatchOption c.first_unmarked.result (Never (IsUnmarkedLink c.args.grid.now marks)) (IsFirst (IsUnmarkedLink c.args.grid.now marks)))
    c.deref.ensures.value c.first_unmarked.ensures)
