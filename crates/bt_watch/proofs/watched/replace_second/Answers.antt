use Rattle.std.proofs.Common.{◌≡◌, ◌<◌, arith, length, sym, subst, ap, refl, ◌∙◌}
use Rattle.std.specs.Prelude.{slice_index_or}
use Rattle.std.specs.List.{swap}
use Rattle.bt_cnf.proofs.Lists.{any_default}
use Rattle.bt_watch.proofs.watched.replace_second.Goals as goal

pub can_watch-requires : goal.can_watch-requires
can_watch-requires c =
    let i = c.loop-place.place in
    let l = c.index-lits-place.result in
    let is : slice_index_or c.args.lits.now i l ≡ l = ap (λ ls. slice_index_or ls i l) (sym c.loop-place.invariant.same) ∙ sym c.index-lits-place.is in
    subst (λ m. m.var < length c.args.values.now) is (c.requires.variables i l (omega arith))

pub returns-then-can_watch : goal.returns-then-can_watch
returns-then-can_watch c =
    let i = c.loop-place.place in
    let l = c.index-lits-place.result in
    let is : slice_index_or c.args.lits.now i l ≡ l = ap (λ ls. slice_index_or ls i l) (sym c.loop-place.invariant.same) ∙ sym c.index-lits-place.is in
    let below : i < length c.args.lits.now = omega arith in
    record {
      place = i;
      behind = omega arith;
      within = below;
      swapped = c.swap.ensures.after ∙ ap (λ ls. swap ls 1 i) c.loop-place.invariant.same;
      stood = any_default (λ m. m ≡ l) c.args.lits.now i l below is refl;
      not_false = c.if-can_watch.ensures.0;
      differs = c.if-can_watch.ensures.1;
    }

pub returns : goal.returns
returns c = record { same = c.loop-place.invariant.same; falses = λ k d from below. c.loop-place.invariant.falses k d from (omega arith) }
