use Rattle.std.proofs.Common.{◌<◌, ◌∙◌, ◌+◌, arith, length, get_or, take, sym, subst}
use Rattle.std.proofs.lemmas.List.{get_or_default}
use Rattle.bt_frac.specs.Values.{nothing}
use Rattle.bt_farkas.specs.RunningSums.{RunsTo}
use Rattle.bt_farkas.specs.WeightedRows.{weighted, pairs_at}
use Rattle.bt_farkas.proofs.PlaceLemmas.{wide_at, total_more, total_stays}
use Rattle.bt_farkas.proofs.WeightedLemmas.{length-weighted, weighted_here}
use Rattle.bt_farkas.proofs.combining.total.Goals as goal
use Rattle.bt_farkas.proofs.combining.total.Goals.{in-Some+in-Some-add_product, in_default}

pub returns-in_default-add_product : goal.returns-in_default-add_product
returns-in_default-add_product c =
    let rows = c.args.rows.now in
    let picks = c.args.picks.now in
    let weights = c.args.weights.now in
    let i = c.loop-i.i in
    let row = c.index-rows-picks.result in
    let weight = c.index-weights-i.result in
    let within : i < length picks = omega arith in
    let inside : i < length (weighted rows picks weights) = omega (arith, length-weighted rows picks weights c.requires.weights) in
    let here = weighted_here rows picks weights i row weight c.requires.weights c.requires.picks within c.index-rows-picks.is c.index-weights-i.is in (
      c.loop-i-test.true,
      wide_at c.args.place (weighted rows picks weights) i (row, weight) c.in-Some.part c.loop-i.sum inside here (sym c.part.ensures ∙ c.in-Some.is) c.loop-i.invariant c.in_default-add_product.ensures.none,
    )

pub loop-i-preserved : goal.loop-i-preserved
loop-i-preserved c =
    let rows = c.args.rows.now in
    let picks = c.args.picks.now in
    let weights = c.args.weights.now in
    let sum = weighted rows picks weights in
    let place = c.args.place in
    let i = c.loop-i.i in
    let row = c.index-rows-picks.result in
    let within : i < length picks = omega arith in
    let inside : i < length sum = omega (arith, length-weighted rows picks weights c.requires.weights) in
    elim c.match-part.branch [
      | in-Some+in-Some-add_product w ↦
          let here = weighted_here rows picks weights i row w.index-weights-i.result c.requires.weights c.requires.picks within c.index-rows-picks.is w.index-weights-i.is in
          subst (λ t. RunsTo nothing (pairs_at place (take (i + 1) sum)) t) (sym w.sum-is)
          (total_more place sum i (row, w.index-weights-i.result) w.in-Some.part c.loop-i.sum w.in-Some-add_product.next inside here
          (sym c.part.ensures ∙ w.in-Some.is) c.loop-i.invariant w.in-Some-add_product.ensures.some)
      | in_default w ↦
          let weight = get_or weights i nothing in
          let here = weighted_here rows picks weights i row weight c.requires.weights c.requires.picks within c.index-rows-picks.is (get_or_default weights i nothing weight (omega arith)) in
          subst (λ t. RunsTo nothing (pairs_at place (take (i + 1) sum)) t) (sym w.sum-is)
          (total_stays place sum i (row, weight) c.loop-i.sum inside here (sym c.part.ensures ∙ w.in_default.is) c.loop-i.invariant)
    ]
