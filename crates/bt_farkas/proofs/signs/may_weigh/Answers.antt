use Rattle.std.proofs.Common.{◌<◌, ◌≤◌, arith, length, subst, sym, take, refl}
use Rattle.std.proofs.lemmas.Bool.{false≢true}
use Rattle.std.proofs.lemmas.List.{take_all}
use Rattle.std.proofs.lemmas.List.Elements.{All-same}
use Rattle.bt_farkas.specs.FalseSums.{MayHave, MayWeigh}
use Rattle.bt_farkas.specs.WeightedRows.{weighted}
use Rattle.bt_farkas.proofs.Tested.{not_all, all_more}
use Rattle.bt_farkas.proofs.WeightedLemmas.{length-weighted, weighted_here}
use Rattle.bt_farkas.proofs.signs.may_weigh.Goals as goal

pub returns-then-not-may_have : goal.returns-then-not-may_have
returns-then-not-may_have c =
    let rows = c.args.rows.now in
    let picks = c.args.picks.now in
    let weights = c.args.weights.now in
    let i = c.loop-i.i in
    let row = c.index-rows-pick.result in
    let weight = c.index-weights-i.result in
    let inside : i < length (weighted rows picks weights) = omega (arith, length-weighted rows picks weights c.requires.weights) in
    let here = weighted_here rows picks weights i row weight c.requires.weights c.requires.picks c.loop-i-test.true c.index-rows-pick.is c.index-weights-i.is in (
      λ h. absurd (false≢true h),
      λ all.
          absurd (not_all MayWeigh (weighted rows picks weights) i (row, weight) inside here
          (λ may. false≢true (c.if-not-may_have.ensures.1 (subst (λ r. MayHave r weight) (sym c.relation.ensures) may))) all),
    )

pub loop-i-preserved : goal.loop-i-preserved
loop-i-preserved c =
    let rows = c.args.rows.now in
    let picks = c.args.picks.now in
    let weights = c.args.weights.now in
    let i = c.loop-i.i in
    let row = c.index-rows-pick.result in
    let weight = c.index-weights-i.result in
    let inside : i < length (weighted rows picks weights) = omega (arith, length-weighted rows picks weights c.requires.weights) in
    let here = weighted_here rows picks weights i row weight c.requires.weights c.requires.picks c.loop-i-test.true c.index-rows-pick.is c.index-weights-i.is in
    all_more MayWeigh (weighted rows picks weights) i (row, weight) inside here c.loop-i.invariant (subst (λ r. MayHave r weight) c.relation.ensures (c.if-not-may_have.ensures.0 refl))

pub returns : goal.returns
returns c =
    let sum = weighted c.args.rows.now c.args.picks.now c.args.weights.now in
    let all : length sum ≤ c.loop-i.i = omega (arith, length-weighted c.args.rows.now c.args.picks.now c.args.weights.now c.requires.weights) in
    (λ h. All-same MayWeigh sum (take c.loop-i.i sum) (sym (take_all c.loop-i.i sum all)) c.loop-i.invariant, λ h. refl)
