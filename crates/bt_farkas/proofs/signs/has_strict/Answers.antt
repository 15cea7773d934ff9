use Rattle.std.proofs.Common.{◌<◌, ◌≤◌, arith, length, subst, sym, refl}
use Rattle.std.specs.List.{Any}
use Rattle.std.proofs.lemmas.Bool.{false≢true}
use Rattle.std.proofs.lemmas.List.{take_all}
use Rattle.bt_farkas.specs.FalseSums.{MakesStrict, IsStrict}
use Rattle.bt_farkas.specs.WeightedRows.{weighted}
use Rattle.bt_farkas.proofs.Tested.{some_found, none_more}
use Rattle.bt_farkas.proofs.WeightedLemmas.{length-weighted, weighted_here}
use Rattle.bt_farkas.proofs.signs.has_strict.Goals as goal

pub returns-then-is_strict : goal.returns-then-is_strict
returns-then-is_strict c =
    let rows = c.args.rows.now in
    let picks = c.args.picks.now in
    let weights = c.args.weights.now in
    let i = c.loop-i.i in
    let row = c.index-rows-pick.result in
    let weight = c.index-weights-i.result in
    let inside : i < length (weighted rows picks weights) = omega (arith, length-weighted rows picks weights c.requires.weights) in
    let here = weighted_here rows picks weights i row weight c.requires.weights c.requires.picks c.loop-i-test.true c.index-rows-pick.is c.index-weights-i.is in
    (λ h. some_found IsStrict (weighted rows picks weights) i (row, weight) inside here (subst (λ r. MakesStrict r weight) c.relation.ensures (c.if-is_strict.ensures.0 refl)), λ h. refl)

pub loop-i-preserved : goal.loop-i-preserved
loop-i-preserved c =
    let rows = c.args.rows.now in
    let picks = c.args.picks.now in
    let weights = c.args.weights.now in
    let i = c.loop-i.i in
    let row = c.index-rows-pick.result in
    let weight = c.index-weights-i.result in
    let inside : i < length (weighted rows picks weights) = omega (arith, length-weighted rows picks weights c.requires.weights) in
    let here = weighted_here rows picks weights i row weight c.requires.weights c.requires.picks c.loop-i-test.true c.index-rows-pick.is c.index-weights-i.is in
    none_more IsStrict (weighted rows picks weights) i (row, weight) inside here c.loop-i.invariant
    (λ strict. false≢true (c.if-is_strict.ensures.1 (subst (λ r. MakesStrict r weight) (sym c.relation.ensures) strict)))

pub returns : goal.returns
returns c =
    let sum = weighted c.args.rows.now c.args.picks.now c.args.weights.now in
    let all : length sum ≤ c.loop-i.i = omega (arith, length-weighted c.args.rows.now c.args.picks.now c.args.weights.now c.requires.weights) in
    (λ h. absurd (false≢true h), λ some. absurd (c.loop-i.invariant (subst (Any IsStrict) (sym (take_all c.loop-i.i sum all)) some)))
