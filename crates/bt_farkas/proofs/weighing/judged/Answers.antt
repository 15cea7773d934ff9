use Rattle.std.proofs.Common.{◌≡◌, ◌<◌, arith, Bool, true, IsTrue, ◌↔◌, IfSome, IfNone, length, ap, subst, inl, inr, ℕ}
use Rattle.std.specs.List.{Any}
use Rattle.std.proofs.lemmas.Bool.{false≢true}
use Rattle.bt_frac.specs.Ratio.{Ratio}
use Rattle.bt_farkas.specs.FalseSums.{IsStrict, IsFalseBound, Cancels}
use Rattle.bt_frac.specs.Rows.{columns_in}
use Rattle.bt_farkas.specs.WeightedRows.{picked, weighted}
use Rattle.bt_farkas.specs.inner.Totals.{IsFirstColumn}
use Rattle.bt_farkas.proofs.FarkasLemmas.{bound_wide, column_wide, none_wide}
use Rattle.bt_farkas.proofs.WeightedLemmas.{length-weighted, rows_of_weighted}
use Rattle.bt_farkas.proofs.weighing.judged.Goals as goal

told_by : (answer cancel strict : Bool) (bound : Ratio) (Q : Type 0) → cancel ≡ true → (IsTrue answer ↔ IsFalseBound bound (IsTrue strict)) → (IsTrue strict ↔ Q)
    → IsTrue answer ↔ (IsTrue cancel × IsFalseBound bound Q)
told_by answer cancel strict bound Q all told is = (λ h. (all, forth (told.0 h)), λ p. told.1 (back p.1))
  where
    forth : IsFalseBound bound (IsTrue strict) → IsFalseBound bound Q
    forth (inl p) = inl p
    forth (inr p) = inr (p.0, is.0 p.1)

    back : IsFalseBound bound Q → IsFalseBound bound (IsTrue strict)
    back (inl p) = inl p
    back (inr p) = inr (p.0, is.1 p.1)

pub total-requires-clause-within : goal.total-requires-clause-within
total-requires-clause-within c =
    omega (arith, length-weighted c.args.rows.now c.args.picks.now c.args.weights.now c.requires.weights, c.requires.columns.0.within)

pub returns-in-Err : goal.returns-in-Err
returns-in-Err c =
    let rows = c.args.rows.now in
    let picks = c.args.picks.now in
    let sum = weighted rows picks c.args.weights.now in
    let columns = c.args.columns in
    (bound_wide sum (columns_in (picked rows picks)) (ap columns_in (rows_of_weighted rows picks c.args.weights.now c.requires.weights)) columns c.requires.columns
    c.requires.may_weigh c.in-Err.row c.in-Err.ensures.0 c.in-Err.ensures.1)

pub returns-in-Some : goal.returns-in-Some
returns-in-Some c =
    let rows = c.args.rows.now in
    let picks = c.args.picks.now in
    let sum = weighted rows picks c.args.weights.now in
    let columns = c.args.columns in
    let are = c.requires.columns in
    let found = subst (λ o. IfSome o (λ column. (column < columns.end) × IsFirstColumn sum columns.limit column)) c.in-Some.is are.0.some in
    (column_wide sum (columns_in (picked rows picks)) (ap columns_in (rows_of_weighted rows picks c.args.weights.now c.requires.weights)) columns are
    c.requires.may_weigh c.in-Some.column c.in-Ok.bound c.in-Ok.ensures found)

pub returns-then-columns : goal.returns-then-columns
returns-then-columns c =
    let rows = c.args.rows.now in
    let picks = c.args.picks.now in
    let sum = weighted rows picks c.args.weights.now in
    let columns = c.args.columns in
    let are = c.requires.columns in
    let none = subst (λ o. IfNone o ((columns.limit ≡ length sum) × (IsTrue columns.cancel ↔ ((column : ℕ) → column < columns.end → Cancels sum column)))) c.in-None.is are.0.none in
    (none_wide sum (columns_in (picked rows picks)) (ap columns_in (rows_of_weighted rows picks c.args.weights.now c.requires.weights)) columns are
    c.requires.may_weigh c.in-Ok.bound c.is_false.result c.in-Ok.ensures none.0 none.1
    (told_by c.is_false.result columns.cancel c.has_strict.result c.in-Ok.bound (Any IsStrict sum) c.if-columns.true c.is_false.ensures c.has_strict.ensures))

pub returns-else-columns : goal.returns-else-columns
returns-else-columns c =
    let rows = c.args.rows.now in
    let picks = c.args.picks.now in
    let sum = weighted rows picks c.args.weights.now in
    let columns = c.args.columns in
    let are = c.requires.columns in
    let none = subst (λ o. IfNone o ((columns.limit ≡ length sum) × (IsTrue columns.cancel ↔ ((column : ℕ) → column < columns.end → Cancels sum column)))) c.in-None.is are.0.none in
    (none_wide sum (columns_in (picked rows picks)) (ap columns_in (rows_of_weighted rows picks c.args.weights.now c.requires.weights)) columns are
    c.requires.may_weigh c.in-Ok.bound columns.cancel c.in-Ok.ensures none.0 none.1
    (λ h. absurd (false≢true (subst (λ b. b ≡ true) c.if-columns.false h)), λ p. p.0))
