use Rattle.std.proofs.Common.{◌≡◌, ◌<◌, ◌-◌, ◌+◌, ◌^◌, arith, rules, length, slice_get, Some, List, sym, subst, ℕ}
use Rattle.bt_frac.specs.Ratio.{Ratio}
use Rattle.bt_frac.specs.Rows.{RowParts, IsRow}
use Rattle.bt_cnf.proofs.Ends.{IsLast, last_is}
use Rattle.bt_cnf.proofs.formula.end_column.Goals as goal

last_of : (row : RowParts) (terms : List (ℕ × Ratio)) (t : ℕ × Ratio) → terms ≡ row.terms → IsRow row → Some t ≡ slice_get terms (length terms - 1) → IsLast 0 row.terms t
last_of row terms t same is last = last_is 0 row.terms t is.columns (subst (λ ts. slice_get ts (length ts - 1) ≡ Some t) same (sym last))

fits : (n : ℕ) → n < 2 ^ 64 - 1 → n + 1 < 2 ^ 64
fits n h = omega arith

pub overflow_add-result : goal.overflow_add-result
overflow_add-result c =
    let last = last_of c.args.row.now c.terms.result.now c.in-Some.field-0.now c.terms.ensures.value c.terms.ensures.known c.in-Some.ensures.value in
    let small = fits c.in-Some.field-0.now.0 last.below in
    search rules

pub returns-in-Some-clause-end : goal.returns-in-Some-clause-end
returns-in-Some-clause-end c =
    sym (last_of c.args.row.now c.terms.result.now c.in-Some.field-0.now c.terms.ensures.value c.terms.ensures.known c.in-Some.ensures.value).end
