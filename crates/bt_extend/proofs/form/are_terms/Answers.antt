use Rattle.std.proofs.Common.{◌≡◌, ◌-◌, ◌^◌, ◌<◌, ◌∙◌, pos, take, of_z, arith, refl, ap, sym, subst}
use Rattle.std.specs.Int.{w128}
use Rattle.std.proofs.lemmas.List.{take_all, drop_all}
use Rattle.std.proofs.lemmas.List.Elements.{All-more, All-same}
use Rattle.bt_frac.specs.Columns.{AreColumnsFrom}
use Rattle.bt_frac.specs.Ratio.{IsLowest}
use Rattle.bt_frac.specs.Rows.{HaveColumns, columns_of}
use Rattle.bt_frac.proofs.RowColumns.{column_more}
use Rattle.bt_extend.proofs.form.are_terms.Goals as goal

pub loop-column-preserved : goal.loop-column-preserved
loop-column-preserved c =
    let terms = c.args.terms.now in
    let term = c.loop-column-item.result in
    let i = c.loop-column.column-index in
    let below : term.0 < 2 ^ 64 - 1 = omega arith in
    record {
      columns = column_more (HaveColumns terms) terms i c.loop-column.least term c.loop-column-test.true c.loop-column-item.is c.if-column-least.false below c.loop-column.invariant.columns;
      nonzero = All-more (λ t. t.1.over ≡ pos 0 → ⊥) terms i term c.loop-column-test.true c.loop-column.invariant.nonzero
          (λ e. c.if-numerator-eq0.false (ap (of_z w128) (c.numerator.ensures.value ∙ ap (λ t. t.1.over) c.loop-column-item.is ∙ e)));
      known = All-more (λ t. IsLowest t.1) terms i term c.loop-column-test.true c.loop-column.invariant.known
          (subst IsLowest (ap (λ t. t.1) c.loop-column-item.is) c.numerator.ensures.known);
    }

pub returns : goal.returns
returns c =
    let terms = c.args.terms.now in
    let i = c.loop-column.column-index in
    let all = sym (take_all i terms c.loop-column-test.false) in (
      λ e. record {
        columns = c.loop-column.invariant.columns.1 (subst (λ ts. AreColumnsFrom c.loop-column.least (columns_of ts)) (sym (drop_all i terms c.loop-column-test.false)) tt);
        nonzero = All-same (λ t. t.1.over ≡ pos 0 → ⊥) terms (take i terms) all c.loop-column.invariant.nonzero;
        coefficients = All-same (λ t. IsLowest t.1) terms (take i terms) all c.loop-column.invariant.known;
      },
      λ a. refl,
    )
