use Rattle.std.proofs.Common.{◌-◌, ◌^◌, ◌<◌, arith, take, subst, sym, ap, ◌∙◌}
use Rattle.std.proofs.lemmas.List.{take_all}
use Rattle.std.proofs.lemmas.List.Elements.{All-more, All-same}
use Rattle.bt_frac.specs.Ratio.{IsLowest}
use Rattle.bt_frac.specs.Rows.{HaveColumns}
use Rattle.bt_frac.proofs.RowColumns.{column_more}
use Rattle.bt_frac.proofs.frac.columns.have_columns.Goals as goal

pub loop-column-preserved : goal.loop-column-preserved
loop-column-preserved c =
    let terms = c.args.terms.now in
    let term = c.loop-column-item.result in
    let i = c.loop-column.column-index in
    let below : term.0 < 2 ^ 64 - 1 = omega arith in
    record {
      columns = column_more (HaveColumns terms) terms i c.loop-column.least term c.loop-column-test.true c.loop-column-item.is c.if-column-least.false below c.loop-column.invariant.columns;
      known =
          All-more (λ t. IsLowest t.1) terms i term c.loop-column-test.true c.loop-column.invariant.known
          (subst IsLowest (c.coefficient.view_is ∙ ap (λ t. t.1) c.loop-column-item.is) c.coefficient.invariant);
    }

pub returns-clause-known : goal.returns-clause-known
returns-clause-known c true_is =
    All-same (λ t. IsLowest t.1) c.args.terms.now (take c.loop-column.column-index c.args.terms.now)
    (sym (take_all c.loop-column.column-index c.args.terms.now c.loop-column-test.false)) c.loop-column.invariant.known
