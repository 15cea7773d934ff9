use Rattle.std.proofs.Common.{◌≢◌, ◌∙◌, arith, subst}
use Rattle.std.proofs.lemmas.List.{get_or_default}
use Rattle.bt_farkas.proofs.runs.run_length.Goals as goal

pub returns-then-entry-column : goal.returns-then-entry-column
returns-then-entry-column c =
    let e = c.index-entries-i.result in
    record {
      within = omega arith;
      same = c.loop-i.invariant;
      other = λ d inside. subst (λ x. x.column ≢ c.args.column) (c.index-entries-i.is ∙ get_or_default c.args.entries.now c.loop-i.i e d inside) c.if-entry-column.true;
    }
