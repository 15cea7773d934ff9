use Rattle.std.proofs.Common.{◌<◌, Ok, Err, length, ap, subst, sym, ◌∙◌, inl, slice_index_or}
use Rattle.std.specs.List.{All}
use Rattle.std.proofs.lemmas.List.{length-map}
use Rattle.bt_text.proofs.OneAnswer.{answers_of}
use Rattle.bt_frac.specs.Rows.{columns_in}
use Rattle.bt_farkas.specs.Farkas.{IsSumJudged}
use Rattle.bt_farkas.specs.WeightedRows.{empty_row, picked, weighted}
use Rattle.bt_farkas.specs.inner.Gathering.{AreGathered}
use Rattle.bt_farkas.specs.inner.Totals.{AreColumns}
use Rattle.bt_farkas.specs.declared.gathering.Entry.{Entry}
use Rattle.bt_farkas.specs.declared.wide.SumFault.TheVariants.{Wide, Memory}
use Rattle.bt_farkas.proofs.FarkasLemmas.{one_sum_judged}
use Rattle.bt_farkas.proofs.WeightedLemmas.{entries_of_picked, rows_of_weighted}
use Rattle.bt_farkas.proofs.weigher.Weigher.farkas.Goals as goal

pub sum_runs-columns-requires-clause-rows : goal.sum_runs-columns-requires-clause-rows
sum_runs-columns-requires-clause-rows c =
    let rows = c.args.rows.now in
    let picks = c.args.picks.now in
    subst (λ es. All (λ (e : Entry). e.row < length c.args.weights.now) es) (sym c.deref.ensures.value)
    (subst (λ n. All (λ (e : Entry). e.row < n) c.gather.new.entries.items) (length-map picks (λ p. slice_index_or rows p empty_row) ∙ sym c.requires.weights) c.in_ok-gather.ensures.rows_below)

pub judged-requires-clause-columns : goal.judged-requires-clause-columns
judged-requires-clause-columns c =
    let rows = c.args.rows.now in
    let picks = c.args.picks.now in
    let weights = c.args.weights.now in
    let sum = weighted rows picks weights in
    let gathered = subst (AreGathered (picked rows picks)) (sym c.deref.ensures.value) c.in_ok-gather.ensures in
    subst (λ cs. AreColumns sum cs c.sum_runs-columns.result) (ap columns_in (rows_of_weighted rows picks weights c.requires.weights))
    (c.sum_runs-columns.ensures sum (entries_of_picked rows picks weights c.deref.result.now c.requires.weights gathered))

pub returns-in-Ok : goal.returns-in-Ok
returns-in-Ok c =
    let sum = weighted c.args.rows.now c.args.picks.now c.args.weights.now in
    answers_of Memory (IsSumJudged sum) (one_sum_judged sum) (Ok c.in-Ok.is_false) c.in-Ok.ensures

pub returns-in-Err : goal.returns-in-Err
returns-in-Err c =
    let sum = weighted c.args.rows.now c.args.picks.now c.args.weights.now in
    answers_of Memory (IsSumJudged sum) (one_sum_judged sum) (Err (Wide c.in-Err.at)) (inl c.in-Err.ensures)
