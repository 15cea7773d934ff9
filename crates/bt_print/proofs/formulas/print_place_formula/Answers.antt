use Rattle.std.proofs.Common.{sym, ◌∙◌, ap}
use Rattle.std.specs.List.{flat_map}
use Rattle.std.proofs.lemmas.List.Folds.{flat_map-map}
use Rattle.std.proofs.lemmas.Result.{err_from_is_err_and}
use Rattle.bt_io.specs.Passages.{passage}
use Rattle.bt_io.proofs.Written.{writes_both, writes_no_more}
use Rattle.bt_print.specs.FormulaText.{clauses_text}
use Rattle.bt_print.specs.Legends.{block_line, place_blocks}
use Rattle.bt_print.specs.inner.Blocks.{block_told}
use Rattle.bt_print.proofs.formulas.print_place_formula.Goals as goal

pub returns-in_err-print_blocks : goal.returns-in_err-print_blocks
returns-in_err-print_blocks g c =
    let p = err_from_is_err_and c.from_residual.result c.from_residual.ensures.1 in
    let blocks = sym (flat_map-map block_line block_told c.place_blocks.result) ∙ ap (flat_map block_line) c.place_blocks.ensures in
    rw p.1
    (writes_no_more _ _ (passage g.K.Sink.held g.K.Sink.faults c.args.sink.now c.print_blocks.new.sink) (flat_map block_line (place_blocks c.args.starts)) (clauses_text c.args.formula.now)
    (rw blocks at c.in_err-print_blocks.ensures))

pub returns : goal.returns
returns g c =
    let blocks = sym (flat_map-map block_line block_told c.place_blocks.result) ∙ ap (flat_map block_line) c.place_blocks.ensures in
    writes_both g.K.Sink.held g.K.Sink.faults c.args.sink.now c.print_blocks.new.sink c.print_clauses.new.sink (flat_map block_line (place_blocks c.args.starts)) (clauses_text c.args.formula.now) tt
    c.print_clauses.result (rw blocks at c.in_ok-print_blocks.ensures) c.print_clauses.ensures
