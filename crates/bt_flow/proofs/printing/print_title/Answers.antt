use Rattle.std.proofs.Common.{[], ◌∷◌, ◌∙◌}
use Rattle.std.specs.Prelude.{codes}
use Rattle.std.proofs.lemmas.Result.{err_from_is_err_and}
use Rattle.bt_io.proofs.Pieces.{first_failed, second_failed, three_written}
use Rattle.bt_flow.specs.Names.{property_name}
use Rattle.bt_flow.proofs.printing.print_title.Goals as goal

pub returns-in_err-write_all_of : goal.returns-in_err-write_all_of
returns-in_err-write_all_of g c =
    let p = err_from_is_err_and c.from_residual.result c.from_residual.ensures.1 in
    rw p.1 (first_failed g.K.Sink.held g.K.Sink.faults c.args.sink.now c.write_all_of.new.sink c.write_all_of.new.sink c.write_all_of.new.sink (codes "no ") (property_name c.args.property) (10 ∷ []) _ _ c.in_err-write_all_of.ensures)

pub returns-in_err-write_all_of-2 : goal.returns-in_err-write_all_of-2
returns-in_err-write_all_of-2 g c =
    let p = err_from_is_err_and c.from_residual-in_err-write_all_of-2.result c.from_residual-in_err-write_all_of-2.ensures.1 in
    let name = c.as_bytes.ensures.value ∙ c.name.ensures in
    rw p.1 (second_failed g.K.Sink.held g.K.Sink.faults c.args.sink.now c.write_all_of.new.sink c.write_all_of-2.new.sink c.write_all_of-2.new.sink (codes "no ") (property_name c.args.property) (10 ∷ []) _ _ c.in_ok-write_all_of.ensures
    (rw name at c.in_err-write_all_of-2.ensures))

pub returns : goal.returns
returns g c =
    let name = c.as_bytes.ensures.value ∙ c.name.ensures in
    three_written g.K.Sink.held g.K.Sink.faults c.args.sink.now c.write_all_of.new.sink c.write_all_of-2.new.sink c.write_all_of-3.new.sink (codes "no ") (property_name c.args.property) (10 ∷ []) c.write_all_of-3.result c.in_ok-write_all_of.ensures
    (rw name at c.in_ok-write_all_of-2.ensures) c.write_all_of-3.ensures
