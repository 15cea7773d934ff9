use Rattle.std.proofs.Common.{Err, ◌++◌, subst}
use Rattle.std.specs.Prelude.{codes}
use Rattle.std.proofs.lemmas.Result.{err_from_is_err_and}
use Rattle.bt_io.specs.Bytes.{WritesText}
use Rattle.bt_io.specs.Passages.{passage}
use Rattle.bt_io.specs.declared.fault.WriteFault.{WriteFault}
use Rattle.bt_io.proofs.Written.{writes_both, writes_no_more}
use Rattle.bt_log.specs.LogText.{words}
use Rattle.bt_extend.specs.Texts.{named_text}
use Rattle.bt_extend.proofs.Lines.{disjunction_line}
use Rattle.bt_extend.proofs.printing.print_disjunction.Goals as goal

pub returns-in_err-print_words : goal.returns-in_err-print_words
returns-in_err-print_words g c =
    let p = err_from_is_err_and c.from_residual.result c.from_residual.ensures.1 in
    let at = passage g.K.Sink.held g.K.Sink.faults c.args.sink.now c.print_words.new.sink in
    rw p.1
    (subst (λ t. WritesText {T = Unit {0}} {E = WriteFault} at t (Err p.0)) (disjunction_line c.args.lits.now)
    (writes_no_more _ _ at (codes "v" ++ words named_text c.args.lits.now) (codes " 0\n") c.in_err-print_words.ensures))

pub returns : goal.returns
returns g c =
    subst (λ t. WritesText (passage g.K.Sink.held g.K.Sink.faults c.args.sink.now c.write_all_of.new.sink) t c.write_all_of.result) (disjunction_line c.args.lits.now)
    (writes_both g.K.Sink.held g.K.Sink.faults c.args.sink.now c.print_words.new.sink c.write_all_of.new.sink (codes "v" ++ words named_text c.args.lits.now) (codes " 0\n") _
    c.write_all_of.result c.in_ok-print_words.ensures c.write_all_of.ensures)
