use Rattle.std.proofs.Common.{◌++◌, map}
use Rattle.std.specs.Prelude.{codes}
use Rattle.std.proofs.lemmas.Result.{err_from_is_err_and}
use Rattle.bt_text.specs.Lines.{line}
use Rattle.bt_frac.specs.Texts.{frac_text}
use Rattle.bt_io.proofs.Written.{writes_both, writes_no_more}
use Rattle.bt_flow.specs.StateText.{mark_text, spaced}
use Rattle.bt_flow.proofs.printing.print_edges.Goals as goal

pub returns-in_err-print_line : goal.returns-in_err-print_line
returns-in_err-print_line g c =
    let p = err_from_is_err_and c.from_residual.result c.from_residual.ensures.1 in
    let t = c.args.state.now in
    rw p.1
    (writes_no_more _ _ _ (line (codes "flow" ++ spaced (map frac_text t.flows))) (line (codes "mark" ++ spaced (map mark_text t.backed)))
    (rw c.flows.ensures.flows at c.in_err-print_line.ensures))

pub returns : goal.returns
returns g c =
    let t = c.args.state.now in
    writes_both g.K.Sink.held g.K.Sink.faults c.args.sink.now c.print_line.new.sink c.print_line-2.new.sink (line (codes "flow" ++ spaced (map frac_text t.flows))) (line (codes "mark" ++ spaced (map mark_text t.backed))) _
    c.print_line-2.result (rw c.flows.ensures.flows at c.in_ok-print_line.ensures) (rw c.backed.ensures at c.print_line-2.ensures)
