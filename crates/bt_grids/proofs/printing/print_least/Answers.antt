use Rattle.std.proofs.Common.{◌++◌, sym, ◌∙◌, ap, subst}
use Rattle.bt_io.specs.Bytes.{WritesText}
use Rattle.bt_io.specs.Passages.{passage}
use Rattle.bt_grids.specs.SmallestText.{blueprint_of, earlier_text, grid_line, least_text}
use Rattle.bt_grids.proofs.printing.print_least.Goals as goal

pub returns-in-Found : goal.returns-in-Found
returns-in-Found g c = λ priorities is.
    let sink = passage g.K.Sink.held g.K.Sink.faults c.args.sink.now c.print_found.new.sink in
    let found = c.in-Found in
    subst (λ answer. WritesText sink (least_text answer priorities) c.print_found.result) (sym found.is)
    (subst (λ text. WritesText sink (earlier_text found.earlier.items ++ grid_line found.grid ++ text) c.print_found.result) (is ∙ ap (λ answer. blueprint_of answer priorities) found.is)
    (subst (λ earlier. WritesText sink (earlier_text earlier ++ grid_line found.grid ++ c.args.blueprint.now) c.print_found.result) c.deref.ensures.value c.print_found.ensures))

pub returns-in-Spent : goal.returns-in-Spent
returns-in-Spent g c = λ priorities is.
    let sink = passage g.K.Sink.held g.K.Sink.faults c.args.sink.now c.print_spent.new.sink in
    subst (λ answer. WritesText sink (least_text answer priorities) c.print_spent.result) (sym c.in-Spent.is) c.print_spent.ensures
