use Rattle.std.proofs.Common.{sym, ◌∙◌, ap, refl, subst}
use Rattle.bt_io.specs.Bytes.{WritesText}
use Rattle.bt_io.specs.Passages.{passage}
use Rattle.bt_print.specs.Answers.{gave_up_text, text_of}
use Rattle.bt_print.specs.Lines.{formed_text}
use Rattle.bt_print.proofs.Formed.{formed_whole}
use Rattle.bt_print.proofs.printing.print_answer.Goals as goal

pub returns-in-Brief : goal.returns-in-Brief
returns-in-Brief g c =
    subst (λ text. WritesText (passage g.K.Sink.held g.K.Sink.faults c.args.sink.now c.write_all_of.new.sink) text c.write_all_of.result)
    (c.requires ∙ formed_whole c.args.answer.now _ c.in-Brief.is refl) c.write_all_of.ensures

pub returns-in-LaidOut : goal.returns-in-LaidOut
returns-in-LaidOut g c =
    subst (λ text. WritesText (passage g.K.Sink.held g.K.Sink.faults c.args.sink.now c.write_all_of-in-LaidOut.new.sink) text c.write_all_of-in-LaidOut.result)
    (c.requires ∙ formed_whole c.args.answer.now _ c.in-LaidOut.is refl) c.write_all_of-in-LaidOut.ensures

pub returns-in-Least : goal.returns-in-Least
returns-in-Least g c =
    subst (λ a. WritesText (passage g.K.Sink.held g.K.Sink.faults c.args.sink.now c.print_smallest.new.sink) (text_of a) c.print_smallest.result) (sym c.in-Least.is)
    (c.print_smallest.ensures c.in-Least.field-2.items (c.requires ∙ ap formed_text c.in-Least.is))

pub returns-in-Small : goal.returns-in-Small
returns-in-Small g c =
    subst (λ a. WritesText (passage g.K.Sink.held g.K.Sink.faults c.args.sink.now c.print_small.new.sink) (text_of a) c.print_small.result) (sym c.in-Small.is)
    (c.print_small.ensures c.in-Small.field-1.items (c.requires ∙ ap formed_text c.in-Small.is))

pub returns-in-GaveUp : goal.returns-in-GaveUp
returns-in-GaveUp g c =
    subst (λ a. WritesText (passage g.K.Sink.held g.K.Sink.faults c.args.sink.now c.print_gave_up.new.sink) (text_of a) c.print_gave_up.result) (sym c.in-GaveUp.is)
    c.print_gave_up.ensures

pub returns-in-Undecided : goal.returns-in-Undecided
returns-in-Undecided g c =
    let sink = passage g.K.Sink.held g.K.Sink.faults c.args.sink.now c.print_gave_up-in-Undecided.new.sink in
    let told = c.print_gave_up-in-Undecided.result in
    subst (λ a. WritesText sink (text_of a) told) (sym c.in-Undecided.is)
    (subst (λ definitions. WritesText sink (gave_up_text definitions c.in-Undecided.cause) told) c.deref-in-Undecided.ensures.value c.print_gave_up-in-Undecided.ensures)
