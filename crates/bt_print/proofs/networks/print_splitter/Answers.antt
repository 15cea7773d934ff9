use Rattle.std.proofs.Common.{Ok, Err, subst}
use Rattle.std.specs.Prelude.{codes}
use Rattle.std.proofs.lemmas.Result.{err_from_is_err_and}
use Rattle.bt_io.specs.Bytes.{WritesText}
use Rattle.bt_io.specs.Passages.{passage}
use Rattle.bt_io.specs.declared.fault.WriteFault.{WriteFault}
use Rattle.bt_io.proofs.Pieces.{first_failed, second_failed, three_written}
use Rattle.bt_net.specs.Network.{give_of, take_of, merges_any}
use Rattle.bt_net.specs.Priorities.{merge_text, preference_text}
use Rattle.bt_print.proofs.networks.print_splitter.Goals as goal

pub returns-in_err-print_preference : goal.returns-in_err-print_preference
returns-in_err-print_preference g c =
    let p = err_from_is_err_and c.from_residual.result c.from_residual.ensures.1 in
    let n = c.args.net.now in
    let k = c.args.splitter in
    let P = passage g.K.Sink.held g.K.Sink.faults c.args.sink.now c.print_preference.new.sink in
    rw p.1
    (first_failed g.K.Sink.held g.K.Sink.faults c.args.sink.now c.print_preference.new.sink c.print_preference.new.sink c.print_preference.new.sink
    (preference_text (codes "give s") k (give_of n k)) (preference_text (codes "take s") k (take_of n k)) (merge_text k (merges_any n k)) _ _
    (subst (λ o. WritesText {T = Unit {0}} {E = WriteFault} P (preference_text (codes "give s") k o) (Err c.in_err-print_preference.field-0.0)) c.give.ensures c.in_err-print_preference.ensures))

pub returns-in_err-print_preference-2 : goal.returns-in_err-print_preference-2
returns-in_err-print_preference-2 g c =
    let p = err_from_is_err_and c.from_residual-in_err-print_preference-2.result c.from_residual-in_err-print_preference-2.ensures.1 in
    let n = c.args.net.now in
    let k = c.args.splitter in
    let first = subst (λ o. WritesText {T = Unit {0}} {E = WriteFault} (passage g.K.Sink.held g.K.Sink.faults c.args.sink.now c.print_preference.new.sink) (preference_text (codes "give s") k o) (Ok tt)) c.give.ensures c.in_ok-print_preference.ensures in
    let P = passage g.K.Sink.held g.K.Sink.faults c.print_preference.new.sink c.print_preference-2.new.sink in
    rw p.1
    (second_failed g.K.Sink.held g.K.Sink.faults c.args.sink.now c.print_preference.new.sink c.print_preference-2.new.sink c.print_preference-2.new.sink
    (preference_text (codes "give s") k (give_of n k)) (preference_text (codes "take s") k (take_of n k)) (merge_text k (merges_any n k)) _ _ first
    (subst (λ o. WritesText {T = Unit {0}} {E = WriteFault} P (preference_text (codes "take s") k o) (Err c.in_err-print_preference-2.field-0.0)) c.take.ensures c.in_err-print_preference-2.ensures))

pub returns : goal.returns
returns g c =
    let n = c.args.net.now in
    let k = c.args.splitter in
    let first = subst (λ o. WritesText {T = Unit {0}} {E = WriteFault} (passage g.K.Sink.held g.K.Sink.faults c.args.sink.now c.print_preference.new.sink) (preference_text (codes "give s") k o) (Ok tt)) c.give.ensures c.in_ok-print_preference.ensures in
    let second = subst (λ o. WritesText {T = Unit {0}} {E = WriteFault} (passage g.K.Sink.held g.K.Sink.faults c.print_preference.new.sink c.print_preference-2.new.sink) (preference_text (codes "take s") k o) (Ok tt)) c.take.ensures c.in_ok-print_preference-2.ensures in
    let third = subst (λ b. WritesText (passage g.K.Sink.held g.K.Sink.faults c.print_preference-2.new.sink c.print_merge.new.sink) (merge_text k b) c.print_merge.result) c.merges_any.ensures c.print_merge.ensures in
    three_written g.K.Sink.held g.K.Sink.faults c.args.sink.now c.print_preference.new.sink c.print_preference-2.new.sink c.print_merge.new.sink
    (preference_text (codes "give s") k (give_of n k)) (preference_text (codes "take s") k (take_of n k)) (merge_text k (merges_any n k)) c.print_merge.result first second third
