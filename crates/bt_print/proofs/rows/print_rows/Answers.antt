use Rattle.std.proofs.Common.{◌≡◌, ◌<◌, ◌≤◌, ◌+◌, [], length, arith, refl, sym, ◌∙◌, subst, Ok, Err}
use Rattle.std.specs.List.{range_with_len}
use Rattle.std.proofs.lemmas.List.FromFn.{get_or-range_with_len, length-range_with_len}
use Rattle.std.proofs.lemmas.Result.{err_from_is_err_and}
use Rattle.bt_io.specs.Bytes.{WritesText}
use Rattle.bt_io.specs.Passages.{passage}
use Rattle.bt_io.specs.declared.fault.WriteFault.{WriteFault}
use Rattle.bt_io.proofs.Pieces.{piece_written, last_failed, all_written}
use Rattle.bt_print.specs.FormulaText.{row_line}
use Rattle.bt_print.specs.inner.Atoms.{row_at_text}
use Rattle.bt_print.proofs.Atoms.{all_atoms}
use Rattle.bt_print.proofs.rows.print_rows.Goals as goal

pub returns-in_err-print_row_at : goal.returns-in_err-print_row_at
returns-in_err-print_row_at g c =
    let f = c.args.formula.now in
    let text = row_at_text c.args.columns f.atoms in
    let place = c.loop-place.place in
    let few : place < f.vars = omega arith in
    let inside : place < length (range_with_len 0 f.vars) = omega (arith, few, length-range_with_len 0 f.vars) in
    let front : 0 + place ≡ place = omega arith in
    let p = err_from_is_err_and c.from_residual.result c.from_residual.ensures.1 in
    rw p.1
    (subst (λ t. WritesText {T = Unit {0}} {E = WriteFault} (passage g.K.Sink.held g.K.Sink.faults c.args.sink.now c.print_row_at.new.sink) t (Err p.0)) (all_atoms (row_line c.args.columns) f.vars f.atoms c.vars-place-end.ensures.known.atoms)
    (last_failed text (range_with_len 0 f.vars) [] g.K.Sink.held g.K.Sink.faults c.args.sink.now c.loop-place.sink c.print_row_at.new.sink place place (text place) _ _
    c.loop-place.invariant inside (sym (get_or-range_with_len 0 f.vars place place few ∙ front)) refl c.in_err-print_row_at.ensures))

pub loop-place-preserved : goal.loop-place-preserved
loop-place-preserved g c =
    let f = c.args.formula.now in
    let text = row_at_text c.args.columns f.atoms in
    let place = c.loop-place.place in
    let few : place < f.vars = omega arith in
    let inside : place < length (range_with_len 0 f.vars) = omega (arith, few, length-range_with_len 0 f.vars) in
    let front : 0 + place ≡ place = omega arith in
    piece_written text (range_with_len 0 f.vars) [] g.K.Sink.held g.K.Sink.faults c.args.sink.now c.loop-place.sink c.print_row_at.new.sink place place (text place)
    c.loop-place.invariant inside (sym (get_or-range_with_len 0 f.vars place place few ∙ front)) refl c.in_ok-print_row_at.ensures

pub returns : goal.returns
returns g c =
    let f = c.args.formula.now in
    let ended : length (range_with_len 0 f.vars) ≤ c.loop-place.place = omega (arith, length-range_with_len 0 f.vars) in
    subst (λ t. WritesText {T = Unit {0}} {E = WriteFault} (passage g.K.Sink.held g.K.Sink.faults c.args.sink.now c.loop-place.sink) t (Ok tt)) (all_atoms (row_line c.args.columns) f.vars f.atoms c.vars-place-end.ensures.known.atoms)
    (all_written (row_at_text c.args.columns f.atoms) (range_with_len 0 f.vars) [] g.K.Sink.held g.K.Sink.faults c.args.sink.now c.loop-place.sink c.loop-place.place ended c.loop-place.invariant)
