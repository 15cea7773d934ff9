use Rattle.std.proofs.Common.{◌<◌, ◌≤◌, arith, length, sym, refl}
use Rattle.std.specs.List.{flat_map}
use Rattle.std.proofs.lemmas.Result.{err_from_is_err_and}
use Rattle.bt_cnf.proofs.Atoms.{got}
use Rattle.bt_io.proofs.Pieces.{head_failed, piece_written, last_failed, all_written}
use Rattle.bt_print.specs.FormulaText.{dimacs_header, clause_line}
use Rattle.bt_print.proofs.clauses.print_clauses.Goals as goal

pub returns-in_err-print_header : goal.returns-in_err-print_header
returns-in_err-print_header g c =
    let clauses = c.args.formula.now.clauses in
    let p = err_from_is_err_and c.from_residual.result c.from_residual.ensures.1 in
    rw p.1
    (head_failed clause_line clauses (dimacs_header c.args.formula.now) g.K.Sink.held g.K.Sink.faults c.args.sink.now c.print_header.new.sink _ _ (flat_map clause_line clauses) c.in_err-print_header.ensures)

pub returns-in_err-print_clause : goal.returns-in_err-print_clause
returns-in_err-print_clause g c =
    let clauses = c.args.formula.now.clauses in
    let lits = c.clause_at.result.now in
    let inside : c.loop-place.place < length clauses = omega arith in
    let p = err_from_is_err_and c.from_residual-in_err-print_clause.result c.from_residual-in_err-print_clause.ensures.1 in
    rw p.1
    (last_failed clause_line clauses (dimacs_header c.args.formula.now) g.K.Sink.held g.K.Sink.faults c.args.sink.now c.loop-place.sink c.print_clause.new.sink c.loop-place.place lits (clause_line lits) _ _
    c.loop-place.invariant inside (sym (got clauses c.loop-place.place lits lits c.clause_at.ensures)) refl c.in_err-print_clause.ensures)

pub loop-place-preserved : goal.loop-place-preserved
loop-place-preserved g c =
    let clauses = c.args.formula.now.clauses in
    let lits = c.clause_at.result.now in
    let inside : c.loop-place.place < length clauses = omega arith in
    piece_written clause_line clauses (dimacs_header c.args.formula.now) g.K.Sink.held g.K.Sink.faults c.args.sink.now c.loop-place.sink c.print_clause.new.sink c.loop-place.place lits (clause_line lits)
    c.loop-place.invariant inside (sym (got clauses c.loop-place.place lits lits c.clause_at.ensures)) refl c.in_ok-print_clause.ensures

pub returns : goal.returns
returns g c =
    let clauses = c.args.formula.now.clauses in
    let ended : length clauses ≤ c.loop-place.place = omega arith in
    all_written clause_line clauses (dimacs_header c.args.formula.now) g.K.Sink.held g.K.Sink.faults c.args.sink.now c.loop-place.sink c.loop-place.place ended c.loop-place.invariant
