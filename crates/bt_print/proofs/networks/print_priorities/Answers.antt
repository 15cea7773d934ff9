use Rattle.std.proofs.Common.{◌≡◌, ℕ, ◌+◌, ◌<◌, ◌≤◌, [], length, get_or, refl, sym, ◌∙◌, subst, arith}
use Rattle.std.specs.List.{range_with_len}
use Rattle.std.proofs.lemmas.Result.{err_from_is_err_and}
use Rattle.std.proofs.lemmas.List.FromFn.{length-range_with_len, get_or-range_with_len}
use Rattle.bt_io.proofs.Pieces.{piece_written, last_failed, all_written}
use Rattle.bt_net.specs.Priorities.{splitter_text}
use Rattle.bt_print.proofs.Unwritten.{nothing_written}
use Rattle.bt_print.proofs.networks.print_priorities.Goals as goal

pub loop-splitter-init : goal.loop-splitter-init
loop-splitter-init g c = nothing_written g.K.Sink.held g.K.Sink.faults c.args.sink.now

-- the splitter at a place of the range is that one
at_place : (n i : ℕ) → i < n → i ≡ get_or (range_with_len 0 n) i i
at_place n i l = (let e : i ≡ 0 + i = omega arith in e) ∙ sym (get_or-range_with_len 0 n i i l)

inside : (n i : ℕ) → i < n → i < length (range_with_len 0 n)
inside n i l = subst (λ m. i < m) (sym (length-range_with_len 0 n)) l

pub loop-splitter-preserved : goal.loop-splitter-preserved
loop-splitter-preserved g c =
    let n = c.args.net.now in
    let k = c.loop-splitter.splitter in
    let l : k < n.splitters = omega arith in
    piece_written (splitter_text n) (range_with_len 0 n.splitters) [] g.K.Sink.held g.K.Sink.faults c.args.sink.now c.loop-splitter.sink c.print_splitter.new.sink k k _
    c.loop-splitter.invariant (inside n.splitters k l) (at_place n.splitters k l) refl c.in_ok-print_splitter.ensures

pub returns-in_err-print_splitter : goal.returns-in_err-print_splitter
returns-in_err-print_splitter g c =
    let p = err_from_is_err_and c.from_residual.result c.from_residual.ensures.1 in
    let n = c.args.net.now in
    let k = c.loop-splitter.splitter in
    let l : k < n.splitters = omega arith in
    rw p.1
    (last_failed (splitter_text n) (range_with_len 0 n.splitters) [] g.K.Sink.held g.K.Sink.faults c.args.sink.now c.loop-splitter.sink c.print_splitter.new.sink k k _ _ _
    c.loop-splitter.invariant (inside n.splitters k l) (at_place n.splitters k l) refl c.in_err-print_splitter.ensures)

pub returns : goal.returns
returns g c =
    let n = c.args.net.now in
    let k = c.loop-splitter.splitter in
    let l : n.splitters ≤ k = omega arith in
    all_written (splitter_text n) (range_with_len 0 n.splitters) [] g.K.Sink.held g.K.Sink.faults c.args.sink.now c.loop-splitter.sink k
    (subst (λ m. m ≤ k) (sym (length-range_with_len 0 n.splitters)) l) c.loop-splitter.invariant
