use Rattle.std.proofs.Common.{◌≡◌, ℕ, ◌<◌, zero, suc, List, [], ◌∷◌, ◌++◌, ◌∙◌, Ok, Err, length, get_or, refl, subst, sym, arith}
use Rattle.std.specs.List.{flat_map}
use Rattle.std.proofs.lemmas.List.{append-nil}
use Rattle.std.proofs.lemmas.Result.{err_from_is_err_and}
use Rattle.bt_io.specs.Bytes.{WritesText}
use Rattle.bt_io.specs.Passages.{passage}
use Rattle.bt_io.specs.declared.fault.WriteFault.{WriteFault}
use Rattle.bt_io.proofs.Pieces.{head_failed, piece_written, last_failed, all_written}
use Rattle.bt_net.specs.NetText.{line, header, edge_text}
use Rattle.bt_net.specs.declared.network.Edge.{Edge}
use Rattle.bt_net.specs.declared.network.Start.TheVariants as from
use Rattle.bt_net.specs.declared.network.Target.TheVariants as to
use Rattle.bt_print.proofs.networks.print_edges.Goals as goal

-- the edge that stands for one past the end
abbrev no_edge : Edge
no_edge = record { start = from.Input 0; target = to.Split 0; cap = 0 }

pub loop-edge-init : goal.loop-edge-init
loop-edge-init g c =
    let n = c.args.net.now in
    subst (λ t. WritesText {T = Unit {0}} {E = WriteFault} (passage g.K.Sink.held g.K.Sink.faults c.args.sink.now c.write_all_of.new.sink) t (Ok tt))
    (c.as_bytes.ensures ∙ c.header_line.ensures ∙ sym (append-nil (line (header n)))) c.in_ok-write_all_of.ensures

pub returns-in_err-write_all_of : goal.returns-in_err-write_all_of
returns-in_err-write_all_of g c =
    let p = err_from_is_err_and c.from_residual.result c.from_residual.ensures.1 in
    let n = c.args.net.now in
    let written = subst (λ t. WritesText {T = Unit {0}} {E = WriteFault} (passage g.K.Sink.held g.K.Sink.faults c.args.sink.now c.write_all_of.new.sink) t (Err c.in_err-write_all_of.field-0.0)) (c.as_bytes.ensures ∙ c.header_line.ensures) c.in_err-write_all_of.ensures in
    rw p.1
    (head_failed (λ e. line (edge_text e)) n.edges (line (header n)) g.K.Sink.held g.K.Sink.faults c.args.sink.now c.write_all_of.new.sink _ _ (flat_map (λ e. line (edge_text e)) n.edges) written)

-- the edge that is written is the one at its place
same_edge : (edges : List Edge) (i : ℕ) (d : Edge) → i < length edges → get_or edges i d ≡ get_or edges i (get_or edges i d)
same_edge [] i d l = absurd (omega arith)
same_edge (e ∷ edges) zero d l = refl
same_edge (e ∷ edges) (suc i) d l = same_edge edges i d (omega arith)

pub returns-in_err-write_all_of-2 : goal.returns-in_err-write_all_of-2
returns-in_err-write_all_of-2 g c =
    let p = err_from_is_err_and c.from_residual-in_err-write_all_of-2.result c.from_residual-in_err-write_all_of-2.ensures.1 in
    let n = c.args.net.now in
    let edges = c.edges-edges.result.now in
    rw (p.1, ← c.edges-edges.ensures.edges)
    (last_failed (λ e. line (edge_text e)) edges (line (header n)) g.K.Sink.held g.K.Sink.faults c.args.sink.now c.loop-edge.sink c.write_all_of-in-loop-edge.new.sink c.loop-edge.edge-index (get_or edges c.loop-edge.edge-index no_edge) _ _ _
    c.loop-edge.invariant c.loop-edge-test.true (same_edge edges c.loop-edge.edge-index no_edge c.loop-edge-test.true) (c.as_bytes-in-loop-edge.ensures ∙ c.edge_line.ensures) c.in_err-write_all_of-2.ensures)

pub loop-edge-preserved : goal.loop-edge-preserved
loop-edge-preserved g c =
    let n = c.args.net.now in
    let edges = c.edges-edges.result.now in
    piece_written (λ e. line (edge_text e)) edges (line (header n)) g.K.Sink.held g.K.Sink.faults c.args.sink.now c.loop-edge.sink c.write_all_of-in-loop-edge.new.sink c.loop-edge.edge-index (get_or edges c.loop-edge.edge-index no_edge) _
    c.loop-edge.invariant c.loop-edge-test.true (same_edge edges c.loop-edge.edge-index no_edge c.loop-edge-test.true) (c.as_bytes-in-loop-edge.ensures ∙ c.edge_line.ensures) c.in_ok-write_all_of-2.ensures

pub returns : goal.returns
returns g c =
    let n = c.args.net.now in
    let edges = c.edges-edges.result.now in
    subst (λ es. WritesText {T = Unit {0}} {E = WriteFault} (passage g.K.Sink.held g.K.Sink.faults c.args.sink.now c.loop-edge.sink) (line (header n) ++ flat_map (λ e. line (edge_text e)) es) (Ok tt)) c.edges-edges.ensures.edges
    (all_written (λ e. line (edge_text e)) edges (line (header n)) g.K.Sink.held g.K.Sink.faults c.args.sink.now c.loop-edge.sink c.loop-edge.edge-index c.loop-edge-test.false c.loop-edge.invariant)
