use Rattle.std.proofs.Common.{◌≡◌, refl, arith}
use Rattle.bt_net.proofs.Spelling.{header_is}
use Rattle.bt_net.proofs.header.read_header.Goals as goal

pub returns : goal.returns
returns c =
    let read = c.in-Some.ensures.some in
    let inputs : c.in-Some.sizes.inputs ≡ read.0 = omega (arith, read.4) in
    let outputs : c.in-Some.sizes.outputs ≡ read.1 = omega (arith, read.5) in
    let splitters : c.in-Some.sizes.splitters ≡ read.2 = omega (arith, read.6) in
    let header = header_is c.args.line.now read.0 read.1 read.2 read.3 (omega arith) (omega arith) (omega arith) in
    rw c.in_ok-wiring.ensures (record {
      line_is = rw (inputs, outputs, splitters) header;
      no_edges = refl;
      small = record { plain = record { gives = refl; takes = refl; merges = refl }; few_inputs = omega arith; few_outputs = omega arith; few_splitters = omega arith };
    })
