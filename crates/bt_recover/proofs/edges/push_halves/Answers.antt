use Rattle.std.proofs.Common.{inr}
use Rattle.std.proofs.lemmas.Result.{on_ok_weaker}
use Rattle.bt_recover.proofs.NetworkLemmas.{adds_both, no_second}
use Rattle.bt_recover.proofs.edges.push_halves.Goals as goal

pub push_half-requires-in-Some-clause-half : goal.push_half-requires-in-Some-clause-half
push_half-requires-in-Some-clause-half c = record {
  part = c.part.result.now;
  is_i = c.part.ensures.value;
  covers = inr ((c.cells_of-greater.ensures.second c.in-Some.greater).0 c.in-Some.is);
}

pub returns-in-Some : goal.returns-in-Some
returns-in-Some c =
    on_ok_weaker c.push_half-in-Some.result
    (adds_both c.args.grid.now c.args.labels.now c.args.joints.now.items c.push_half.new.joints.items c.push_half-in-Some.new.joints.items c.args.start c.args.s c.part.result.now
    c.cells_of-greater.result.0 c.in-Some.greater c.cells_of-greater.result.1 c.part.ensures.value c.cells_of-greater.ensures.first c.cells_of-greater.ensures.second c.in-Some.is
    c.in_ok-push_half.ensures)
    c.push_half-in-Some.ensures

pub returns-in-None : goal.returns-in-None
returns-in-None c = absurd (no_second c.args.grid.now c.args.s c.part.result.now c.cells_of-greater.result.1 c.part.ensures.value c.requires.splitter c.cells_of-greater.ensures.second c.in-None.is)
