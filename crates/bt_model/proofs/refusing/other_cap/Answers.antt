use Rattle.std.proofs.Common.{length, ap, below_more, arith}
use Rattle.std.proofs.lemmas.Bool.{cases_lt}
use Rattle.std.proofs.lemmas.Option.{slice_get-get_or, slice_get_within}
use Rattle.std.proofs.Common.{⊎_elim}
use Rattle.bt_model.proofs.Requested.{other_cap_here, no_other_cap_here}
use Rattle.bt_model.proofs.refusing.other_cap.Goals as goal

pub returns-then-edge-ne1 : goal.returns-then-edge-ne1
returns-then-edge-ne1 c = (
  other_cap_here c.args.net.now c.edges-edges.result.now c.loop-k.k _ c.edges-edges.ensures.edges (slice_get-get_or c.edges-edges.result.now c.loop-k.k _ c.loop-k-test.true) c.if-edge-ne1.true,
  λ m other. ⊎_elim (λ lt. absurd (c.loop-k.invariant m lt other)) (λ le. le) (cases_lt m c.loop-k.k),
)

pub loop-k-preserved : goal.loop-k-preserved
loop-k-preserved c = below_more _ _ c.loop-k.invariant
    (no_other_cap_here c.args.net.now c.edges-edges.result.now c.loop-k.k _ c.edges-edges.ensures.edges (slice_get-get_or c.edges-edges.result.now c.loop-k.k _ c.loop-k-test.true) c.if-edge-ne1.false)

pub returns : goal.returns
returns c = λ n other. c.loop-k.invariant n (omega (arith, slice_get_within c.args.net.now.edges n other.0 other.1, ap length c.edges-edges.ensures.edges, c.loop-k-test.false)) other
