use Rattle.std.proofs.Common.{refl, arith}
use Rattle.bt_net.proofs.OneNet.{net_answers}
use Rattle.bt_net.proofs.Preference.{plain_is_prioritised}
use Rattle.bt_net.proofs.net.Net.new.Goals as goal

pub invariant_of-result : goal.invariant_of-result
invariant_of-result c = record {
  wired = c.requires;
  prioritised = plain_is_prioritised _ (record { gives = refl; takes = refl; merges = refl });
  few_inputs = omega arith;
  few_outputs = omega arith;
  few_splitters = omega arith;
  few_edges = omega arith;
  some_input = omega arith;
  some_output = omega arith;
}

pub returns : goal.returns
returns c = net_answers _ _ (
  refl,
  record {
    wired = c.requires;
    prioritised = plain_is_prioritised _ (record { gives = refl; takes = refl; merges = refl });
    few_inputs = omega arith;
    few_outputs = omega arith;
    few_splitters = omega arith;
    few_edges = omega arith;
    some_input = omega arith;
    some_output = omega arith;
  },
)
