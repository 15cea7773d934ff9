use Rattle.std.proofs.Common.{◌<◌, length, subst, sym}
use Rattle.std.specs.List.{All}
use Rattle.std.specs.List.Sorted.{IsPermutation}
use Rattle.bt_model.specs.Chains.{IsSplitter, IsInput, IsOutput}
use Rattle.bt_recover.proofs.EndLemmas.{listed_each, listed_within, moved_each}
use Rattle.bt_recover.proofs.NetworkLemmas.{input_within, splitter_within, output_within}
use Rattle.bt_recover.proofs.ends.names_of.Goals as goal

pub by_cell-requires-clause-within : goal.by_cell-requires-clause-within
by_cell-requires-clause-within c =
    let within : All (λ i. i < length c.args.grid.now) c.in_ok-listed.listed.inputs.items =
    listed_within (IsInput c.args.grid.now) c.in_ok-listed.listed.inputs.items (length c.args.grid.now) c.in_ok-listed.ensures.inputs in
    subst (λ xs. All (λ i. i < length c.args.grid.now) xs) (sym c.deref.ensures.value) within

pub by_cell-requires-2-clause-within : goal.by_cell-requires-2-clause-within
by_cell-requires-2-clause-within c =
    let within : All (λ i. i < length c.args.grid.now) c.in_ok-listed.listed.outputs.items =
    listed_within (IsOutput c.args.grid.now) c.in_ok-listed.listed.outputs.items (length c.args.grid.now) c.in_ok-listed.ensures.outputs in
    subst (λ xs. All (λ i. i < length c.args.grid.now) xs) (sym c.deref-2.ensures.value) within

pub returns : goal.returns
returns c = record {
  splitters = listed_each (IsSplitter c.args.grid.now) c.in_ok-listed.listed.splitters.items (length c.args.grid.now) (splitter_within c.args.grid.now) c.in_ok-listed.ensures.splitters;
  inputs = moved_each (IsInput c.args.grid.now) c.in_ok-listed.listed.inputs.items c.in_ok-inputs.inputs.items (length c.args.grid.now) (input_within c.args.grid.now) c.in_ok-listed.ensures.inputs
      (subst (λ xs. IsPermutation xs c.in_ok-inputs.inputs.items) c.deref.ensures.value c.in_ok-inputs.ensures.moved);
  outputs = moved_each (IsOutput c.args.grid.now) c.in_ok-listed.listed.outputs.items c.in_ok-outputs.outputs.items (length c.args.grid.now) (output_within c.args.grid.now) c.in_ok-listed.ensures.outputs
      (subst (λ xs. IsPermutation xs c.in_ok-outputs.outputs.items) c.deref-2.ensures.value c.in_ok-outputs.ensures.moved);
  in_order = record {
    splitters = c.in_ok-listed.ensures.splitters.ascends;
    inputs = c.in_ok-inputs.ensures.in_order;
    outputs = c.in_ok-outputs.ensures.in_order;
  };
}
