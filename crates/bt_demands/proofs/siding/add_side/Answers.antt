use Rattle.std.proofs.Common.{◌≡◌, ◌++◌, OnOk, sym, ◌∙◌, ap, subst}
use Rattle.std.specs.List.{flat_map, range_with_len}
use Rattle.bt_net.specs.declared.network.End.TheVariants as end
use Rattle.bt_demands.specs.Pinning.{side_end_rules, ends_named}
use Rattle.bt_facts.proofs.Drawn.{flat_of_made}
use Rattle.bt_demands.proofs.siding.add_side.Goals as goal

pub returns-in-Inputs : goal.returns-in-Inputs
returns-in-Inputs c =
    let r = c.args.request.now in
    let side = c.args.side in
    subst (λ l. OnOk c.add_inputs_side.result (c.add_inputs_side.new.draft ≡ c.args.draft.now ++ l))
    (flat_of_made (side_end_rules r side.dir) end.Input (range_with_len 0 r.net.inputs) ∙ ap (λ e. flat_map (side_end_rules r side.dir) (ends_named r e)) (sym c.in-Inputs.is))
    c.add_inputs_side.ensures

pub returns-in-Outputs : goal.returns-in-Outputs
returns-in-Outputs c =
    let r = c.args.request.now in
    let side = c.args.side in
    subst (λ l. OnOk c.add_outputs_side.result (c.add_outputs_side.new.draft ≡ c.args.draft.now ++ l))
    (flat_of_made (side_end_rules r side.dir) end.Output (range_with_len 0 r.net.outputs) ∙ ap (λ e. flat_map (side_end_rules r side.dir) (ends_named r e)) (sym c.in-Outputs.is))
    c.add_outputs_side.ensures
