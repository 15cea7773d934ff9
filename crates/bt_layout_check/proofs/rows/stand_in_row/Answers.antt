use Rattle.std.proofs.Common.{◌↔◌, ◌<◌, IsTrue, length, sym, subst}
use Rattle.std.specs.List.{All, AllPairs}
use Rattle.bt_net.specs.declared.network.EndKind.TheVariants.{Inputs, Outputs}
use Rattle.bt_model.specs.Laying.{IsEndPart, StandInRow}
use Rattle.bt_model.specs.Shown.{IsPlacedBefore, ListsEach}
use Rattle.bt_layout_check.specs.Laid.{naming_of}
use Rattle.bt_layout_check.specs.inner.Rows.{count_of}
use Rattle.bt_layout_check.proofs.Within.{inputs_within, outputs_within}
use Rattle.bt_layout_check.proofs.rows.stand_in_row.Goals as goal

pub are_in_row-requires-clause-within : goal.are_in_row-requires-clause-within
are_in_row-requires-clause-within c = subst (All (λ i. i < length c.args.parts.now)) (sym c.deref.ensures.value) (inputs_within c.args.parts.now c.args.own.now.inputs.items c.requires.ends.inputs)

pub returns-in-Inputs : goal.returns-in-Inputs
returns-in-Inputs c =
    let parts = c.args.parts.now in
    let told = c.are_in_row.ensures Inputs (subst (ListsEach (IsEndPart parts Inputs)) (sym c.deref.ensures.value) c.requires.ends.inputs)
    (subst (AllPairs (IsPlacedBefore parts)) (sym c.deref.ensures.value) c.requires.ends.inputs_ascend) in
    subst (λ kind. IsTrue c.are_in_row.result ↔ StandInRow parts kind (count_of (naming_of c.args.own.now) kind)) (sym c.in-Inputs.is)
    (subst (λ xs. IsTrue c.are_in_row.result ↔ StandInRow parts Inputs (length xs)) c.deref.ensures.value told)

pub are_in_row-requires-in-Outputs-clause-within : goal.are_in_row-requires-in-Outputs-clause-within
are_in_row-requires-in-Outputs-clause-within c = subst (All (λ i. i < length c.args.parts.now)) (sym c.deref-in-Outputs.ensures.value) (outputs_within c.args.parts.now c.args.own.now.outputs.items c.requires.ends.outputs)

pub returns-in-Outputs : goal.returns-in-Outputs
returns-in-Outputs c =
    let parts = c.args.parts.now in
    let told = c.are_in_row-in-Outputs.ensures Outputs (subst (ListsEach (IsEndPart parts Outputs)) (sym c.deref-in-Outputs.ensures.value) c.requires.ends.outputs)
    (subst (AllPairs (IsPlacedBefore parts)) (sym c.deref-in-Outputs.ensures.value) c.requires.ends.outputs_ascend) in
    subst (λ kind. IsTrue c.are_in_row-in-Outputs.result ↔ StandInRow parts kind (count_of (naming_of c.args.own.now) kind)) (sym c.in-Outputs.is)
    (subst (λ xs. IsTrue c.are_in_row-in-Outputs.result ↔ StandInRow parts Outputs (length xs)) c.deref-in-Outputs.ensures.value told)
