-- What `formula` answers.
use Rattle.std.specs.Prelude.{◌≡◌, ℕ, List, Ok, length, Option}
use Rattle.bt_parts.specs.declared.part.Rect.{Rect}
use Rattle.bt_parts.specs.declared.part.Tier.{Tier}
use Rattle.bt_net.specs.Network.{Network}
use Rattle.bt_flow.specs.declared.property.Property.{Property}
use Rattle.bt_flow_formula.specs.FlowFormula.{flow_formula}
use Rattle.bt_model.specs.Requests.{LayoutRequest}
use Rattle.bt_place.specs.Blocks.{starts_of}
use Rattle.bt_place.specs.PlaceFormula.{place_formula, sizes_of}
use Rattle.bt_print.specs.declared.columns.Columns.{Columns}
use Rattle.bt_print.specs.declared.answer.Answer.{Answer}
use Rattle.bt_print.specs.declared.answer.Answer.TheVariants as answer
use Rattle.bt_designs.specs.Alone.{IsLoneNet}
use Rattle.bt_print.specs.Replies.{Reply, UnlessLarge, design_told}
use Rattle.bt_designs.specs.Requested.{IsLoneRequest}
use Rattle.bt_designs.specs.Steps.{InTurn}

-- the columns of a network's flow formulas
abbrev pub flow_columns : Network → Columns
flow_columns n = record { edges = length n.edges; inputs = n.inputs; outputs = n.outputs }

-- what is answered to a network and a property: their flow formula
abbrev pub flow_formula_told : Property → Network → Answer
flow_formula_told p n = answer.FlowFormula (flow_columns n) (flow_formula n p)

-- what is answered to a request that has a formula: its placement formula, and where the blocks of its variables begin
abbrev pub place_formula_told : LayoutRequest → Answer
place_formula_told r = answer.PlaceFormula (starts_of (sizes_of r)) (place_formula r)

-- what `formula` answers to bytes about a property: what is answered to the network of the design that they are, or the
-- first refusal
abbrev pub IsFlowFormulaFrom : Property → List ℕ → Reply → Type 0
IsFlowFormulaFrom p bytes = InTurn (IsLoneNet bytes) design_told (λ n reply. reply ≡ Ok (flow_formula_told p n))

-- what `formula` answers to bytes about layouts: what is answered to the request that they are, or the first refusal, of
-- which the last is that it has no formula
abbrev pub IsPlaceFormulaFrom : Rect → Option Tier → List ℕ → Reply → Type 0
IsPlaceFormulaFrom rect tier bytes = InTurn (IsLoneRequest rect tier bytes) design_told (UnlessLarge (λ r reply. reply ≡ Ok (place_formula_told r)))
