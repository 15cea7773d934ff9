-- The sides at which the ends of a blueprint stand name no cells.
use Rattle.std.proofs.Common.{Ok, ℕ, ◌+◌, List, [], ◌∷◌, inl, inr, sym, subst}
use Rattle.std.specs.List.{All as Each}
use Rattle.std.proofs.lemmas.List.Elements.{All-nil, All-cons, All-append}
use Rattle.bt_parts.specs.declared.part.Part.{Part}
use Rattle.bt_net.specs.declared.network.Demand.{Demand}
use Rattle.bt_net.specs.declared.network.End.{End}
use Rattle.bt_net.specs.declared.network.End.TheVariants.{Input, Output}
use Rattle.bt_recover.specs.Sides.{AreEndSides, IsStayOf, AreStaysOf}
use Rattle.bt_grids.specs.Asked.{NamesNoCell}

-- no line of them names a cell
first_names : (parts : List Part) (end : End) (part : Part) (stays : List Demand) → IsStayOf parts end part stays → Each NamesNoCell stays
first_names parts end part stays (inl (dir, looks, e)) = subst (Each NamesNoCell) (sym e) (All-cons NamesNoCell _ [] tt (All-nil NamesNoCell))
first_names parts end part stays (inr (none, e)) = subst (Each NamesNoCell) (sym e) (All-nil NamesNoCell)

list_names : (parts : List Part) (end_of : ℕ → End) (number : ℕ) (indices : List ℕ) (stays : List Demand) → AreStaysOf parts end_of number indices stays → Each NamesNoCell stays
list_names parts end_of number [] stays e = subst (Each NamesNoCell) (sym e) (All-nil NamesNoCell)
list_names parts end_of number (i ∷ more) stays (part, first, rest, at, is, are, e) =
    subst (Each NamesNoCell) (sym e)
    (All-append NamesNoCell first rest (first_names parts (end_of number) part first is) (list_names parts end_of (number + 1) more rest are))

pub own_sides_name_no_cells : (parts : List Part) (stays : List Demand) → AreEndSides parts (Ok stays) → Each NamesNoCell stays
own_sides_name_no_cells parts stays (found, recovered, (ins, outs, h, k, e)) =
    subst (Each NamesNoCell) (sym e)
    (All-append NamesNoCell ins outs (list_names parts Input 0 found.1.inputs ins h) (list_names parts Output 0 found.1.outputs outs k))
