-- A flow for one edge more.
use Rattle.std.proofs.Common.{ℕ, ◌+◌, ◌*◌, ◌<◌, ◌≤◌, List, [], ◌∷◌, ◌++◌, length, get_or, take, subst, sym}
use Rattle.std.specs.List.{AllZip}
use Rattle.std.proofs.lemmas.List.{take_more}
use Rattle.std.proofs.lemmas.Slice.Zip.{all_zipped_more}
use Rattle.bt_net.specs.declared.network.Edge.{Edge}
use Rattle.hint_simulation.specs.declared.belt.TheConstants.{UNIT}
use Rattle.hint_simulation.specs.Simulations.{IsWithinCap}

-- flows within the caps of the first edges, and one within that of the next
pub flow_more : (edges : List Edge) (flows : List ℕ) (i : ℕ) (d : Edge) (flow : ℕ) → i < length edges
    → AllZip IsWithinCap (take i edges) flows → flow ≤ (get_or edges i d).cap * UNIT → AllZip IsWithinCap (take (i + 1) edges) (flows ++ flow ∷ [])
flow_more edges flows i d flow below within more =
    let zipped : AllZip IsWithinCap (take i edges ++ get_or edges i d ∷ []) (flows ++ flow ∷ []) = all_zipped_more IsWithinCap (take i edges) flows (get_or edges i d) flow within more in
    subst (λ (l : List Edge). AllZip IsWithinCap l (flows ++ flow ∷ [])) (sym (take_more edges i d below)) zipped
