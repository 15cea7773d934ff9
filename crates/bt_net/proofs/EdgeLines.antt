-- Lines of edges.
use Rattle.std.proofs.Common.{ℕ, ◌<◌, List, [], ◌∷◌, length}
use Rattle.std.specs.List.{All, AllZip}
use Rattle.std.proofs.lemmas.List.Elements.{All-nil, All-cons}
use Rattle.bt_net.specs.declared.network.Edge.{Edge}
use Rattle.bt_net.specs.NetText.{IsEdgeLine}
use Rattle.bt_net.proofs.NetLines.{edge-some}

-- edge lines have bytes
pub edges-some : (lines : List (List ℕ)) (es : List Edge) → AllZip IsEdgeLine lines es → All (λ l. 0 < length l) lines
edges-some [] [] are = All-nil (λ l. 0 < length l)
edges-some [] (e ∷ es) are = absurd are
edges-some (l ∷ ls) [] are = absurd are
edges-some (l ∷ ls) (e ∷ es) are = All-cons (λ k. 0 < length k) l ls (edge-some l e are.0) (edges-some ls es are.1)
