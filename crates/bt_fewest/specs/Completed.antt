-- Networks that partial networks without open ports are.
use Rattle.std.specs.Prelude.{◌≡◌, ℕ, ◌<◌, ◌⊎◌, List, ◌++◌, length, map, None}
use Rattle.std.specs.List.{flat_map, filter, range_with_len}
use Rattle.bt_net.specs.declared.network.Edge.{Edge}
use Rattle.bt_net.specs.declared.network.Start.{Start}
use Rattle.bt_net.specs.declared.network.Start.TheVariants as from
use Rattle.bt_net.specs.declared.network.Target.{Target}
use Rattle.bt_net.specs.declared.network.Target.TheVariants as to
use Rattle.bt_net.specs.Network.{Network, network_of}
use Rattle.bt_fewest.specs.Partial.{Partial, class_in, open_outs, open_ins, inputs_before, outputs_before, is_from}
use Rattle.bt_fewest.specs.Ways.{IsReached, LeadsOut}

-- no port is open, and no branch goes on
pub record IsComplete (p : Partial) : Type 0 where
  pub outs : (s : ℕ) → s < length p.classes → open_outs p s ≡ 0
  pub ins : (s : ℕ) → s < length p.classes → open_ins p s ≡ 0
  pub no_branch : p.branch ≡ None

-- an edge of cap 1
abbrev pub edge : Start → Target → Edge
edge start target = record { start = start; target = target; cap = 1 }

-- the edges from inputs to a splitter
abbrev pub input_edges : Partial → ℕ → List Edge
input_edges p s = map (λ i. edge (from.Input i) (to.Split s)) (range_with_len (inputs_before p s) (class_in p s).fed)

-- the out edges of a splitter: to outputs, then as it was joined
abbrev pub out_edges : Partial → ℕ → List Edge
out_edges p s = map (λ o. edge (from.Split s) (to.Output o)) (range_with_len (outputs_before p s) (class_in p s).feeding)
    ++ map (λ j. edge (from.Split s) (to.Split j.to)) (filter (is_from s) p.joins)

-- the numbers of the splitters
abbrev pub splitters_of : Partial → List ℕ
splitters_of p = range_with_len 0 (length p.classes)

-- the network of the splitters and joins: edges by inputs, then by the splitters that they leave
abbrev pub completed : Partial → Network
completed p = network_of p.inputs p.outputs (length p.classes) (flat_map (input_edges p) (splitters_of p) ++ flat_map (out_edges p) (splitters_of p))

-- some splitter has no way from an input, or none to an output
abbrev pub IsDead : Network → Type 0
IsDead n = (s : ℕ) × (s < n.splitters) × ((IsReached n s → ⊥) ⊎ (LeadsOut n s → ⊥))
