-- Splitters that prefer an out edge or an in edge, and the lines that say so.
use Rattle.std.specs.Prelude.{◌≡◌, ℕ, ◌<◌, Bool, true, false, IsTrue, List, [], ◌∷◌, ◌++◌, Option, Some, None, slice_get, slice_set, flat_map, codes, decimal}
use Rattle.std.specs.List.{range_with_len}
use Rattle.bt_text.specs.Lines.{line}
use Rattle.bt_net.specs.declared.network.Admitted.{Admitted}
use Rattle.bt_net.specs.declared.network.Admitted.TheVariants as may
use Rattle.bt_net.specs.declared.network.Edge.{Edge}
use Rattle.bt_net.specs.declared.network.Priority.{Priority}
use Rattle.bt_net.specs.declared.network.Priority.TheVariants.{Give, Take, Any}
use Rattle.bt_net.specs.Network.{Network, give_of, take_of, merges_any, TakesEvenly, leaves, enters}

-- a network, in which each splitter prefers these edges
abbrev pub preferring : Network → List (Option ℕ) → List (Option ℕ) → Network
preferring n gives takes = record n { gives = gives; takes = takes }

-- a network, in which each splitter may prefer any in edge or none where this says so
abbrev pub merging : Network → List Bool → Network
merging n merges = record n { merges = merges }

-- the line of a priority: `give` or `take`, `s` and the number of the splitter, and that of the edge or `any`
abbrev pub priority_text : Priority → List ℕ
priority_text (Give k a) = codes "give s" ++ decimal k ++ codes " " ++ decimal a
priority_text (Take k a) = codes "take s" ++ decimal k ++ codes " " ++ decimal a
priority_text (Any k) = codes "take s" ++ decimal k ++ codes " any"

-- the edge with this number passes a test
abbrev pub HasEdgeWith : Network → (Edge → Bool) → ℕ → Type 0
HasEdgeWith n p a = (e : Edge) × (slice_get n.edges a ≡ Some e) × IsTrue (p e)

-- the network has the splitter, and the edge, where one is named, is one of its out edges, or of its in edges
abbrev pub Owns : Network → Priority → Type 0
Owns n (Give k a) = (k < n.splitters) × HasEdgeWith n (leaves k) a
Owns n (Take k a) = (k < n.splitters) × HasEdgeWith n (enters k) a
Owns n (Any k) = k < n.splitters

-- the line is that of a priority that the network may have; its number doesn't matter
abbrev pub IsPriorityLine : Network → ℕ → List ℕ → Priority → Type 0
IsPriorityLine n number bytes p = (bytes ≡ priority_text p) × Owns n p

-- a line of this priority may stand: a text that says where ends are to stand has none by which a splitter may prefer
-- any in edge
abbrev pub AdmitsPriority : Admitted → Priority → Type 0
AdmitsPriority may.Nothing p = ⊥
AdmitsPriority may.Priorities p = Unit {0}
AdmitsPriority may.Sides (Give k a) = Unit {0}
AdmitsPriority may.Sides (Take k a) = Unit {0}
AdmitsPriority may.Sides (Any k) = ⊥
AdmitsPriority may.All (Give k a) = Unit {0}
AdmitsPriority may.All (Take k a) = Unit {0}
AdmitsPriority may.All (Any k) = ⊥

-- the line is that of a priority that the network may have, and may stand
abbrev pub IsPriorityHere : Admitted → Network → ℕ → List ℕ → Priority → Type 0
IsPriorityHere admitted n number bytes p = AdmitsPriority admitted p × IsPriorityLine n number bytes p

-- nothing is said yet of the splitter's out edges, where the priority speaks of these, or of its in edges
abbrev pub IsFreeFor : Network → Priority → Type 0
IsFreeFor n (Give k a) = give_of n k ≡ None
IsFreeFor n (Take k a) = TakesEvenly n k
IsFreeFor n (Any k) = TakesEvenly n k

-- the network in which the splitter prefers this edge too, or may prefer any
abbrev pub with_priority : Network → Priority → Network
with_priority n (Give k a) = record n { gives = slice_set n.gives k (Some a) }
with_priority n (Take k a) = record n { takes = slice_set n.takes k (Some a) }
with_priority n (Any k) = record n { merges = slice_set n.merges k true }

-- the network becomes the other one by these priorities, of which each names a splitter that is free for it
abbrev pub Becomes : Network → List Priority → Network → Type 0
Becomes m [] n = m ≡ n
Becomes m (p ∷ ps) n = IsFreeFor m p × Becomes (with_priority m p) ps n

-- the line that begins with a word and names a splitter and the edge that it prefers, where it prefers one
abbrev pub preference_text : List ℕ → ℕ → Option ℕ → List ℕ
preference_text word k None = []
preference_text word k (Some a) = line (word ++ decimal k ++ codes " " ++ decimal a)

-- the line of a splitter that may prefer any in edge
abbrev pub merge_text : ℕ → Bool → List ℕ
merge_text k false = []
merge_text k true = line (codes "take s" ++ decimal k ++ codes " any")

-- the lines of a splitter's priorities, that of its out edge first
abbrev pub splitter_text : Network → ℕ → List ℕ
splitter_text n k = preference_text (codes "give s") k (give_of n k) ++ preference_text (codes "take s") k (take_of n k) ++ merge_text k (merges_any n k)

-- the lines of a network's priorities, splitter by splitter
abbrev pub priorities_text : Network → List ℕ
priorities_text n = flat_map (splitter_text n) (range_with_len 0 n.splitters)

-- the priority of a splitter's out edge, where it prefers one
abbrev pub gives_at : ℕ → Option ℕ → List Priority
gives_at k None = []
gives_at k (Some a) = Give k a ∷ []

-- the priority of its in edge, where it prefers one
abbrev pub takes_at : ℕ → Option ℕ → List Priority
takes_at k None = []
takes_at k (Some a) = Take k a ∷ []

-- that it may prefer any in edge
abbrev pub merges_at : ℕ → Bool → List Priority
merges_at k false = []
merges_at k true = Any k ∷ []

-- the priorities of a splitter, that of its out edge first
abbrev pub priorities_at : Network → ℕ → List Priority
priorities_at n k = gives_at k (give_of n k) ++ takes_at k (take_of n k) ++ merges_at k (merges_any n k)

-- the priorities of a network, splitter by splitter
abbrev pub priorities_of : Network → List Priority
priorities_of n = flat_map (priorities_at n) (range_with_len 0 n.splitters)
