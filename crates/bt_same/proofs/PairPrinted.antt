-- The text of a pair as it is written.
use Rattle.std.proofs.Common.{◌≡◌, ℕ, List, [], ◌∷◌, ◌++◌, map, append_assoc, append-nil, codes}
use Rattle.std.specs.List.{flat_map}
use Rattle.bt_text.specs.Lines.{line}
use Rattle.bt_frac.specs.Texts.{frac_text}
use Rattle.bt_flow.specs.StateText.{mark_text, spaced, ends_text, edges_text}
use Rattle.bt_same.specs.declared.pair.Pair.{Pair}
use Rattle.bt_same.specs.PairText.{printed_pair}

eight_lines : (a b c d e f : List ℕ) → (codes "differ\n" ++ (line a ++ line b)) ++ (line c ++ line d) ++ ((line e ++ line f) ++ codes "end\n")
    ≡ flat_map line (codes "differ" ∷ a ∷ b ∷ c ∷ d ∷ e ∷ f ∷ codes "end" ∷ [])
eight_lines a b c d e f = simp (append_assoc, append-nil)

-- the parts of the text make the whole
pub parts_are : (pair : Pair) → (codes "differ\n" ++ ends_text pair.first) ++ edges_text pair.first ++ (edges_text pair.second ++ codes "end\n") ≡ printed_pair pair
parts_are pair =
    eight_lines (codes "load" ++ spaced (map frac_text pair.first.loads)) (codes "room" ++ spaced (map frac_text pair.first.rooms)) (codes "flow" ++ spaced (map frac_text pair.first.flows))
    (codes "mark" ++ spaced (map mark_text pair.first.backed)) (codes "flow" ++ spaced (map frac_text pair.second.flows)) (codes "mark" ++ spaced (map mark_text pair.second.backed))
