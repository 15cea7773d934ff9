-- The next splitter in the order in which the search places them.
use Rattle.std.specs.List.{remove}
use Rattle.std.specs.Prelude.{◌≡◌, ℕ, List, [], ◌∷◌, ◌++◌, map, slice_index}
use Rattle.bt_net.specs.declared.network.Edge.{Edge}
use Rattle.bt_place.specs.Numbering.{joining, first_most}

-- the place among those that are left
abbrev pub next_place : List Edge → List ℕ → List ℕ → ℕ
next_place edges placed left = first_most (map (joining edges placed) left)

-- the splitter
abbrev pub next_splitter : List Edge → List ℕ → List ℕ → ℕ
next_splitter edges placed left = slice_index left (next_place edges placed left)

-- the next splitter was placed
pub record IsNextPlaced (edges : List Edge) (placed left now rest : List ℕ) : Type 0 where
  pub placed_now : now ≡ placed ++ next_splitter edges placed left ∷ []
  pub left_now : rest ≡ remove left (next_place edges placed left)
