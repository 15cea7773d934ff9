-- The text of a network with lines of a request.
use Rattle.std.specs.Prelude.{ℕ, List, ◌++◌, codes}
use Rattle.std.specs.List.{flat_map}
use Rattle.bt_net.specs.Network.{Network}
use Rattle.bt_net.specs.NetText.{line, header, edge_text}
use Rattle.bt_net.specs.Priorities.{priorities_text}

-- the text of a network as it is printed, with these lines before the last one
abbrev pub text_with : Network → List ℕ → List ℕ
text_with n lines = line (header n) ++ flat_map (λ e. line (edge_text e)) n.edges ++ priorities_text n ++ (lines ++ line (codes "end"))
