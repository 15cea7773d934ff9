-- The text that is printed of a network is read as that network.
use Rattle.std.proofs.Common.{◌≡◌, ℕ, ◌+◌, List, [], ◌∷◌, ◌++◌, length, drop, map, sym, ◌∙◌, ap, inl, arith, refl}
use Rattle.std.specs.Prelude.{codes}
use Rattle.std.specs.List.{flat_map}
use Rattle.std.proofs.lemmas.List.{append_assoc, append-nil, drop_all}
use Rattle.std.proofs.lemmas.List.Concat.{flat_map-append}
use Rattle.bt_net.specs.declared.network.Priority.{Priority}
use Rattle.bt_net.specs.Network.{Network}
use Rattle.bt_net.specs.NetText.{line, header, edge_text, net_text}
use Rattle.bt_net.specs.Priorities.{priority_text, priorities_of}
use Rattle.bt_net.specs.Readings.{whole_reading, PrintedIsRead, PrintedIsPlain}
use Rattle.bt_net.proofs.NetLines.{printed_lines, lines_of}
use Rattle.bt_net.proofs.PrintedPriorities.{priority_lines, are_priority_lines, becomes_itself}
use Rattle.bt_net.proofs.OneReading.{here_lines}
use Rattle.bt_net.proofs.ReadAlike.{read_alike}
use Rattle.bt_net.specs.declared.network.Admitted.TheVariants.{Priorities}

-- lines behind the header: of the edges, of these priorities, and the last
abbrev behind_header : Network → List Priority → List (List ℕ)
behind_header n ps = map edge_text n.edges ++ (map priority_text ps ++ codes "end" ∷ [])

-- the text is all lines
text_lines : (n : Network) → net_text n ≡ flat_map line (header n ∷ behind_header n (priorities_of n))
text_lines n =
    let edges = map edge_text n.edges in
    let priorities = map priority_text (priorities_of n) in
    let end = line (codes "end") in
    (λ i. line (header n) ++ sym (lines_of n.edges) i ++ priority_lines n i ++ end)
    ∙ append_assoc (line (header n) ++ flat_map line edges) (flat_map line priorities) end
    ∙ append_assoc (line (header n)) (flat_map line edges) (flat_map line priorities ++ end)
    ∙ ap (λ t. line (header n) ++ (flat_map line edges ++ t)) (sym (flat_map-append line priorities (codes "end" ∷ [])))
    ∙ ap (λ t. line (header n) ++ t) (sym (flat_map-append line edges (priorities ++ codes "end" ∷ [])))

none_left : (n : Network) → drop (length (net_text n)) (net_text n) ≡ []
none_left n = drop_all (length (net_text n)) (net_text n) (omega arith)

all_of : (n : Network) → net_text n ≡ flat_map line (header n ∷ behind_header n (priorities_of n)) ++ drop (length (net_text n)) (net_text n)
all_of n =
    let lines = flat_map line (header n ∷ behind_header n (priorities_of n)) in
    text_lines n ∙ sym (append-nil lines) ∙ ap (λ r. lines ++ r) (sym (none_left n))

-- the text that is printed of a network is read as that network to its end
pub printed_plain : PrintedIsPlain
printed_plain n net = record {
  network = net;
  begins = record {
    edge_lines = map edge_text n.edges;
    are_edges = printed_lines n.edges;
    priorities = priorities_of n;
    priority_lines = map priority_text (priorities_of n);
    are_priorities = here_lines (net_text n) n [] (length n.edges + 2) (map priority_text (priorities_of n)) (priorities_of n) (are_priority_lines n net.prioritised (length n.edges + 2));
    becomes = becomes_itself n net.prioritised;
    demand_lines = [];
    are_demands = tt;
    block_lines = [];
    are_blocks = tt;
    begins = inl (all_of n);
  };
  used = omega arith;
  lines = omega arith;
}

-- and whatever may stand, where no splitter prefers an edge
pub printed_reading : PrintedIsRead
printed_reading may n net plain = read_alike Priorities may (net_text n) (whole_reading n) (printed_plain n net) plain refl refl
