-- The request that is written for a network is read as one for this network.
use Rattle.std.proofs.Common.{◌≡◌, ℕ, ◌+◌, ◌∙◌, List, [], ◌∷◌, ◌++◌, length, drop, map, sym, ap, subst, Bool, false, Option, Some, None, inl, inr, refl, arith, Ok}
use Rattle.std.specs.Prelude.{codes}
use Rattle.std.specs.List.{flat_map, range_with_len, AllByRecursion}
use Rattle.std.proofs.lemmas.List.{append_assoc, append-nil, drop_all}
use Rattle.std.proofs.lemmas.List.Concat.{flat_map-append}
use Rattle.bt_net.specs.declared.network.Admitted.TheVariants.{All}
use Rattle.bt_net.specs.declared.network.Priority.{Priority}
use Rattle.bt_net.specs.Network.{Network, IsNetwork, give_of, take_of, merges_any}
use Rattle.bt_net.specs.NetText.{line, header, edge_text, alone}
use Rattle.bt_net.specs.PinText.{AreLinesFrom, IsDemandHere}
use Rattle.bt_net.specs.Priorities.{priority_text, priorities_of, priorities_at, gives_at, takes_at, merges_at, AdmitsPriority, IsPriorityLine, IsPriorityHere}
use Rattle.bt_net.specs.Readings.{Reading, IsNetRead}
use Rattle.bt_net.proofs.NetLines.{printed_lines, lines_of}
use Rattle.bt_net.proofs.PrintedPriorities.{priority_lines, are_priority_lines, becomes_itself}
use Rattle.std.proofs.lemmas.List.Elements.{All-nil}
use Rattle.bt_text.specs.Blanks.{IsBlank}
use Rattle.bt_words.specs.declared.command.BuiltText.TheVariants as built
use Rattle.bt_designs.specs.Alone.{IsAlone}
use Rattle.bt_designs.specs.Designs.{IsJsonText}
use Rattle.bt_designs.specs.Requested.{IsPinned, pinned_net}
use Rattle.bt_designs.specs.Steps.{went_on}
use Rattle.bt_designs.proofs.LongerDesigns.{not_json}
use Rattle.bt_print.specs.Answers.{built_text}
use Rattle.bt_print.specs.BuiltTexts.{BuiltIsRead, facing_rows}

-- where these priorities may stand, their lines do
lines_here : (n : Network) (number : ℕ) (lines : List (List ℕ)) (ps : List Priority) → AllByRecursion (AdmitsPriority All) ps → AreLinesFrom (IsPriorityLine n) number lines ps → AreLinesFrom (IsPriorityHere All n) number lines ps
lines_here n number [] [] may are = tt
lines_here n number [] (p ∷ ps) may are = absurd are
lines_here n number (l ∷ ls) [] may are = absurd are
lines_here n number (l ∷ ls) (p ∷ ps) may are = ((may.0, are.0), lines_here n (number + 1) ls ps may.1 are.1)

-- those of edges may stand
joined : (P : Priority → Type 0) (ps qs : List Priority) → AllByRecursion P ps → AllByRecursion P qs → AllByRecursion P (ps ++ qs)
joined P [] qs first second = second
joined P (p ∷ ps) qs first second = (first.0, joined P ps qs first.1 second)

edges_admitted : (k : ℕ) (give take : Option ℕ) → AllByRecursion (AdmitsPriority All) (gives_at k give ++ takes_at k take ++ merges_at k false)
edges_admitted k None None = tt
edges_admitted k None (Some b) = (tt, tt)
edges_admitted k (Some a) None = (tt, tt)
edges_admitted k (Some a) (Some b) = (tt, (tt, tt))

all_admitted : (n : Network) → ((k : ℕ) → merges_any n k ≡ false) → (ks : List ℕ) → AllByRecursion (AdmitsPriority All) (flat_map (priorities_at n) ks)
all_admitted n even [] = tt
all_admitted n even (k ∷ ks) =
    joined (AdmitsPriority All) (priorities_at n k) (flat_map (priorities_at n) ks)
    (subst (λ any. AllByRecursion (AdmitsPriority All) (gives_at k (give_of n k) ++ takes_at k (take_of n k) ++ merges_at k any)) (sym (even k)) (edges_admitted k (give_of n k) (take_of n k)))
    (all_admitted n even ks)

-- the four lines of the rows
abbrev row_words : List (List ℕ)
row_words = codes "side inputs south" ∷ codes "side outputs north" ∷ codes "row inputs" ∷ codes "row outputs" ∷ []

rows_are : (n : Network) (number : ℕ) → AreLinesFrom (IsDemandHere All n) number row_words (facing_rows number)
rows_are n number = (
  (tt, record { text = refl; has_ends = tt; line = refl }),
  (
    (tt, record { text = refl; has_ends = tt; line = refl }),
    (
      (tt, record { text = refl; line = omega arith }),
      (
        (tt, record { text = refl; line = omega arith }),
        tt,
      ),
    ),
  ),
)

-- an `n` is no blank
not_blank : IsBlank 110 → ⊥
not_blank (inl e) = omega (arith, e)
not_blank (inr (inl e)) = omega (arith, e)
not_blank (inr (inr (inl e))) = omega (arith, e)
not_blank (inr (inr (inr e))) = omega (arith, e)

module _ (n : Network) (is : IsNetwork n) (even : (k : ℕ) → merges_any n k ≡ false) where
  abbrev text : List ℕ
  text = built_text built.Request n

  -- the lines behind those of the edges and the priorities
  abbrev last_lines : List (List ℕ)
  last_lines = row_words ++ codes "end" ∷ []

  abbrev behind_header : List (List ℕ)
  behind_header = map edge_text n.edges ++ (map priority_text (priorities_of n) ++ last_lines)

  -- the text is all lines
  text_lines : text ≡ flat_map line (header n ∷ behind_header)
  text_lines =
      let edges = map edge_text n.edges in
      let priorities = map priority_text (priorities_of n) in
      let last = flat_map line last_lines in
      (λ i. line (header n) ++ sym (lines_of n.edges) i ++ priority_lines n i ++ last)
      ∙ append_assoc (line (header n) ++ flat_map line edges) (flat_map line priorities) last
      ∙ append_assoc (line (header n)) (flat_map line edges) (flat_map line priorities ++ last)
      ∙ ap (λ t. line (header n) ++ (flat_map line edges ++ t)) (sym (flat_map-append line priorities last_lines))
      ∙ ap (λ t. line (header n) ++ t) (sym (flat_map-append line edges (priorities ++ last_lines)))

  none_left : drop (length text) text ≡ []
  none_left = drop_all (length text) text (omega arith)

  all_of : text ≡ flat_map line (header n ∷ behind_header) ++ drop (length text) text
  all_of = text_lines ∙ sym (append-nil (flat_map line (header n ∷ behind_header))) ∙ ap (λ r. flat_map line (header n ∷ behind_header) ++ r) (sym none_left)

  abbrev reading : Reading
  reading = record {
    net = n;
    demands = facing_rows (length n.edges + length (priorities_of n) + 2);
    blocks = [];
    used = length text;
    lines = length n.edges + length (priorities_of n) + 6;
  }

  is_read : IsNetRead All text (Ok reading)
  is_read = record {
    network = is;
    begins = record {
      edge_lines = map edge_text n.edges;
      are_edges = printed_lines n.edges;
      priorities = priorities_of n;
      priority_lines = map priority_text (priorities_of n);
      are_priorities = lines_here (alone n) (length n.edges + 2) (map priority_text (priorities_of n)) (priorities_of n) (all_admitted n even (range_with_len 0 n.splitters)) (are_priority_lines n is.prioritised (length n.edges + 2));
      becomes = becomes_itself n is.prioritised;
      demand_lines = row_words;
      are_demands = rows_are (alone n) (length n.edges + length (priorities_of n) + 2);
      block_lines = [];
      are_blocks = tt;
      begins = inl all_of;
    };
    used = omega arith;
    lines = omega arith;
  }

  -- it begins with an `n`, and so isn't JSON
  no_json : IsJsonText text → ⊥
  no_json = not_json text (110, _, record { blanks = []; are_blanks = All-nil IsBlank; text_is = refl; no_more = λ some blank. not_blank blank }, λ e. omega (arith, e))

  alone_read : IsAlone IsPinned text (Ok (pinned_net n (facing_rows (length n.edges + length (priorities_of n) + 2)) []))
  alone_read =
      went_on (pinned_net n (facing_rows (length n.edges + length (priorities_of n) + 2)) [], length text) (inr (no_json, went_on reading is_read refl))
      ([], record { blanks = []; are_blanks = All-nil IsBlank; text_is = none_left; no_more = λ some. absurd (omega (arith, some)) }, inl (refl, refl))

pub built_read : BuiltIsRead
built_read n is even = alone_read n is even
