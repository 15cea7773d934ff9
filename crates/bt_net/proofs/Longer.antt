-- What is read of longer bytes.
use Rattle.std.proofs.Common.{◌≡◌, ◌≢◌, ◌⊎◌, ℕ, ◌+◌, ◌<◌, ◌≤◌, List, [], ◌∷◌, ◌++◌, length, drop, refl, sym, ◌∙◌, ap, subst, inl, inr, arith, length-append, length-drop}
use Rattle.std.specs.Prelude.{codes}
use Rattle.std.specs.List.{AllZip, flat_map}
use Rattle.std.proofs.lemmas.List.{append_assoc, drop-append-le}
use Rattle.std.proofs.Math.Seq.{drop-append_seam}
use Rattle.bt_text.specs.Lines.{SplitsAt, line, line_feeds, IsFirstLine, BeginsWithLines}
use Rattle.bt_text.proofs.Longer.{IsWhole, IsLineRead, rest_whole, line_read, split-longer, split_whole, lines_read, split_feeds, lines_feeds}
use Rattle.bt_net.specs.declared.fault.NetFault.{NetFault}
use Rattle.bt_net.specs.declared.fault.NetFault.TheVariants.{NetLine, TooLarge, NoEnds, Memory}
use Rattle.bt_net.specs.declared.network.Admitted.{Admitted}
use Rattle.bt_net.specs.declared.network.Edge.{Edge}
use Rattle.bt_net.specs.Network.{Network}
use Rattle.bt_net.specs.NetText.{header, IsEdgeLine}
use Rattle.bt_net.specs.PinText.{IsDemandHere, IsBlockHere}
use Rattle.bt_net.specs.Refusals.{BeginsWithEdges}
use Rattle.bt_net.specs.PinRefusals.{Behind, next_line, LineRefusedAfter, BeginsWithItems, GoesOnAfter, BodyRefused}
use Rattle.bt_net.specs.Wiring.{HasSmallSizes, IsPartlyWired}
use Rattle.bt_net.specs.Readings.{Reading, StandsAtFront, IsNetRead}
use Rattle.bt_net.specs.Longer.{with_line_feed, Stays, StaysRefused}
use Rattle.bt_net.proofs.SideSpelling.{demand_here-some, block_here-some}
use Rattle.bt_net.proofs.NetLines.{edges_fit, edges-lack, edge-some}
use Rattle.bt_net.proofs.EdgeLines.{edges-some}
use Rattle.bt_net.proofs.PrioritySpelling.{here-some}
use Rattle.bt_net.specs.Priorities.{IsPriorityHere}

-- ---- what was read

-- lines that have their line feeds stand at the front of longer bytes
lines_stay : (bytes more front : List ℕ) (used : ℕ) → used ≤ length bytes → bytes ≡ front ++ drop used bytes → bytes ++ more ≡ front ++ drop used (bytes ++ more)
lines_stay bytes more front used within e =
    ap (λ b. b ++ more) e ∙ append_assoc front (drop used bytes) more ∙ ap (λ r. front ++ r) (sym (drop-append-le used bytes more within))

-- lines of which the last lacks its line feed stand there where that follows
lines_fed : (bytes more front : List ℕ) (used : ℕ) → used ≡ length bytes → line bytes ≡ front → bytes ++ 10 ∷ more ≡ front ++ drop (used + 1) (bytes ++ 10 ∷ more)
lines_fed bytes more front used all e =
    let whole : bytes ++ 10 ∷ more ≡ line bytes ++ more = sym (append_assoc bytes (10 ∷ []) more) in
    let long : used + 1 ≡ length (line bytes) = omega (arith, all, length-append bytes (10 ∷ [])) in
    let rest : drop (used + 1) (bytes ++ 10 ∷ more) ≡ more = ap (drop (used + 1)) whole ∙ ap (λ n. drop n (line bytes ++ more)) long ∙ drop-append_seam (line bytes) more in
    whole ∙ ap (λ b. b ++ more) e ∙ ap (λ r. front ++ r) (sym rest)

-- what is left of bytes whose last line lacks its line feed
used_all : (bytes : List ℕ) (used : ℕ) → used ≤ length bytes → drop used bytes ≡ [] → used ≡ length bytes
used_all bytes used within e = omega (arith, length-drop used bytes, ap length e)

module _ (may : Admitted) (bytes : List ℕ) (read : Reading) where
  -- the text of the lines of what was read
  abbrev front : StandsAtFront may bytes read → List ℕ
  front stands = flat_map line (header read.net ∷ stands.begins.edge_lines ++ (stands.begins.priority_lines ++ (stands.begins.demand_lines ++ (stands.begins.block_lines ++ codes "end" ∷ []))))

  stays_on : (stands : StandsAtFront may bytes read)
      → bytes ≡ front stands ++ drop read.used bytes
      → (more : List ℕ) → StandsAtFront may (bytes ++ more) read
  stays_on stands e more = record {
    network = stands.network;
    begins = record {
      edge_lines = stands.begins.edge_lines;
      are_edges = stands.begins.are_edges;
      priorities = stands.begins.priorities;
      priority_lines = stands.begins.priority_lines;
      are_priorities = stands.begins.are_priorities;
      becomes = stands.begins.becomes;
      demand_lines = stands.begins.demand_lines;
      are_demands = stands.begins.are_demands;
      block_lines = stands.begins.block_lines;
      are_blocks = stands.begins.are_blocks;
      begins = inl (lines_stay bytes more (front stands) read.used stands.used e);
    };
    used = omega (arith, stands.used, length-append bytes more);
    lines = stands.lines;
  }

  is_fed : (stands : StandsAtFront may bytes read) → read.used ≡ length bytes
      → line bytes ≡ front stands
      → (more : List ℕ) → StandsAtFront may (bytes ++ 10 ∷ more) (with_line_feed read)
  is_fed stands all e more = record {
    network = stands.network;
    begins = record {
      edge_lines = stands.begins.edge_lines;
      are_edges = stands.begins.are_edges;
      priorities = stands.begins.priorities;
      priority_lines = stands.begins.priority_lines;
      are_priorities = stands.begins.are_priorities;
      becomes = stands.begins.becomes;
      demand_lines = stands.begins.demand_lines;
      are_demands = stands.begins.are_demands;
      block_lines = stands.begins.block_lines;
      are_blocks = stands.begins.are_blocks;
      begins = inl (lines_fed bytes more (front stands) read.used all e);
    };
    used = omega (arith, all, length-append bytes (10 ∷ more));
    lines = stands.lines;
  }

  all_begins : (stands : StandsAtFront may bytes read)
      → BeginsWithLines bytes (header read.net ∷ stands.begins.edge_lines ++ (stands.begins.priority_lines ++ (stands.begins.demand_lines ++ (stands.begins.block_lines ++ codes "end" ∷ [])))) (drop read.used bytes)
      → ((more : List ℕ) → StandsAtFront may (bytes ++ more) read) ⊎ ((read.used ≡ length bytes) × ((more : List ℕ) → StandsAtFront may (bytes ++ 10 ∷ more) (with_line_feed read)))
  all_begins stands (inl e) = inl (stays_on stands e)
  all_begins stands (inr (e, none)) = let all = used_all bytes read.used stands.used none in inr (all, is_fed stands all e)

-- what was read stays
pub reading_stays : (may : Admitted) → Stays (IsNetRead may)
reading_stays may bytes read stands = all_begins may bytes read stands stands.begins.begins

-- ---- refusals

-- as many edge lines as edges
as_many : (lines : List (List ℕ)) (es : List Edge) → AllZip IsEdgeLine lines es → length lines ≡ length es
as_many [] [] are = refl
as_many [] (e ∷ es) are = absurd are
as_many (l ∷ ls) [] are = absurd are
as_many (l ∷ ls) (e ∷ es) are = omega (arith, as_many ls es are.1)

-- edge lines at the front of a text that ends with a line feed
pub record EdgesRead (n : Network) (text rest : List ℕ) : Type 0 where
  pub whole : IsWhole rest
  pub feeds : line_feeds text ≡ length n.edges + line_feeds rest
  pub stay : (more : List ℕ) → BeginsWithEdges (text ++ more) n.edges (rest ++ more)

edges_read : (n : Network) (text rest : List ℕ) → HasSmallSizes n → IsPartlyWired n → IsWhole text → BeginsWithEdges text n.edges rest → EdgesRead n text rest
edges_read n text rest small wired whole edges =
    let lack = edges-lack edges.lines n.edges (edges_fit n small wired) edges.are_edges in
    let some = edges-some edges.lines n.edges edges.are_edges in
    let e : text ≡ flat_map line edges.lines ++ rest = lines_read edges.lines text rest whole lack some edges.begins in
    record {
      whole = rest_whole (flat_map line edges.lines) rest (subst IsWhole e whole);
      feeds = omega (arith, ap line_feeds e, lines_feeds edges.lines rest lack, as_many edges.lines n.edges edges.are_edges);
      stay = λ more. record { lines = edges.lines; are_edges = edges.are_edges; begins = inl (ap (λ t. t ++ more) e ∙ append_assoc (flat_map line edges.lines) rest more) };
    }

-- lines of pins or of blocks at the front of a text that ends with a line feed
pub record ItemsRead {X : Type 0} (IsLine : ℕ → List ℕ → X → Type 0) (number : ℕ) (text rest : List ℕ) (xs : List X) : Type 0 where
  pub whole : IsWhole rest
  pub feeds : line_feeds text ≡ length xs + line_feeds rest
  pub stay : (more : List ℕ) → BeginsWithItems IsLine number (text ++ more) xs (rest ++ more)

module _ {X : Type 0} (IsLine : ℕ → List ℕ → X → Type 0) (some : (number : ℕ) (bytes : List ℕ) (x : X) → IsLine number bytes x → 0 < length bytes) where
  first_item : (number : ℕ) (text bytes after rest : List ℕ) (x : X) (xs : List X) → IsLine number bytes x → IsLineRead text bytes after → (IsWhole after → ItemsRead IsLine (number + 1) after rest xs)
      → IsWhole text → ItemsRead IsLine number text rest (x ∷ xs)
  first_item number text bytes after rest x xs is (inl split) more_items whole =
      let items = more_items (split_whole text bytes after whole split) in
      record {
        whole = items.whole;
        feeds = omega (arith, split_feeds text bytes after split, items.feeds);
        stay = λ more. (bytes, after ++ more, inl (split-longer 10 text bytes after more split), is, items.stay more);
      }
  first_item number text bytes after rest x xs is (inr (empty, none)) more_items whole = absurd (omega (arith, some number bytes x is, ap length none))

  items_read : (number : ℕ) (text rest : List ℕ) (xs : List X) → IsWhole text → BeginsWithItems IsLine number text xs rest → ItemsRead IsLine number text rest xs
  items_read number text rest [] whole e = record { whole = subst IsWhole e whole; feeds = omega (arith, ap line_feeds e); stay = λ more. ap (λ t. t ++ more) e }
  items_read number text rest (x ∷ xs) whole (bytes, after, first, is, on) =
      first_item number text bytes after rest x xs is (line_read text bytes after whole first) (λ w. items_read (number + 1) after rest xs w on) whole

-- the line that is next is refused by its number alone
next_refused_after : (may : Admitted) (n : Network) (behind : Behind) (number : ℕ) (f : NetFault) → LineRefusedAfter may n behind number [] f → f ≡ NetLine number
next_refused_after may n behind number (NetLine k) refused = ap NetLine refused.1
next_refused_after may n behind number TooLarge refused = absurd (omega (arith, edge-some [] refused.3.0 refused.3.1))
next_refused_after may n behind number NoEnds refused = cc (refused.0)
next_refused_after may n behind number Memory refused = absurd refused

module _ (may : Admitted) (n : Network) (text more : List ℕ) (f : NetFault) (small : HasSmallSizes n) (whole : IsWhole text) (other : f ≢ NetLine (line_feeds text + 2)) where
  body_refused_by : (b : BodyRefused may n text f) (on : GoesOnAfter may n b.behind text b.bytes b.after) → EdgesRead n text on.after_edges
      → ItemsRead (IsPriorityHere may n) (length n.edges + 2) on.after_edges on.after_priorities b.behind.priorities
      → ItemsRead (IsDemandHere may n) (length n.edges + length b.behind.priorities + 2) on.after_priorities on.after_demands b.behind.demands
      → ItemsRead (IsBlockHere may) (length n.edges + length b.behind.priorities + length b.behind.demands + 2) on.after_demands on.after_blocks b.behind.blocks → IsLineRead on.after_blocks b.bytes b.after → BodyRefused may n (text ++ more) f
  body_refused_by b on edges priorities demands blocks (inl split) = record {
    behind = b.behind;
    bytes = b.bytes;
    after = b.after ++ more;
    goes_on = record {
      wired = on.wired;
      few = on.few;
      after_edges = on.after_edges ++ more;
      edges = edges.stay more;
      after_priorities = on.after_priorities ++ more;
      priority_lines = priorities.stay more;
      becomes = on.becomes;
      after_demands = on.after_demands ++ more;
      demand_lines = demands.stay more;
      after_blocks = on.after_blocks ++ more;
      block_lines = blocks.stay more;
      next = inl (split-longer 10 on.after_blocks b.bytes b.after more split);
    };
    refused = b.refused;
  }
  body_refused_by b on edges priorities demands blocks (inr (empty, none)) =
      let same = next_refused_after may n b.behind (next_line n b.behind) f (subst (λ l. LineRefusedAfter may n b.behind (next_line n b.behind) l f) none b.refused) in
      absurd (other (same ∙ ap (λ k. NetLine k) (omega (arith, edges.feeds, priorities.feeds, demands.feeds, blocks.feeds, ap line_feeds empty))))

  -- behind a header, a line that has its line feed is refused in longer bytes too
  body_refused : BodyRefused may n text f → BodyRefused may n (text ++ more) f
  body_refused b =
      let on = b.goes_on in
      let edges = edges_read n text on.after_edges small on.wired whole on.edges in
      let priorities = items_read (IsPriorityHere may n) (here-some may n) (length n.edges + 2) on.after_edges on.after_priorities b.behind.priorities edges.whole on.priority_lines in
      let demands = items_read (IsDemandHere may n) (demand_here-some may n) (length n.edges + length b.behind.priorities + 2) on.after_priorities on.after_demands b.behind.demands priorities.whole on.demand_lines in
      let blocks = items_read (IsBlockHere may) (block_here-some may) (length n.edges + length b.behind.priorities + length b.behind.demands + 2) on.after_demands on.after_blocks b.behind.blocks demands.whole on.block_lines in
      body_refused_by b on edges priorities demands blocks (line_read on.after_blocks b.bytes b.after blocks.whole on.next)

-- a text with a line feed at its end is whole, and its first line has its line feed
module _ (lines first rest : List ℕ) where
  ends_line : IsLineRead (line lines) first rest → SplitsAt 10 (line lines) first rest
  ends_line (inl split) = split
  ends_line (inr (empty, none)) = absurd (omega (arith, length-append lines (10 ∷ []), ap length empty))

  first_split : IsFirstLine (line lines) first rest → SplitsAt 10 (line lines) first rest
  first_split is = ends_line (line_read (line lines) first rest (inr (lines, refl)) is)

  -- a fault of no line that is next is none behind the first line
  other_behind : (f : NetFault) → f ≢ NetLine (line_feeds (line lines) + 1) → SplitsAt 10 (line lines) first rest → f ≢ NetLine (line_feeds rest + 2)
  other_behind f other split same = other (same ∙ ap NetLine (omega (arith, split_feeds (line lines) first rest split)))

-- a refusal stays
pub stays_refused : (may : Admitted) → StaysRefused (IsNetRead may)
stays_refused may lines more f other (first, rest, is, inl why) = (first, rest ++ more, inl (split-longer 10 (line lines) first rest more (first_split lines first rest is)), inl why)
stays_refused may lines more f other (first, rest, is, inr (n, e, small, body)) =
    let split = first_split lines first rest is in (
      first,
      rest ++ more,
      inl (split-longer 10 (line lines) first rest more split),
      inr (n, e, small, body_refused may n rest more f small (split_whole (line lines) first rest (inr (lines, refl)) split) (other_behind lines first rest f other split) body),
    )
