-- Two right answers to a text are equal.
use Rattle.std.proofs.Common.{◌≡◌, ℕ, ◌+◌, ◌<◌, ◌≤◌, ◌-◌, ◌⊎◌, false, replicate, List, [], ◌∷◌, ◌++◌, length, drop, refl, sym, ◌∙◌, ap, subst, inl, inr, ⊎_elim, arith, length-append}
use Rattle.std.specs.Prelude.{Result, Ok, Err, codes}
use Rattle.std.specs.List.{AllZip, flat_map}
use Rattle.std.proofs.lemmas.List.{append_assoc}
use Rattle.std.proofs.lemmas.List.Concat.{flat_map-append}
use Rattle.bt_text.specs.Answers.{UnlessMemory, Answers, HasOneAnswer}
use Rattle.bt_text.proofs.OneAnswer.{answers_of}
use Rattle.bt_text.specs.Lines.{line, IsFirstLine, BeginsWithLines}
use Rattle.bt_text.proofs.FirstLines.{BeginsWithLines-nil, first_line_of, BeginsWithLines-tail, BeginsWithLines-push, BeginsWithLines-cons, BeginsWithLines-used, IsFirstLine-unique}
use Rattle.bt_net.specs.declared.fault.NetFault.{NetFault}
use Rattle.bt_net.specs.declared.fault.NetFault.TheVariants.{NetLine, TooLarge, NoEnds, Memory}
use Rattle.bt_net.specs.declared.network.Admitted.{Admitted}
use Rattle.bt_net.specs.declared.network.Admitted.TheVariants.{Priorities}
use Rattle.bt_net.specs.declared.network.Block.{Block}
use Rattle.bt_net.specs.declared.network.Demand.{Demand}
use Rattle.bt_net.specs.declared.network.Priority.{Priority}
use Rattle.bt_net.specs.declared.priority.Preferred.{Preferred}
use Rattle.bt_net.specs.inner.Preferred.{told}
use Rattle.bt_net.specs.Network.{Network, IsWired, IsNetwork, IsNetOf, IsPrioritised, HasNoPriorities, none_each}
use Rattle.bt_net.specs.NetText.{header, alone, IsEdgeLine, BeginsWithNet}
use Rattle.bt_net.specs.PinText.{AreLinesFrom, IsDemandHere, IsBlockHere}
use Rattle.bt_net.specs.Priorities.{preferring, IsPriorityLine, IsPriorityHere, Becomes}
use Rattle.bt_net.specs.Refusals.{HeaderRefused, GoesOn}
use Rattle.bt_net.specs.PinRefusals.{Behind, next_line, MayNotFollow, BeginsWithItems, GoesOnAfter, BodyRefused, RefusesAll}
use Rattle.bt_net.specs.Readings.{Reading, BeginsWithAll, StandsAtFront, IsNetRead}
use Rattle.bt_net.specs.Wiring.{HasSmallSizes}
use Rattle.bt_net.specs.inner.Items.{ItemsStand}
use Rattle.bt_net.specs.inner.Lines.{IsStarted, SameSizes, EdgesEnd, AreEdgesRead, ItemsEnd, IsEndRead}
use Rattle.bt_text.proofs.Lacking.{lacks}
use Rattle.bt_net.proofs.NetLines.{back, header-same, HasSmallSizes-same, edges_fit, edges-lack, header-lacks, header_stands, SameSizes-header, partly_of_wired}
use Rattle.bt_net.proofs.Refusing.{header_same}
use Rattle.bt_net.proofs.OneNet.{same_used}
use Rattle.bt_net.proofs.EdgeLines.{edges-some}
use Rattle.bt_net.proofs.SideSpelling.{demand_here_apart, block_here_apart, demand_here-some, block_here-some, demand_here-lacks, block_here-lacks}
use Rattle.bt_net.proofs.PrioritySpelling.{here_apart, here-lacks, here-some}
use Rattle.bt_net.specs.Priorities.{preferring}
use Rattle.bt_net.proofs.Preference.{plain_is_prioritised, told_network, less_prioritised}
use Rattle.bt_net.proofs.Preferring.{SameWires, becomes_wires, becomes_prioritised}
use Rattle.bt_net.proofs.ItemLines.{more_lines, lines_items, items_lines}
use Rattle.bt_net.proofs.Bodies.{end_stops, body_same, body_stands, one_body}

-- a network without its priorities is wired alike, and as small
pub alone_wired : (n : Network) → IsWired n → IsWired (alone n)
alone_wired n wired = record {
  starts = wired.starts;
  targets = wired.targets;
  caps = wired.caps;
  one_in = wired.one_in;
  one_out = wired.one_out;
  few_in = wired.few_in;
  few_out = wired.few_out;
}

alone_small : (n : Network) → IsNetwork n → HasSmallSizes (alone n)
alone_small n is = record { plain = record { gives = refl; takes = refl; merges = refl }; few_inputs = is.few_inputs; few_outputs = is.few_outputs; few_splitters = is.few_splitters }

-- a network that became another by priorities is that one without them
alone_is : (w m : Network) → HasNoPriorities w → SameWires w m → alone m ≡ w
alone_is w m plain s =
    let inputs = sym s.inputs in
    let outputs = sym s.outputs in
    let splitters = sym s.splitters in
    let edges = sym s.edges in
    let gives : none_each m.splitters ≡ w.gives = ap none_each splitters ∙ sym plain.gives in
    let takes : none_each m.splitters ≡ w.takes = ap none_each splitters ∙ sym plain.takes in
    let merges : replicate m.splitters false ≡ w.merges = ap (λ k. replicate k false) splitters ∙ sym plain.merges in
    λ i. record { inputs = inputs i; outputs = outputs i; splitters = splitters i; edges = edges i; gives = gives i; takes = takes i; merges = merges i }

-- what stands behind the edges of what was read
abbrev behind_of : (may : Admitted) (bytes rest : List ℕ) (read : Reading) → BeginsWithAll may bytes read rest → Behind
behind_of may bytes rest read all = record { priorities = all.priorities; preferring = read.net; demands = read.demands; blocks = read.blocks }

-- what was read behind the header, up to the line `end`
pub record WholeBody (may : Admitted) (bytes : List ℕ) (n : Network) (behind : Behind) (rest : List ℕ) : Type 0 where
  pub text : List ℕ
  pub first : IsFirstLine bytes (header n) text
  pub goes_on : GoesOnAfter may (alone n) behind text (codes "end") rest

whole_body : (may : Admitted) (bytes rest : List ℕ) (read : Reading) → IsNetwork read.net → (all : BeginsWithAll may bytes read rest) → WholeBody may bytes read.net (behind_of may bytes rest read all) rest
whole_body may bytes rest read net all =
    let n = read.net in
    let w = alone n in
    let small = alone_small n net in
    let wired = alone_wired n net.wired in
    let few = net.few_edges in
    let first = first_line_of bytes in
    let tail = BeginsWithLines-tail bytes first.0 first.1 (header n) (all.edge_lines ++ (all.priority_lines ++ (all.demand_lines ++ (all.block_lines ++ codes "end" ∷ [])))) rest first.2 (header-lacks w small) all.begins in
    let fit = edges_fit w small (partly_of_wired w wired) in
    let edges = more_lines [] all.edge_lines (all.priority_lines ++ (all.demand_lines ++ (all.block_lines ++ codes "end" ∷ []))) first.1 first.1 rest (edges-lack all.edge_lines n.edges fit all.are_edges) (edges-some all.edge_lines n.edges all.are_edges) (inl refl) tail.1 in
    let priorities = lines_items (IsPriorityHere may w) (here_apart may w small few) (here-some may w) (here-lacks may w small few) (length n.edges + 2) all.priority_lines (all.demand_lines ++ (all.block_lines ++ codes "end" ∷ [])) edges.0 rest all.priorities all.are_priorities edges.2 in
    let demands = lines_items (IsDemandHere may w) (demand_here_apart may w small) (demand_here-some may w) (demand_here-lacks may w small) (length n.edges + length all.priorities + 2) all.demand_lines (all.block_lines ++ codes "end" ∷ []) priorities.0 rest read.demands all.are_demands priorities.2 in
    let blocks = lines_items (IsBlockHere may) (block_here_apart may) (block_here-some may) (block_here-lacks may) (length n.edges + length all.priorities + length read.demands + 2) all.block_lines (codes "end" ∷ []) demands.0 rest read.blocks all.are_blocks demands.2 in
    let last = first_line_of blocks.0 in
    let end = BeginsWithLines-tail blocks.0 last.0 last.1 (codes "end") [] rest last.2 (lacks 10 (codes "end") refl) blocks.2 in
    record {
      text = first.1;
      first = subst (λ l. IsFirstLine bytes l first.1) tail.0 first.2;
      goes_on = record {
        wired = partly_of_wired w wired;
        few = few;
        after_edges = edges.0;
        edges = record { lines = all.edge_lines; are_edges = all.are_edges; begins = edges.1 };
        after_priorities = priorities.0;
        priority_lines = priorities.1;
        becomes = all.becomes;
        after_demands = demands.0;
        demand_lines = demands.1;
        after_blocks = blocks.0;
        block_lines = blocks.1;
        next = subst (λ r. IsFirstLine blocks.0 (codes "end") r) (BeginsWithLines-nil last.1 rest end.1) (subst (λ l. IsFirstLine blocks.0 l last.1) end.0 last.2);
      };
    }

-- and back: what a text of a header, edges and what stands behind them up to `end` is, and where it ends
all_parts : (may : Admitted) (bytes first text rest : List ℕ) (s w : Network) (behind : Behind) → IsFirstLine bytes first text → IsStarted s first → SameSizes s w → GoesOnAfter may w behind text (codes "end") rest
    → ((used lines : ℕ) → (all : BeginsWithAll may bytes (record { net = behind.preferring; demands = behind.demands; blocks = behind.blocks; used = used; lines = lines }) rest) × (all.priorities ≡ behind.priorities))
    × (length rest ≤ length bytes) × (drop (length bytes - length rest) bytes ≡ rest)
all_parts may bytes first text rest s w behind is start sizes on =
    let m = behind.preferring in
    let small = HasSmallSizes-same s w sizes start.small in
    let wires = becomes_wires w m behind.priorities on.becomes in
    let same = alone_is w m small.plain wires in
    let back = sym same in
    let q = items_lines (IsPriorityHere may w) (here_apart may w small on.few) (here-some may w) (here-lacks may w small on.few) (length w.edges + 2) on.edges.lines text on.after_edges on.after_priorities behind.priorities on.edges.begins on.priority_lines in
    let p = items_lines (IsDemandHere may w) (demand_here_apart may w small) (demand_here-some may w) (demand_here-lacks may w small) (length w.edges + length behind.priorities + 2) (on.edges.lines ++ q.0) text on.after_priorities on.after_demands behind.demands q.2 on.demand_lines in
    let b = items_lines (IsBlockHere may) (block_here_apart may) (block_here-some may) (block_here-lacks may) (length w.edges + length behind.priorities + length behind.demands + 2) ((on.edges.lines ++ q.0) ++ p.0) text on.after_demands on.after_blocks behind.blocks p.2 on.block_lines in
    let front = ((on.edges.lines ++ q.0) ++ p.0) ++ b.0 in
    let ends = BeginsWithLines-push text on.after_blocks (codes "end") rest front b.2 on.next (omega arith) in
    let some : 1 < length (flat_map line (front ++ codes "end" ∷ [])) = rw (flat_map-append line front (codes "end" ∷ [])) (omega (arith, length-append (flat_map line front) (flat_map line (codes "end" ∷ [])))) in
    let heads : header w ≡ header m = ap header back in
    let head : IsFirstLine bytes (header m) text = subst (λ l. IsFirstLine bytes l text) (start.line_is ∙ header-same s w sizes ∙ heads) is in
    let lines : BeginsWithLines bytes (header m ∷ (front ++ codes "end" ∷ [])) rest = BeginsWithLines-cons bytes (header m) text rest (front ++ codes "end" ∷ []) head ends some in
    let used = BeginsWithLines-used bytes rest (header m ∷ (front ++ codes "end" ∷ [])) lines in
    let whole : BeginsWithLines bytes (header m ∷ (on.edges.lines ++ (q.0 ++ (p.0 ++ (b.0 ++ codes "end" ∷ []))))) rest =
    subst (λ ls. BeginsWithLines bytes (header m ∷ ls) rest)
    (append_assoc ((on.edges.lines ++ q.0) ++ p.0) b.0 (codes "end" ∷ []) ∙ append_assoc (on.edges.lines ++ q.0) p.0 (b.0 ++ codes "end" ∷ []) ∙ append_assoc on.edges.lines q.0 (p.0 ++ (b.0 ++ codes "end" ∷ []))) lines in
    let P : Network → Type 0 = λ k. AreLinesFrom (IsPriorityHere may k) (length k.edges + 2) q.0 behind.priorities in
    let D : Network → Type 0 = λ k. AreLinesFrom (IsDemandHere may k) (length k.edges + length behind.priorities + 2) p.0 behind.demands in
    let B : Network → Type 0 = λ k. AreLinesFrom (IsBlockHere may) (length k.edges + length behind.priorities + length behind.demands + 2) b.0 behind.blocks in
    let E : Network → Type 0 = λ k. AllZip IsEdgeLine on.edges.lines k.edges in (
      λ used lines. (
        record {
          edge_lines = on.edges.lines;
          are_edges = subst E back on.edges.are_edges;
          priorities = behind.priorities;
          priority_lines = q.0;
          are_priorities = subst P back q.1;
          becomes = subst (λ k. Becomes k behind.priorities m) back on.becomes;
          demand_lines = p.0;
          are_demands = subst D back p.1;
          block_lines = b.0;
          are_blocks = subst B back b.1;
          begins = whole;
        },
        refl,
      ),
      used.0,
      used.1,
    )

-- a text is refused for one cause
refused_once : (may : Admitted) (text : List ℕ) (f g : NetFault) → RefusesAll may text f → RefusesAll may text g → f ≡ g
refused_once may text f g p q =
    let line = IsFirstLine-unique text p.0 q.0 p.1 q.1 p.2 q.2 in
    ⊎_elim
    (λ a. ⊎_elim
    (λ b. header_same q.0 f g (subst (λ l. HeaderRefused l f) line.0 a) b)
    (λ b. absurd (header_stands p.0 b.0 f b.2 (line.0 ∙ b.1) a)) q.3)
    (λ a. ⊎_elim
    (λ b. absurd (header_stands q.0 a.0 g a.2 (sym line.0 ∙ a.1) b))
    (λ b. body_same may a.0 b.0 q.1 f g a.2 b.2 (SameSizes-header a.0 b.0 a.2 b.2 (sym a.1 ∙ line.0 ∙ b.1)) (subst (λ t. BodyRefused may a.0 t f) line.1 a.3) b.3) q.3)
    p.3

-- what can be read is not refused
read_stands : (may : Admitted) (bytes : List ℕ) (read : Reading) (f : NetFault) → StandsAtFront may bytes read → RefusesAll may bytes f → ⊥
read_stands may bytes read f stands p =
    let n = read.net in
    let net = stands.network in
    let small = alone_small n net in
    let whole = whole_body may bytes (drop read.used bytes) read net stands.begins in
    let line = IsFirstLine-unique bytes p.0 (header n) p.1 whole.text p.2 whole.first in
    ⊎_elim
    (λ a. header_stands p.0 (alone n) f small line.0 a)
    (λ a. body_stands may a.0 (alone n) whole.text (drop read.used bytes) (behind_of may bytes (drop read.used bytes) read stands.begins) f a.2 small (alone_wired n net.wired) net.some_input net.some_output
    (SameSizes-header a.0 (alone n) a.2 small (sym a.1 ∙ line.0)) (subst (λ t. BodyRefused may a.0 t f) line.1 a.3) whole.goes_on)
    p.3

-- a text begins with one network at most, and with one list of what stands behind its edges
pub record SameAll (a b : Reading) (ps qs : List Priority) (r s : List ℕ) : Type 0 where
  pub net : a.net ≡ b.net
  pub priorities : ps ≡ qs
  pub demands : a.demands ≡ b.demands
  pub blocks : a.blocks ≡ b.blocks
  pub after : r ≡ s

one_all : (may : Admitted) (bytes r s : List ℕ) (a b : Reading) → IsNetwork a.net → IsNetwork b.net → (p : BeginsWithAll may bytes a r) → (q : BeginsWithAll may bytes b s) → SameAll a b p.priorities q.priorities r s
one_all may bytes r s a b p q x y =
    let m = a.net in
    let n = b.net in
    let v = whole_body may bytes r a p x in
    let w = whole_body may bytes s b q y in
    let small = alone_small m p in
    let smaller = alone_small n q in
    let line = IsFirstLine-unique bytes (header m) (header n) v.text w.text v.first w.first in
    let sizes = SameSizes-header (alone m) (alone n) small smaller line.0 in
    let same = one_body may (alone m) (alone n) (behind_of may bytes r a x) (behind_of may bytes s b y) w.text (codes "end") (codes "end") r s small smaller sizes (back (alone m) (alone n) sizes)
    (subst (λ t. GoesOnAfter may (alone m) (behind_of may bytes r a x) t (codes "end") r) line.1 v.goes_on) w.goes_on
    (end_stops may (alone m) (behind_of may bytes r a x) _ (codes "end") refl) (end_stops may (alone n) (behind_of may bytes s b y) _ (codes "end") refl) in
    record {
      net = ap (λ (z : Behind). z.preferring) same.behind;
      priorities = ap (λ (z : Behind). z.priorities) same.behind;
      demands = ap (λ (z : Behind). z.demands) same.behind;
      blocks = ap (λ (z : Behind). z.blocks) same.behind;
      after = same.after;
    }

same_reading : (may : Admitted) (bytes : List ℕ) (a b : Reading) → StandsAtFront may bytes a → StandsAtFront may bytes b → a ≡ b
same_reading may bytes a b p q =
    let one = one_all may bytes (drop a.used bytes) (drop b.used bytes) a b p.network q.network p.begins q.begins in
    let net = one.net in
    let more = one.priorities in
    let demands = one.demands in
    let blocks = one.blocks in
    let used = same_used bytes a.used b.used p.used q.used one.after in
    let lines = p.lines ∙ (λ i. length (net i).edges + length (more i) + length (demands i) + length (blocks i) + 2) ∙ sym q.lines in
    λ i. record { net = net i; demands = demands i; blocks = blocks i; used = used i; lines = lines i }

-- the same of a network alone
module _ (bytes : List ℕ) (n : Network) (rest : List ℕ) where
  pub here_lines : (number : ℕ) (lines : List (List ℕ)) (ps : List Priority) → AreLinesFrom (IsPriorityLine (alone n)) number lines ps → AreLinesFrom (IsPriorityHere Priorities (alone n)) number lines ps
  here_lines number [] [] are = tt
  here_lines number [] (p ∷ ps) are = absurd are
  here_lines number (l ∷ ls) [] are = absurd are
  here_lines number (l ∷ ls) (p ∷ ps) are = ((tt, are.0), here_lines (number + 1) ls ps are.1)

  pub net_all : (b : BeginsWithNet bytes n rest) → (all : BeginsWithAll Priorities bytes (record { net = n; demands = []; blocks = []; used = 0; lines = 0 }) rest) × (all.priorities ≡ b.priorities)
  net_all b = (
    record {
      edge_lines = b.edge_lines;
      are_edges = b.are_edges;
      priorities = b.priorities;
      priority_lines = b.priority_lines;
      are_priorities = here_lines (length n.edges + 2) b.priority_lines b.priorities b.are_priorities;
      becomes = b.becomes;
      demand_lines = [];
      are_demands = tt;
      block_lines = [];
      are_blocks = tt;
      begins = b.begins;
    },
    refl,
  )

pub one_network : (bytes : List ℕ) (m n : Network) (r s : List ℕ) → IsNetwork m → IsNetwork n → BeginsWithNet bytes m r → BeginsWithNet bytes n s → (m ≡ n) × (r ≡ s)
one_network bytes m n r s p q a b =
    let one = one_all Priorities bytes r s (record { net = m; demands = []; blocks = []; used = 0; lines = 0 }) (record { net = n; demands = []; blocks = []; used = 0; lines = 0 }) p q (net_all bytes m r a).0 (net_all bytes n s b).0 in
    (one.net, one.after)

-- one answer is right to a text
pub one_read : (may : Admitted) (bytes : List ℕ) → HasOneAnswer (IsNetRead may bytes)
one_read may bytes (Ok a) (Ok b) p q = ap Ok (same_reading may bytes a b p q)
one_read may bytes (Ok a) (Err g) p q = absurd (read_stands may bytes a g p q)
one_read may bytes (Err f) (Ok b) p q = absurd (read_stands may bytes b f q p)
one_read may bytes (Err f) (Err g) p q = ap Err (refused_once may bytes f g p q)

-- what a call that reads a text owes
pub read_answers : (may : Admitted) (bytes : List ℕ) (told : Result Reading NetFault) → UnlessMemory Memory (IsNetRead may bytes) told → Answers Memory (IsNetRead may bytes) told
read_answers may bytes told right = answers_of Memory (IsNetRead may bytes) (one_read may bytes) told right

-- where the first line is refused
pub header_answers : (may : Admitted) (text first rest : List ℕ) (f : NetFault) → IsFirstLine text first rest → HeaderRefused first f ⊎ (f ≡ Memory) → Answers Memory (IsNetRead may text) (Err f)
header_answers may text first rest f is why = read_answers may text (Err f) (⊎_elim (λ cause. inl (first, rest, is, inl cause)) (λ memory. inr memory) why)

-- where memory ran out
pub memory_answers : (may : Admitted) (text : List ℕ) (f : NetFault) → f ≡ Memory → Answers Memory (IsNetRead may text) (Err f)
memory_answers may text f is = read_answers may text (Err f) (inr is)

-- nothing behind the edges
abbrev pub bare : Network → Behind
bare w = record { priorities = []; preferring = w; demands = []; blocks = [] }

-- edges alone
no_items : (may : Admitted) (w : Network) (text bytes after : List ℕ) → GoesOn w text bytes after → GoesOnAfter may w (bare w) text bytes after
no_items may w text bytes after on = record {
  wired = on.wired;
  few = on.few;
  after_edges = on.rest;
  edges = on.edges;
  after_priorities = on.rest;
  priority_lines = refl;
  becomes = refl;
  after_demands = on.rest;
  demand_lines = refl;
  after_blocks = on.rest;
  block_lines = refl;
  next = on.next;
}

module _ (may : Admitted) (text first rest : List ℕ) (m w : Network) (is : IsFirstLine text first rest) (start : IsStarted m first) (sizes : SameSizes m w) where
  body_answers : (f : NetFault) → BodyRefused may w rest f → Answers Memory (IsNetRead may text) (Err f)
  body_answers f why = read_answers may text (Err f) (inl (first, rest, is, inr (w, start.line_is ∙ header-same m w sizes, HasSmallSizes-same m w sizes start.small, why)))

  -- where the edges are refused
  pub edges_answer : (f : NetFault) → AreEdgesRead w rest (Err f) ⊎ (f ≡ Memory) → Answers Memory (IsNetRead may text) (Err f)
  edges_answer f (inr memory) = memory_answers may text f memory
  edges_answer (NetLine k) (inl why) = absurd why
  edges_answer TooLarge (inl why) = body_answers TooLarge (record { behind = bare w; bytes = why.0; after = why.1; goes_on = no_items may w rest why.0 why.1 why.2; refused = (refl, refl, refl, why.3) })
  edges_answer NoEnds (inl why) = absurd why
  edges_answer Memory (inl why) = absurd why

  module _ (preferred : Preferred) (demands : List Demand) (blocks : List Block) (number : ℕ) (a c : List ℕ) (edges : EdgesEnd w rest a) (items : ItemsStand may w a preferred demands blocks number c) where
    abbrev pub became : Network
    became = told w preferred

    -- what stands behind the edges
    abbrev pub behind : Behind
    behind = record { priorities = items.priorities_end.priorities; preferring = became; demands = demands; blocks = blocks }

    count_is : items.count ≡ length items.priorities_end.priorities
    count_is = items.priorities_end.count_is

    pub number_next : number ≡ next_line w behind
    number_next = omega (arith, items.number_is, count_is)

    demands_here : ItemsEnd (IsDemandHere may w) (length w.edges + length behind.priorities + 2) items.after_priorities demands items.after_demands
    demands_here = subst (λ k. ItemsEnd (IsDemandHere may w) (length w.edges + k + 2) items.after_priorities demands items.after_demands) count_is items.demands_end

    blocks_here : ItemsEnd (IsBlockHere may) (length w.edges + length behind.priorities + length demands + 2) items.after_demands blocks c
    blocks_here = subst (λ k. ItemsEnd (IsBlockHere may) (length w.edges + k + length demands + 2) items.after_demands blocks c) count_is items.blocks_end

    -- edges and all behind them, and the line that follows
    pub goes_on : (bytes after : List ℕ) → IsFirstLine c bytes after → GoesOnAfter may w behind rest bytes after
    goes_on bytes after next = record {
      wired = edges.wired;
      few = edges.few;
      after_edges = a;
      edges = edges.edges;
      after_priorities = items.after_priorities;
      priority_lines = items.priorities_end.starts;
      becomes = items.priorities_end.becomes;
      after_demands = items.after_demands;
      demand_lines = demands_here.starts;
      after_blocks = c;
      block_lines = blocks_here.starts;
      next = next;
    }

    same_first : (text other x y u v : List ℕ) → text ≡ other → IsFirstLine text x u → IsFirstLine other y v → x ≡ y
    same_first text other x y u v e p q = (IsFirstLine-unique other x y u v (subst (λ t. IsFirstLine t x u) e p) q).0

    items_none : {X : Type 0} (IsLine : ℕ → List ℕ → X → Type 0) (k : ℕ) (xs : List X) (t r : List ℕ) → xs ≡ [] → BeginsWithItems IsLine k t xs r → t ≡ r
    items_none IsLine k [] t r none begins = begins
    items_none IsLine k (x ∷ xs) t r none begins = cc

    no_blocks : blocks ≡ [] → items.after_demands ≡ c
    no_blocks none = items_none (IsBlockHere may) _ blocks items.after_demands c none blocks_here.starts

    no_demands : demands ≡ [] → blocks ≡ [] → items.after_priorities ≡ c
    no_demands none rest = items_none (IsDemandHere may w) _ demands items.after_priorities items.after_demands none demands_here.starts ∙ no_blocks rest

    no_priorities : behind.priorities ≡ [] → demands ≡ [] → blocks ≡ [] → a ≡ c
    no_priorities none rest others = items_none (IsPriorityHere may w) _ behind.priorities a items.after_priorities none items.priorities_end.starts ∙ no_demands rest others

    -- why that line is refused, where it doesn't end the network
    pub may_not_follow : (bytes after : List ℕ) → IsFirstLine c bytes after → (bytes ≡ codes "end" → IsWired w → ⊥) → MayNotFollow may w behind (next_line w behind) bytes
    may_not_follow bytes after next no_end = record {
      no_end = no_end;
      no_edge = λ none demandless blockless e edge wired.
          edges.no_edge e (subst (λ l. IsEdgeLine l e) (sym (same_first a c edges.bytes bytes edges.after after (no_priorities none demandless blockless) edges.next next)) edge) wired;
      no_priority = λ demandless blockless p line free.
          let found = items.priorities_end in
          found.no_more p (subst (λ l. IsPriorityHere may w 0 l p) (sym (same_first items.after_priorities c found.bytes bytes found.after after (no_demands demandless blockless) found.next next)) line) free;
      no_demand = λ blockless demand line.
          demands_here.no_more demand (subst (λ k. IsDemandHere may w k demands_here.bytes demand) (omega (arith, ap length blockless))
          (subst (λ l. IsDemandHere may w (next_line w behind) l demand) (sym (same_first items.after_demands c demands_here.bytes bytes demands_here.after after (no_blocks blockless) demands_here.next next)) line));
      no_block = λ block line. blocks_here.no_more block (subst (λ k. IsBlockHere may k blocks_here.bytes block) (omega arith)
          (subst (λ l. IsBlockHere may (next_line w behind) l block) (sym (same_first c c blocks_here.bytes bytes blocks_here.after after refl blocks_here.next next)) line));
    }

    -- where another line follows than `end`, or the network can't end there
    pub last_answers : (f : NetFault) → IsEndRead w number c (Err f) → Answers Memory (IsNetRead may text) (Err f)
    last_answers (NetLine j) end = body_answers (NetLine j) (record { behind = behind; bytes = end.0; after = end.1; goes_on = goes_on end.0 end.1 end.2; refused = (may_not_follow end.0 end.1 end.2 end.3, end.4 ∙ number_next) })
    last_answers TooLarge end = absurd end
    last_answers NoEnds end = absurd end
    last_answers Memory end = absurd end

    -- where the lines up to `end` are those of no network
    pub net_answers : (f : NetFault) (after : List ℕ) → IsFirstLine c (codes "end") after → IsWired w → IsNetOf w (Err f) → Answers Memory (IsNetRead may text) (Err f)
    net_answers (NetLine k) after next wired why = absurd why
    net_answers TooLarge after next wired why =
        let small = HasSmallSizes-same m w sizes start.small in
        absurd (⊎_elim (λ h. omega (arith, small.few_inputs, h)) (⊎_elim (λ h. omega (arith, small.few_outputs, h)) (⊎_elim (λ h. omega (arith, small.few_splitters, h)) (λ h. omega (arith, edges.few, h)))) why)
    net_answers NoEnds after next wired why = body_answers NoEnds (record { behind = behind; bytes = codes "end"; after = after; goes_on = goes_on (codes "end") after next; refused = (refl, wired, why.1) })
    net_answers Memory after next wired why = absurd why

    -- by the priorities that were read splitters prefer edges of their own
    pub end_prioritised : IsPrioritised became
    end_prioritised =
        let small = HasSmallSizes-same m w sizes start.small in
        becomes_prioritised may w w became (length w.edges + 2) a items.after_priorities items.priorities_end.priorities (record { inputs = refl; outputs = refl; splitters = refl; edges = refl }) (plain_is_prioritised w small.plain) items.priorities_end.starts items.priorities_end.becomes

    -- and so they do without those by which they may prefer any
    pub end_less : IsPrioritised (preferring w preferred.gives.items preferred.takes.items)
    end_less = less_prioritised w preferred (HasSmallSizes-same m w sizes start.small).plain end_prioritised

    -- where the text ends
    pub end_within : (after : List ℕ) → IsFirstLine c (codes "end") after → (length after ≤ length text) × (drop (length text - length after) text ≡ after)
    end_within after next = let parts = all_parts may text first rest after m w behind is start sizes (goes_on (codes "end") after next) in (parts.1, parts.2)

    -- what stands at the front of the text
    pub stands : (after : List ℕ) → IsFirstLine c (codes "end") after → IsNetwork w → (used : ℕ) → used ≡ length text - length after
        → Answers Memory (IsNetRead may text) (Ok (record { net = became; demands = demands; blocks = blocks; used = used; lines = number }))
    stands after next net used is_used =
        let parts = all_parts may text first rest after m w behind is start sizes (goes_on (codes "end") after next) in
        let left : drop used text ≡ after = ap (λ k. drop k text) is_used ∙ parts.2 in
        let all = parts.0 used number in
        let B : List ℕ → Type 0 = λ r. BeginsWithAll may text (record { net = became; demands = demands; blocks = blocks; used = used; lines = number }) r in
        let here : (b : B (drop used text)) × (b.priorities ≡ behind.priorities) = subst (λ r. (b : B r) × (b.priorities ≡ behind.priorities)) (sym left) all in
        read_answers may text (Ok (record { net = became; demands = demands; blocks = blocks; used = used; lines = number })) (record {
          network = told_network w preferred net end_prioritised;
          begins = here.0;
          used = omega (arith, is_used);
          lines = omega (arith, number_next, ap length here.1);
        })
