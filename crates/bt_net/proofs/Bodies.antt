-- What stands behind the header of a network's text: edges, priorities, pins, sides, rows and blocks in one way, and
-- then one line.
use Rattle.std.proofs.Common.{◌≡◌, ℕ, ◌+◌, ◌<◌, ◌≤◌, ◌⊎◌, List, [], length, get_or, refl, sym, ◌∙◌, ap, subst, inl, inr, ⊎_elim, arith}
use Rattle.std.specs.Prelude.{codes}
use Rattle.bt_text.specs.Lines.{IsFirstLine}
use Rattle.bt_text.proofs.FirstLines.{fork, first_line_of, IsFirstLine-unique}
use Rattle.bt_net.specs.declared.fault.NetFault.{NetFault}
use Rattle.bt_net.specs.declared.fault.NetFault.TheVariants.{NetLine, TooLarge, NoEnds, Memory}
use Rattle.bt_net.specs.declared.network.Admitted.{Admitted}
use Rattle.bt_net.specs.declared.network.Block.{Block}
use Rattle.bt_net.specs.declared.network.Edge.{Edge}
use Rattle.bt_net.specs.declared.network.Demand.{Demand}
use Rattle.bt_net.specs.declared.network.Priority.{Priority}
use Rattle.bt_net.specs.declared.network.TheConstants.{MOST_OF_EACH}
use Rattle.bt_net.specs.Network.{Network, IsWired}
use Rattle.bt_net.specs.NetText.{IsEdgeLine}
use Rattle.bt_net.specs.PinText.{IsDemandHere, IsBlockHere}
use Rattle.bt_net.specs.Refusals.{GoesOn}
use Rattle.bt_net.specs.PinRefusals.{Behind, next_line, LineRefusedAfter, BeginsWithItems, GoesOnAfter, BodyRefused}
use Rattle.bt_net.specs.Priorities.{IsPriorityHere, IsFreeFor}
use Rattle.bt_net.specs.Wiring.{IsPartlyWired, with_edge, HasSmallSizes}
use Rattle.bt_net.specs.inner.Lines.{SameSizes}
use Rattle.bt_net.proofs.NetLines.{back, edges_fit, edges-lack, edge-ne_end}
use Rattle.bt_net.proofs.Refusing.{behind}
use Rattle.bt_net.proofs.PinSpelling.{edge_first}
use Rattle.bt_net.proofs.PrioritySpelling.{here_apart, here-lacks, here-some, other_here, letter_here}
use Rattle.bt_net.proofs.Preferring.{NoneFollows, same_priorities}
use Rattle.bt_net.proofs.Refusing.{line_same}
use Rattle.bt_net.proofs.SideSpelling.{demand_here_apart, block_here_apart, demand_here_first, demand_here_low, block_here_first, demand_here-some, block_here-some, demand_here-lacks, block_here-lacks}
use Rattle.bt_net.proofs.ItemLines.{NoMore, items_same, items_first}

-- the line is that of no edge that may come next
abbrev NoNext : Network → List ℕ → Type 0
NoNext n bytes = (g : Edge) → IsEdgeLine bytes g → IsPartlyWired (with_edge n g) → length n.edges < MOST_OF_EACH → ⊥

-- behind one header, edges up to a line that is that of no next one are the same edges, and the same follows
one_edges : (n m : Network) (text b a c d : List ℕ) (p : GoesOn n text b a) (q : GoesOn m text c d) → HasSmallSizes n → HasSmallSizes m → SameSizes n m → SameSizes m n
    → NoNext n b → NoNext m c → (n ≡ m) × (p.rest ≡ q.rest)
one_edges n m text b a c d p q small smaller sizes back none non = ⊎_elim
    (λ h. ⊎_elim (λ same. same) (λ next. absurd (none next.0 next.1 next.2 next.3))
    (behind n m text b a q.rest p small smaller sizes q.wired q.few q.edges.lines h.0 q.edges.are_edges h.1 h.2))
    (λ h. ⊎_elim (λ same. (sym same.0, sym same.1)) (λ next. absurd (non next.0 next.1 next.2 next.3))
    (behind m n text c d p.rest q smaller small back p.wired p.few p.edges.lines h.0 p.edges.are_edges h.1 h.2))
    (fork p.edges.lines q.edges.lines text p.rest q.rest (edges-lack p.edges.lines n.edges (edges_fit n small p.wired) p.edges.are_edges) (edges-lack q.edges.lines m.edges (edges_fit m smaller q.wired) q.edges.are_edges) p.edges.begins q.edges.begins)

-- the line, with this number, is that of no edge, priority, pin, side, row or block that may come next
pub record Stops (may : Admitted) (n : Network) (behind : Behind) (number : ℕ) (bytes : List ℕ) : Type 0 where
  pub no_edge : behind.priorities ≡ [] → behind.demands ≡ [] → behind.blocks ≡ [] → NoNext n bytes
  pub no_priority : behind.demands ≡ [] → behind.blocks ≡ [] → (p : Priority) → IsPriorityHere may n 0 bytes p → IsFreeFor behind.preferring p → ⊥
  pub no_demand : behind.blocks ≡ [] → (demand : Demand) → IsDemandHere may n number bytes demand → ⊥
  pub no_block : (block : Block) → IsBlockHere may number bytes block → ⊥

-- by their first bytes
demand_no_edge : (may : Admitted) (n : Network) (number : ℕ) (bytes : List ℕ) (demand : Demand) (e : Edge) → IsDemandHere may n number bytes demand → IsEdgeLine bytes e → ⊥
demand_no_edge may n number bytes demand e is edge = omega (arith, demand_here_first may n number bytes demand is, edge_first bytes e edge)

block_no_edge : (may : Admitted) (number : ℕ) (bytes : List ℕ) (block : Block) (e : Edge) → IsBlockHere may number bytes block → IsEdgeLine bytes e → ⊥
block_no_edge may number bytes block e is edge = omega (arith, block_here_first may number bytes block is, edge_first bytes e edge)

block_no_demand : (may : Admitted) (n : Network) (k number : ℕ) (bytes : List ℕ) (block : Block) (demand : Demand) → IsBlockHere may k bytes block → IsDemandHere may n number bytes demand → ⊥
block_no_demand may n k number bytes block demand is other = omega (arith, block_here_first may k bytes block is, demand_here_first may n number bytes demand other)

priority_no_edge : (may : Admitted) (n : Network) (number : ℕ) (bytes : List ℕ) (p : Priority) (e : Edge) → IsPriorityHere may n number bytes p → IsEdgeLine bytes e → ⊥
priority_no_edge may n number bytes p e is edge = other_here may n number bytes p 101 is (edge_first bytes e edge) (omega arith)

priority_no_demand : (may : Admitted) (n : Network) (k number : ℕ) (bytes : List ℕ) (p : Priority) (demand : Demand) → IsPriorityHere may n k bytes p → IsDemandHere may n number bytes demand → ⊥
priority_no_demand may n k number bytes p demand is other =
    letter_here may n k bytes p is (omega (arith, demand_here_first may n number bytes demand other)) (demand_here_low may n number bytes demand other)

priority_no_block : (may : Admitted) (n : Network) (k number : ℕ) (bytes : List ℕ) (p : Priority) (block : Block) → IsPriorityHere may n k bytes p → IsBlockHere may number bytes block → ⊥
priority_no_block may n k number bytes p block is other = other_here may n k bytes p 98 is (block_here_first may number bytes block other) (omega arith)

pub end_stops : (may : Admitted) (n : Network) (behind : Behind) (number : ℕ) (bytes : List ℕ) → bytes ≡ codes "end" → Stops may n behind number bytes
end_stops may n behind number bytes is = record {
  no_edge = λ none no_demands no_blocks g edge. absurd (edge-ne_end g (subst (λ l. IsEdgeLine l g) is edge));
  no_priority = λ none no_blocks p line free. other_here may n 0 bytes p 101 line (ap (λ l. get_or l 0 0) is) (omega arith);
  no_demand = λ none demand line. omega (arith, demand_here_first may n number bytes demand line, ap (λ l. get_or l 0 0) is);
  no_block = λ block line. omega (arith, block_here_first may number bytes block line, ap (λ l. get_or l 0 0) is);
}

refused_stops : (may : Admitted) (n : Network) (behind : Behind) (number : ℕ) (bytes : List ℕ) (fault : NetFault) → LineRefusedAfter may n behind number bytes fault → Stops may n behind number bytes
refused_stops may n behind number bytes (NetLine k) refused = record {
  no_edge = λ none no_demands no_blocks g edge wired few. refused.0.no_edge none no_demands no_blocks g edge wired;
  no_priority = refused.0.no_priority;
  no_demand = refused.0.no_demand;
  no_block = refused.0.no_block;
}
refused_stops may n behind number bytes TooLarge refused = record {
  no_edge = λ none no_demands no_blocks g edge wired few. omega (arith, refused.3.3);
  no_priority = λ none no_blocks p line free. priority_no_edge may n 0 bytes p refused.3.0 line refused.3.1;
  no_demand = λ none demand line. demand_no_edge may n number bytes demand refused.3.0 line refused.3.1;
  no_block = λ block line. block_no_edge may number bytes block refused.3.0 line refused.3.1;
}
refused_stops may n behind number bytes NoEnds refused = end_stops may n behind number bytes refused.0
refused_stops may n behind number bytes Memory refused = absurd refused

-- the body up to the line that stops it, in its four parts
module _ (may : Admitted) (n : Network) (behind : Behind) (text bytes after : List ℕ) (small : HasSmallSizes n) (on : GoesOnAfter may n behind text bytes after)
    (stops : Stops may n behind (next_line n behind) bytes) where
  -- edges come first
  abbrev pub edges_on : GoesOn n text (first_line_of on.after_edges).0 (first_line_of on.after_edges).1
  edges_on = record { wired = on.wired; few = on.few; rest = on.after_edges; edges = on.edges; next = (first_line_of on.after_edges).2 }

  -- where no line of blocks came, the line that stops is next
  no_blocks_next : (b a : List ℕ) → IsFirstLine on.after_demands b a → ((behind.blocks ≡ []) × (b ≡ bytes)) ⊎ ((block : Block) × IsBlockHere may (length n.edges + length behind.priorities + length behind.demands + 2) b block)
  no_blocks_next b a is = ⊎_elim
      (λ none. inl (none.0, (IsFirstLine-unique on.after_blocks b bytes a after (subst (λ t. IsFirstLine t b a) none.1 is) on.next).0))
      (λ block. inr block)
      (items_first (IsBlockHere may) (block_here_apart may) (block_here-some may) (block_here-lacks may) (length n.edges + length behind.priorities + length behind.demands + 2) on.after_demands on.after_blocks b a behind.blocks on.block_lines is)

  -- nor a line of pins, sides and rows
  no_demands_next : (b a : List ℕ) → IsFirstLine on.after_priorities b a → ((behind.demands ≡ []) × (behind.blocks ≡ []) × (b ≡ bytes))
      ⊎ (((block : Block) × IsBlockHere may (length n.edges + length behind.priorities + length behind.demands + 2) b block) ⊎ ((demand : Demand) × IsDemandHere may n (length n.edges + length behind.priorities + 2) b demand))
  no_demands_next b a is = ⊎_elim
      (λ none. ⊎_elim (λ rest. inl (none.0, rest.0, rest.1)) (λ block. inr (inl block)) (no_blocks_next b a (subst (λ t. IsFirstLine t b a) none.1 is)))
      (λ demand. inr (inr demand))
      (items_first (IsDemandHere may n) (demand_here_apart may n small) (demand_here-some may n) (demand_here-lacks may n small) (length n.edges + length behind.priorities + 2) on.after_priorities on.after_demands b a behind.demands on.demand_lines is)

  pub priorities_stop : NoneFollows may n small on.few behind.preferring on.after_priorities
  priorities_stop b a is p line free = ⊎_elim
      (λ none. stops.no_priority none.0 none.1 p (subst (λ l. IsPriorityHere may n 0 l p) none.2 line) free)
      (λ other. ⊎_elim (λ block. priority_no_block may n 0 _ b p block.0 line block.1) (λ demand. priority_no_demand may n 0 _ b p demand.0 line demand.1) other)
      (no_demands_next b a is)

  pub demands_stop : (b a : List ℕ) → IsFirstLine on.after_demands b a → (demand : Demand) → IsDemandHere may n (length n.edges + length behind.priorities + 2 + length behind.demands) b demand → ⊥
  demands_stop b a is demand line = ⊎_elim
      (λ none. stops.no_demand none.0 demand (subst (λ k. IsDemandHere may n k bytes demand) (omega (arith, ap length none.0)) (subst (λ l. IsDemandHere may n (length n.edges + length behind.priorities + 2 + length behind.demands) l demand) none.1 line)))
      (λ block. block_no_demand may n _ _ b block.0 demand block.1 line)
      (no_blocks_next b a is)

  pub edges_stop : (b a : List ℕ) → IsFirstLine on.after_edges b a → NoNext n b
  edges_stop b a is g edge wired few = ⊎_elim
      (λ none. ⊎_elim
      (λ rest. stops.no_edge none.0 rest.0 rest.1 g (subst (λ l. IsEdgeLine l g) rest.2 edge) wired few)
      (λ other. ⊎_elim (λ block. block_no_edge may _ b block.0 g block.1 edge) (λ demand. demand_no_edge may n _ b demand.0 g demand.1 edge) other)
      (no_demands_next b a (subst (λ t. IsFirstLine t b a) none.1 is)))
      (λ p. priority_no_edge may n (length n.edges + 2) b p.0 g p.1 edge)
      (items_first (IsPriorityHere may n) (here_apart may n small on.few) (here-some may n) (here-lacks may n small on.few) (length n.edges + 2) on.after_edges on.after_priorities b a behind.priorities on.priority_lines is)

  pub blocks_stop : (b a : List ℕ) → IsFirstLine on.after_blocks b a → (block : Block) → IsBlockHere may (length n.edges + length behind.priorities + length behind.demands + 2 + length behind.blocks) b block → ⊥
  blocks_stop b a is block line =
      stops.no_block block (subst (λ k. IsBlockHere may k bytes block) (omega arith) (subst (λ l. IsBlockHere may (length n.edges + length behind.priorities + length behind.demands + 2 + length behind.blocks) l block) (IsFirstLine-unique on.after_blocks b bytes a after is on.next).0 line))

-- behind one header, what stands up to a line that stops it is one
pub record SameBody (m n : Network) (p q : Behind) (b c a d : List ℕ) : Type 0 where
  pub net : m ≡ n
  pub behind : p ≡ q
  pub bytes : b ≡ c
  pub after : a ≡ d

-- of one network, where the same follows the edges
one_rest : (may : Admitted) (n : Network) (v w : Behind) (text b c a d : List ℕ) → (p : GoesOnAfter may n v text b a) → (q : GoesOnAfter may n w text c d) → HasSmallSizes n
    → Stops may n v (next_line n v) b → Stops may n w (next_line n w) c → p.after_edges ≡ q.after_edges → SameBody n n v w b c a d
one_rest may n v w text b c a d p q small x y same =
    let priorities = same_priorities may n small p.few (length n.edges + 2) n q.after_edges p.after_priorities q.after_priorities v.priorities w.priorities v.preferring w.preferring
    (subst (λ t. BeginsWithItems (IsPriorityHere may n) (length n.edges + 2) t v.priorities p.after_priorities) same p.priority_lines) q.priority_lines p.becomes q.becomes
    (priorities_stop may n v text b a small p x) (priorities_stop may n w text c d small q y) in
    let from : length n.edges + length v.priorities + 2 ≡ length n.edges + length w.priorities + 2 = ap (λ z. length n.edges + length z + 2) priorities.0 in
    let demands = items_same (IsDemandHere may n) (demand_here_apart may n small) (demand_here-some may n) (demand_here-lacks may n small) (length n.edges + length w.priorities + 2) q.after_priorities p.after_demands q.after_demands v.demands w.demands
    (subst (λ t. BeginsWithItems (IsDemandHere may n) (length n.edges + length w.priorities + 2) t v.demands p.after_demands) priorities.2
    (subst (λ k. BeginsWithItems (IsDemandHere may n) k p.after_priorities v.demands p.after_demands) from p.demand_lines)) q.demand_lines
    (subst (λ k. NoMore (IsDemandHere may n) (demand_here_apart may n small) (demand_here-some may n) (demand_here-lacks may n small) (k + length v.demands) p.after_demands) from (demands_stop may n v text b a small p x))
    (demands_stop may n w text c d small q y) in
    let start : length n.edges + length v.priorities + length v.demands + 2 ≡ length n.edges + length w.priorities + length w.demands + 2 = λ i. length n.edges + length (priorities.0 i) + length (demands.0 i) + 2 in
    let blocks = items_same (IsBlockHere may) (block_here_apart may) (block_here-some may) (block_here-lacks may) (length n.edges + length w.priorities + length w.demands + 2) q.after_demands p.after_blocks q.after_blocks v.blocks w.blocks
    (subst (λ t. BeginsWithItems (IsBlockHere may) (length n.edges + length w.priorities + length w.demands + 2) t v.blocks p.after_blocks) demands.1
    (subst (λ k. BeginsWithItems (IsBlockHere may) k p.after_demands v.blocks p.after_blocks) start p.block_lines)) q.block_lines
    (subst (λ k. NoMore (IsBlockHere may) (block_here_apart may) (block_here-some may) (block_here-lacks may) (k + length v.blocks) p.after_blocks) start (blocks_stop may n v text b a small p x))
    (blocks_stop may n w text c d small q y) in
    let line = IsFirstLine-unique q.after_blocks b c a d (subst (λ t. IsFirstLine t b a) blocks.1 p.next) q.next in
    record { net = refl; behind = λ i. record { priorities = priorities.0 i; preferring = priorities.1 i; demands = demands.0 i; blocks = blocks.0 i }; bytes = line.0; after = line.1 }

pub one_body : (may : Admitted) (m n : Network) (v w : Behind) (text b c a d : List ℕ) → HasSmallSizes m → HasSmallSizes n → SameSizes m n → SameSizes n m
    → GoesOnAfter may m v text b a → GoesOnAfter may n w text c d → Stops may m v (next_line m v) b → Stops may n w (next_line n w) c → SameBody m n v w b c a d
one_body may m n v w text b c a d small smaller sizes back p q x y =
    let f = first_line_of p.after_edges in
    let g = first_line_of q.after_edges in
    let edges = one_edges m n text f.0 f.1 g.0 g.1 (edges_on may m v text b a small p x) (edges_on may n w text c d smaller q y) small smaller sizes back
    (edges_stop may m v text b a small p x f.0 f.1 f.2) (edges_stop may n w text c d smaller q y g.0 g.1 g.2) in
    let P : Network → Type 0 = λ k. (p : GoesOnAfter may k v text b a) → HasSmallSizes k → Stops may k v (next_line k v) b → p.after_edges ≡ q.after_edges → SameBody k n v w b c a d in
    subst P (sym edges.0) (λ p small x same. one_rest may n v w text b c a d p q small x y same) p small x edges.1

-- a line is refused for one cause there
line_same_after : (may : Admitted) (n : Network) (behind : Behind) (number : ℕ) (bytes : List ℕ) (f g : NetFault)
    → LineRefusedAfter may n behind number bytes f → LineRefusedAfter may n behind number bytes g → f ≡ g
line_same_after may n behind number bytes (NetLine k) (NetLine j) p q = ap NetLine (p.1 ∙ sym q.1)
line_same_after may n behind number bytes (NetLine k) TooLarge p q = absurd (p.0.no_edge q.0 q.1 q.2 q.3.0 q.3.1 q.3.2)
line_same_after may n behind number bytes (NetLine k) NoEnds p q = absurd (p.0.no_end q.0 q.1)
line_same_after may n behind number bytes TooLarge (NetLine j) p q = absurd (q.0.no_edge p.0 p.1 p.2 p.3.0 p.3.1 p.3.2)
line_same_after may n behind number bytes TooLarge TooLarge p q = refl
line_same_after may n behind number bytes TooLarge NoEnds p q = line_same n bytes TooLarge NoEnds p.3 q
line_same_after may n behind number bytes NoEnds (NetLine j) p q = absurd (q.0.no_end p.0 p.1)
line_same_after may n behind number bytes NoEnds TooLarge p q = line_same n bytes NoEnds TooLarge p q.3
line_same_after may n behind number bytes NoEnds NoEnds p q = refl
line_same_after may n behind number bytes f Memory p q = absurd q
line_same_after may n behind number bytes Memory g p q = absurd p

-- behind one header a text is refused for one cause
pub body_same : (may : Admitted) (m n : Network) (text : List ℕ) (f g : NetFault) → HasSmallSizes m → HasSmallSizes n → SameSizes m n → BodyRefused may m text f → BodyRefused may n text g → f ≡ g
body_same may m n text f g small smaller sizes p q =
    let same = one_body may m n p.behind q.behind text p.bytes q.bytes p.after q.after small smaller sizes (back m n sizes) p.goes_on q.goes_on
    (refused_stops may m p.behind _ p.bytes f p.refused) (refused_stops may n q.behind _ q.bytes g q.refused) in
    let a = subst (λ k. LineRefusedAfter may k p.behind (next_line k p.behind) p.bytes f) same.net p.refused in
    let b = subst (λ v. LineRefusedAfter may n v (next_line n v) p.bytes f) same.behind a in
    let d = subst (λ l. LineRefusedAfter may n q.behind (next_line n q.behind) l f) same.bytes b in
    line_same_after may n q.behind _ q.bytes f g d q.refused

-- where a body stands up to `end`, it is not refused
pub body_stands : (may : Admitted) (m n : Network) (text rest : List ℕ) (behind : Behind) (f : NetFault) → HasSmallSizes m → HasSmallSizes n → IsWired n → 1 ≤ n.inputs → 1 ≤ n.outputs → SameSizes m n → BodyRefused may m text f
    → GoesOnAfter may n behind text (codes "end") rest → ⊥
body_stands may m n text rest behind f small smaller wired some_input some_output sizes p on =
    let same = one_body may m n p.behind behind text p.bytes (codes "end") p.after rest small smaller sizes (back m n sizes) p.goes_on on
    (refused_stops may m p.behind _ p.bytes f p.refused) (end_stops may n behind _ (codes "end") refl) in
    by f (subst (λ l. LineRefusedAfter may m p.behind (next_line m p.behind) l f) same.bytes p.refused) same.net
  where
    by : (f : NetFault) → LineRefusedAfter may m p.behind (next_line m p.behind) (codes "end") f → m ≡ n → ⊥
    by (NetLine k) h same = h.0.no_end refl (subst IsWired (sym same) wired)
    by TooLarge h same = edge-ne_end h.3.0 h.3.1
    by NoEnds h same = ⊎_elim (λ none. omega (arith, none, ap (λ k. k.inputs) same, some_input)) (λ none. omega (arith, none, ap (λ k. k.outputs) same, some_output)) h.2
    by Memory h same = h
