-- A text is refused for one cause, and never where a network's text stands.
use Rattle.std.proofs.Common.{◌≡◌, ℕ, ◌<◌, ◌≤◌, ◌⊎◌, List, [], ◌∷◌, ◌++◌, length, refl, sym, ◌∙◌, ap, subst, inl, inr, arith, length-append}
use Rattle.std.specs.List.{All, AllZip}
use Rattle.std.proofs.lemmas.List.{append-nil}
use Rattle.bt_text.specs.Lines.{BeginsWithLines}
use Rattle.bt_text.proofs.FirstLines.{BeginsWithLines-tail, BeginsWithLines-nil}
use Rattle.bt_net.specs.declared.fault.NetFault.{NetFault}
use Rattle.bt_net.specs.declared.fault.NetFault.TheVariants.{NetLine, TooLarge, NoEnds, Memory}
use Rattle.bt_net.specs.declared.network.Edge.{Edge}
use Rattle.bt_net.specs.Network.{Network}
use Rattle.bt_net.specs.NetText.{IsEdgeLine}
use Rattle.bt_net.specs.declared.network.TheConstants.{MOST_OF_EACH}
use Rattle.bt_net.specs.Refusals.{HeaderRefused, LineRefused, GoesOn}
use Rattle.bt_net.specs.Wiring.{IsPartlyWired, with_edge, HasSmallSizes}
use Rattle.bt_net.specs.inner.Lines.{EdgeFits, SameSizes}
use Rattle.bt_net.proofs.NetLines.{AreLines, GoesOver, edges_fit, go_over, edge-lacks, edge-ne_end, same_network, one_more, All-at}

nothing_no_edge : (bytes : List ℕ) (rest : List (List ℕ)) (e : Edge) → [] ≡ bytes ∷ rest → IsEdgeLine bytes e → ⊥
nothing_no_edge bytes rest e is edge = cc

-- edge lines that begin with the lines of some edges: these come first, and the others follow
go_edges : (ks : List (List ℕ)) (es : List Edge) (ls : List (List ℕ)) (fs : List Edge) (more : List (List ℕ)) → AreLines ks es → AreLines ls fs → ls ≡ ks ++ more → GoesOver es fs more []
go_edges ks es ls fs more p q is = go_over [] nothing_no_edge ks es ls fs more p q (append-nil ls ∙ is)

-- the line behind the edges of one network so far, where the edges of another begin with these: the networks are one,
-- or it is the line of the other's next edge
abbrev pub Behind : (n m : Network) (bytes rest s : List ℕ) → Type 0
Behind n m bytes rest s = ((n ≡ m) × (rest ≡ s)) ⊎ ((g : Edge) × IsEdgeLine bytes g × IsPartlyWired (with_edge n g) × (length n.edges < MOST_OF_EACH))

pub behind : (n m : Network) (text bytes after s : List ℕ) (on : GoesOn n text bytes after) → HasSmallSizes n → HasSmallSizes m → SameSizes n m → IsPartlyWired m → length m.edges ≤ MOST_OF_EACH
    → (ls more : List (List ℕ)) → AllZip IsEdgeLine ls m.edges → ls ≡ on.edges.lines ++ more → BeginsWithLines on.rest more s → Behind n m bytes on.rest s
behind n m text bytes after s on small smaller sizes wired few ls more are is begins =
    let p : AreLines on.edges.lines n.edges = record { fit = edges_fit n small on.wired; are_edges = on.edges.are_edges } in
    let q : AreLines ls m.edges = record { fit = edges_fit m smaller wired; are_edges = are } in
    let ahead = go_edges on.edges.lines n.edges ls m.edges more p q is in
    by ahead.lines ahead.edges ahead.are_edges ahead.all (subst (λ ks. BeginsWithLines on.rest ks s) (ahead.more_is ∙ append-nil ahead.lines) begins)
  where
    by : (ks : List (List ℕ)) (gs : List Edge) → AllZip IsEdgeLine ks gs → m.edges ≡ n.edges ++ gs → BeginsWithLines on.rest ks s → Behind n m bytes on.rest s
    by [] [] are same lines = inl (same_network n m sizes (sym (same ∙ append-nil n.edges)), BeginsWithLines-nil on.rest s lines)
    by [] (g ∷ gs) are same lines = absurd are
    by (k ∷ ks) [] are same lines = absurd are
    by (k ∷ ks) (g ∷ gs) are same lines =
        let fits : EdgeFits g = All-at n.edges g gs (subst (All EdgeFits) same (edges_fit m smaller wired)) in
        let head = BeginsWithLines-tail on.rest bytes after k ks s on.next (edge-lacks k g fits are.0) lines in
        inr (g, subst (λ l. IsEdgeLine l g) (sym head.0) are.0, one_more n m g gs sizes wired same, omega (arith, few, ap length same, length-append n.edges (g ∷ gs)))

-- a line is refused for one cause
pub line_same : (n : Network) (bytes : List ℕ) (f g : NetFault) → LineRefused n bytes f → LineRefused n bytes g → f ≡ g
line_same n bytes (NetLine k) (NetLine j) p q = ap NetLine (p.1 ∙ sym q.1)
line_same n bytes (NetLine k) TooLarge p q = absurd (p.0.no_edge q.0 q.1 q.2)
line_same n bytes (NetLine k) NoEnds p q = absurd (p.0.no_end q.0 q.1)
line_same n bytes TooLarge (NetLine j) p q = absurd (q.0.no_edge p.0 p.1 p.2)
line_same n bytes TooLarge TooLarge p q = refl
line_same n bytes TooLarge NoEnds p q = absurd (edge-ne_end p.0 (subst (λ l. IsEdgeLine l p.0) q.0 p.1))
line_same n bytes NoEnds (NetLine j) p q = absurd (q.0.no_end p.0 p.1)
line_same n bytes NoEnds TooLarge p q = absurd (edge-ne_end q.0 (subst (λ l. IsEdgeLine l q.0) p.0 q.1))
line_same n bytes NoEnds NoEnds p q = refl
line_same n bytes f Memory p q = absurd q
line_same n bytes Memory g p q = absurd p

-- a header is refused for one cause
pub header_same : (bytes : List ℕ) (f g : NetFault) → HeaderRefused bytes f → HeaderRefused bytes g → f ≡ g
header_same bytes (NetLine k) (NetLine j) p q = ap NetLine (p.0 ∙ sym q.0)
header_same bytes (NetLine k) TooLarge p q = absurd (p.1 q.0 q.1 q.2 q.3)
header_same bytes TooLarge (NetLine j) p q = absurd (q.1 p.0 p.1 p.2 p.3)
header_same bytes TooLarge TooLarge p q = refl
header_same bytes f NoEnds p q = absurd q
header_same bytes f Memory p q = absurd q
header_same bytes NoEnds g p q = absurd p
header_same bytes Memory g p q = absurd p
