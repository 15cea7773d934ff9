-- A network's text, line by line.
use Rattle.std.proofs.Common.{◌≡◌, ◌≢◌, ℕ, ◌<◌, ◌≤◌, Bool, false, replicate, cond, eq-eqb, List, [], ◌∷◌, ◌++◌, length, get_or, map, drop, refl, sym, ◌∙◌, ap, subst, inl, inr, ⊎_elim, arith, length-append}
use Rattle.std.specs.Prelude.{codes, decimal}
use Rattle.std.specs.List.{All, AllZip, count_by, flat_map}
use Rattle.std.proofs.lemmas.Bool.{cases_eq, ne_eqb}
use Rattle.std.proofs.lemmas.List.{append-nil, append_assoc, get_or_append_left, get_or_at}
use Rattle.std.proofs.lemmas.List.Elements.{All-nil, All-cons, All-head, All-tail, All-append}
use Rattle.std.proofs.lemmas.List.Sums.{sum_by-append}
use Rattle.bt_text.specs.Lines.{Lacks, SplitsAt, line, IsFirstLine}
use Rattle.bt_text.proofs.Lacking.{lacks}
use Rattle.bt_text.proofs.FirstLines.{BeginsWithLines-push}
use Rattle.bt_frac.proofs.Numerals.{decimal-lacks, decimal_apart}
use Rattle.bt_net.specs.declared.fault.NetFault.{NetFault}
use Rattle.bt_net.specs.declared.fault.NetFault.TheVariants.{NetLine, TooLarge, NoEnds, Memory}
use Rattle.bt_net.specs.declared.network.Edge.{Edge}
use Rattle.bt_net.specs.declared.network.Start.{Start}
use Rattle.bt_net.specs.declared.network.Start.TheVariants as from
use Rattle.bt_net.specs.declared.network.Target.{Target}
use Rattle.bt_net.specs.declared.network.Target.TheVariants as to
use Rattle.bt_net.specs.Network.{Network, IsCap, IsWired, StartsIn, EndsIn, is_input, is_output, leaves, enters, HasNoPriorities, none_each}
use Rattle.bt_net.specs.NetText.{start_text, target_text, ends_text, cap_text, header, IsEdgeLine, edge_text}
use Rattle.bt_net.specs.Refusals.{HeaderRefused, BeginsWithEdges}
use Rattle.bt_net.specs.Wiring.{IsPartlyWired, with_edge, HasSmallSizes}
use Rattle.bt_net.specs.inner.Lines.{StartFits, TargetFits, EdgeFits, IsTargetAndCap, SameSizes}
use Rattle.bt_net.proofs.Spelling.{start-lacks, target-lacks, start_lacks_space, target_lacks_space, edge_words, cut_words, cut_cap, uncut_cap, header_unique, IsHeader-header}

-- the line that is printed of an edge is its line
printed_line : (e : Edge) → IsEdgeLine (edge_text e) e
printed_line e = ⊎_elim
    (λ one. inr (rw (eq-eqb e.cap 1 one) (append-nil (ends_text e)), one))
    (λ other. inl (rw (ne_eqb e.cap 1 other) refl))
    (cases_eq e.cap 1)

pub printed_lines : (es : List Edge) → AllZip IsEdgeLine (map edge_text es) es
printed_lines [] = tt
printed_lines (e ∷ es) = (printed_line e, printed_lines es)

pub lines_of : (es : List Edge) → flat_map line (map edge_text es) ≡ flat_map (λ e. line (edge_text e)) es
lines_of [] = refl
lines_of (e ∷ es) = ap (λ x. line (edge_text e) ++ x) (lines_of es)

-- no line feed in an edge line
pub edge-lacks : (bytes : List ℕ) (e : Edge) → EdgeFits e → IsEdgeLine bytes e → Lacks 10 bytes
edge-lacks bytes e fits is =
    let start = start-lacks 10 e.start fits.0 (λ r. omega (arith, r.0)) (λ x. omega arith) (λ x. omega arith) in
    let target = target-lacks 10 e.target fits.1 (λ r. omega (arith, r.0)) (λ x. omega arith) (λ x. omega arith) in
    let cap : Lacks 10 (decimal e.cap) = decimal-lacks e.cap 10 (omega (arith, fits.2.1)) (λ r. omega (arith, r.0)) in
    let ends : Lacks 10 (ends_text e) =
    All-append (λ b. b ≢ 10) (codes "edge " ++ start_text e.start ++ codes " ") (target_text e.target)
    (All-append (λ b. b ≢ 10) (codes "edge " ++ start_text e.start) (codes " ")
    (All-append (λ b. b ≢ 10) (codes "edge ") (start_text e.start) (lacks 10 (codes "edge ") refl) start)
    (lacks 10 (codes " ") refl))
    target in
    ⊎_elim
    (λ whole. rw whole (All-append (λ b. b ≢ 10) (ends_text e) (cap_text e.cap) ends (All-append (λ b. b ≢ 10) (codes " ") (decimal e.cap) (lacks 10 (codes " ") refl) cap)))
    (λ short. rw short.0 ends)
    is

pub header-lacks : (n : Network) → HasSmallSizes n → Lacks 10 (header n)
header-lacks n small =
    let P : ℕ → Type 0 = λ b. b ≢ 10 in
    let i : Lacks 10 (decimal n.inputs) = decimal-lacks n.inputs 10 (omega (arith, small.few_inputs)) (λ r. omega (arith, r.0)) in
    let o : Lacks 10 (decimal n.outputs) = decimal-lacks n.outputs 10 (omega (arith, small.few_outputs)) (λ r. omega (arith, r.0)) in
    let s : Lacks 10 (decimal n.splitters) = decimal-lacks n.splitters 10 (omega (arith, small.few_splitters)) (λ r. omega (arith, r.0)) in
    All-append P (codes "net " ++ decimal n.inputs ++ codes " " ++ decimal n.outputs ++ codes " ") (decimal n.splitters)
    (All-append P (codes "net " ++ decimal n.inputs ++ codes " " ++ decimal n.outputs) (codes " ")
    (All-append P (codes "net " ++ decimal n.inputs ++ codes " ") (decimal n.outputs)
    (All-append P (codes "net " ++ decimal n.inputs) (codes " ")
    (All-append P (codes "net ") (decimal n.inputs) (lacks 10 (codes "net ") refl) i)
    (lacks 10 (codes " ") refl))
    o)
    (lacks 10 (codes " ") refl))
    s

-- the ends that a small network has are small
start_fits : (n : Network) (s : Start) → HasSmallSizes n → StartsIn n s → StartFits s
start_fits n (from.Input i) small inside = omega (arith, small.few_inputs, inside)
start_fits n (from.Split i) small inside = omega (arith, small.few_splitters, inside)

target_fits : (n : Network) (t : Target) → HasSmallSizes n → EndsIn n t → TargetFits t
target_fits n (to.Split i) small inside = omega (arith, small.few_splitters, inside)
target_fits n (to.Output i) small inside = omega (arith, small.few_outputs, inside)

pub edges_fit : (n : Network) → HasSmallSizes n → IsPartlyWired n → All EdgeFits n.edges
edges_fit n small wired k d inside =
    (start_fits n (get_or n.edges k d).start small (wired.starts k d inside), target_fits n (get_or n.edges k d).target small (wired.targets k d inside), wired.caps k d inside)

pub edges-lack : (lines : List (List ℕ)) (es : List Edge) → All EdgeFits es → AllZip IsEdgeLine lines es → All (Lacks 10) lines
edges-lack [] [] fits are = All-nil (Lacks 10)
edges-lack [] (e ∷ es) fits are = absurd are
edges-lack (l ∷ ls) [] fits are = absurd are
edges-lack (l ∷ ls) (e ∷ es) fits are = All-cons (Lacks 10) l ls (edge-lacks l e (All-head EdgeFits e es fits) are.0) (edges-lack ls es (All-tail EdgeFits e es fits) are.1)

-- an edge line is no line `end`
pub edge-ne_end : (e : Edge) → IsEdgeLine (codes "end") e → ⊥
edge-ne_end e is = let words = edge_words (codes "end") e is in omega (arith, ap (λ l. get_or l 1 0) words.1)

-- an edge line has bytes
pub edge-some : (bytes : List ℕ) (e : Edge) → IsEdgeLine bytes e → 0 < length bytes
edge-some bytes e is = let words = edge_words bytes e is in omega (arith, length-append (codes "edge ") (start_text e.start ++ 32 ∷ words.0), ap length words.1)

start_apart : (s t : Start) → StartFits s → StartFits t → start_text s ≡ start_text t → s ≡ t
start_apart (from.Input i) (from.Input j) p q e = ap from.Input (decimal_apart i j (omega arith) (omega arith) (ap (drop 1) e))
start_apart (from.Input i) (from.Split j) p q e = absurd (omega (arith, ap (λ l. get_or l 0 0) e))
start_apart (from.Split i) (from.Input j) p q e = absurd (omega (arith, ap (λ l. get_or l 0 0) e))
start_apart (from.Split i) (from.Split j) p q e = ap from.Split (decimal_apart i j (omega arith) (omega arith) (ap (drop 1) e))

target_apart : (s t : Target) → TargetFits s → TargetFits t → target_text s ≡ target_text t → s ≡ t
target_apart (to.Output i) (to.Output j) p q e = ap to.Output (decimal_apart i j (omega arith) (omega arith) (ap (drop 1) e))
target_apart (to.Output i) (to.Split j) p q e = absurd (omega (arith, ap (λ l. get_or l 0 0) e))
target_apart (to.Split i) (to.Output j) p q e = absurd (omega (arith, ap (λ l. get_or l 0 0) e))
target_apart (to.Split i) (to.Split j) p q e = ap to.Split (decimal_apart i j (omega arith) (omega arith) (ap (drop 1) e))

-- words are those of one target and one cap
target_cap_apart : (words : List ℕ) (s t : Target) (c d : ℕ) → TargetFits s → TargetFits t → IsCap c → IsCap d → IsTargetAndCap words s c → IsTargetAndCap words t d → (s ≡ t) × (c ≡ d)
target_cap_apart words s t c d p q small smaller (inl is) other =
    let splits : SplitsAt 32 words (target_text s) (decimal c) = record { first = target_lacks_space s p; text_is = is } in
    let same = cut_cap words (target_text s) (decimal c) t d q splits other in
    (target_apart s t p q same.0, decimal_apart c d (omega (arith, small.1)) (omega (arith, smaller.1)) same.1)
target_cap_apart words s t c d p q small smaller (inr is) other =
    let same = uncut_cap words t d q (rw (← is.0) at (target_lacks_space s p)) other in
    (target_apart s t p q (sym is.0 ∙ same.0), is.1 ∙ sym same.1)

-- an edge line is the line of one edge
edge_apart : (bytes : List ℕ) (e f : Edge) → EdgeFits e → EdgeFits f → IsEdgeLine bytes e → IsEdgeLine bytes f → e ≡ f
edge_apart bytes e f p q is other =
    let words = edge_words bytes e is in
    let split : SplitsAt 32 (start_text e.start ++ 32 ∷ words.0) (start_text e.start) words.0 = record { first = start_lacks_space e.start p.0; text_is = refl } in
    let same = cut_words bytes (start_text e.start ++ 32 ∷ words.0) (start_text e.start) words.0 f q words.1 split other in
    let start = start_apart e.start f.start p.0 q.0 same.0 in
    let rest = target_cap_apart words.0 e.target f.target e.cap f.cap p.1 q.1 p.2 q.2 words.2 same.1 in
    let target = rest.0 in
    let cap = rest.1 in
    λ i. record { start = start i; target = target i; cap = cap i }

-- edges, and lines of them
pub record AreLines (lines : List (List ℕ)) (es : List Edge) : Type 0 where
  pub fit : All EdgeFits es
  pub are_edges : AllZip IsEdgeLine lines es

AreLines-head : (l : List ℕ) (ls : List (List ℕ)) (e : Edge) (es : List Edge) → AreLines (l ∷ ls) (e ∷ es) → EdgeFits e × IsEdgeLine l e
AreLines-head l ls e es r = (All-head EdgeFits e es r.fit, r.are_edges.0)

AreLines-tail : (l : List ℕ) (ls : List (List ℕ)) (e : Edge) (es : List Edge) → AreLines (l ∷ ls) (e ∷ es) → AreLines ls es
AreLines-tail l ls e es r = record { fit = All-tail EdgeFits e es r.fit; are_edges = r.are_edges.1 }

-- what lines of some edges begin: these edges, and then others
pub record GoesOver (es fs : List Edge) (more tail : List (List ℕ)) : Type 0 where
  pub edges : List Edge
  pub lines : List (List ℕ)
  pub are_edges : AllZip IsEdgeLine lines edges
  pub all : fs ≡ es ++ edges
  pub more_is : more ≡ lines ++ tail

-- edge lines, and lines that begin with none, that begin with the lines of some edges: these come first, and the others
-- follow
pub go_over : (tail : List (List ℕ)) → ((bytes : List ℕ) (rest : List (List ℕ)) (e : Edge) → tail ≡ bytes ∷ rest → IsEdgeLine bytes e → ⊥)
    → (ks : List (List ℕ)) (es : List Edge) (ls : List (List ℕ)) (fs : List Edge) (more : List (List ℕ)) → AreLines ks es → AreLines ls fs → ls ++ tail ≡ ks ++ more → GoesOver es fs more tail
go_over tail none [] [] ls fs more p q is = record { edges = fs; lines = ls; are_edges = q.are_edges; all = refl; more_is = sym is }
go_over tail none [] (e ∷ es) ls fs more p q is = absurd p.are_edges
go_over tail none (k ∷ ks) [] ls fs more p q is = absurd p.are_edges
go_over tail none (k ∷ ks) (e ∷ es) [] [] more p q is = absurd (none k (ks ++ more) e is p.are_edges.0)
go_over tail none (k ∷ ks) (e ∷ es) [] (f ∷ fs) more p q is = absurd q.are_edges
go_over tail none (k ∷ ks) (e ∷ es) (l ∷ ls) [] more p q is = absurd q.are_edges
go_over tail none (k ∷ ks) (e ∷ es) (l ∷ ls) (f ∷ fs) more p q is =
    let a = AreLines-head k ks e es p in
    let b = AreLines-head l ls f fs q in
    let line_same : l ≡ k = cc in
    let same = edge_apart k f e b.0 a.0 (subst (λ bytes. IsEdgeLine bytes f) line_same b.1) a.1 in
    let rest = go_over tail none ks es ls fs more (AreLines-tail k ks e es p) (AreLines-tail l ls f fs q) (cc) in
    let rest_all = rest.all in
    record { edges = rest.edges; lines = rest.lines; are_edges = rest.are_edges; all = λ i. same i ∷ rest_all i; more_is = rest.more_is }

count_front : (p : Edge → Bool) (es gs : List Edge) (m : ℕ) → count_by p (es ++ gs) ≤ m → count_by p es ≤ m
count_front p es gs m most = omega (arith, sum_by-append (λ x. cond (p x) 1 0) es gs)

All-front : (P : Edge → Type 0) (es gs : List Edge) → All P (es ++ gs) → All P es
All-front P es gs all k d inside = subst P (get_or_append_left es gs d k inside) (all k d (omega (arith, length-append es gs)))

-- a wired network is partly wired
pub partly_of_wired : (n : Network) → IsWired n → IsPartlyWired n
partly_of_wired n wired = record {
  starts = wired.starts;
  targets = wired.targets;
  caps = wired.caps;
  one_in = λ i inside. omega (arith, wired.one_in i inside);
  one_out = λ o inside. omega (arith, wired.one_out o inside);
  few_in = wired.few_in;
  few_out = wired.few_out;
}

-- the first of the edges that may stand may stand
partly_front : (n : Network) (es gs : List Edge) → IsPartlyWired n → n.edges ≡ es ++ gs → IsPartlyWired (record n { edges = es })
partly_front n es gs wired is = record {
  starts = All-front (λ e. StartsIn n e.start) es gs (subst (All (λ e. StartsIn n e.start)) is wired.starts);
  targets = All-front (λ e. EndsIn n e.target) es gs (subst (All (λ e. EndsIn n e.target)) is wired.targets);
  caps = All-front (λ e. IsCap e.cap) es gs (subst (All (λ e. IsCap e.cap)) is wired.caps);
  one_in = λ i inside. count_front (is_input i) es gs 1 (subst (λ xs. count_by (is_input i) xs ≤ 1) is (wired.one_in i inside));
  one_out = λ o inside. count_front (is_output o) es gs 1 (subst (λ xs. count_by (is_output o) xs ≤ 1) is (wired.one_out o inside));
  few_in = λ s inside. count_front (enters s) es gs 2 (subst (λ xs. count_by (enters s) xs ≤ 2) is (wired.few_in s inside));
  few_out = λ s inside. count_front (leaves s) es gs 2 (subst (λ xs. count_by (leaves s) xs ≤ 2) is (wired.few_out s inside));
}

-- sizes that are the same are so in both directions
pub back : (m n : Network) → SameSizes m n → SameSizes n m
back m n s = record { inputs = sym s.inputs; outputs = sym s.outputs; splitters = sym s.splitters; gives = sym s.gives; takes = sym s.takes; merges = sym s.merges }

-- where one network has no priorities, nor has one of the same sizes
plain_same : (m n : Network) → SameSizes m n → HasNoPriorities m → HasNoPriorities n
plain_same m n s plain = record { gives = sym s.gives ∙ plain.gives ∙ ap none_each s.splitters; takes = sym s.takes ∙ plain.takes ∙ ap none_each s.splitters; merges = sym s.merges ∙ plain.merges ∙ ap (λ k. replicate k false) s.splitters }

-- networks with the same numbers and edges
pub same_network : (m n : Network) → SameSizes m n → m.edges ≡ n.edges → m ≡ n
same_network m n s e = let a = s.inputs in let b = s.outputs in let c = s.splitters in let g = s.gives in let t = s.takes in let u = s.merges in
    λ i. record { inputs = a i; outputs = b i; splitters = c i; edges = e i; gives = g i; takes = t i; merges = u i }

-- two networks with one header have the same sizes
pub SameSizes-header : (m n : Network) → HasSmallSizes m → HasSmallSizes n → header m ≡ header n → SameSizes m n
SameSizes-header m n p q e =
    let h = header_unique (header n) m.inputs m.outputs m.splitters n.inputs n.outputs n.splitters (rw e at (IsHeader-header m p)) (IsHeader-header n q) in
    let none : none_each m.splitters ≡ none_each n.splitters = ap none_each h.2 in
    record { inputs = h.0; outputs = h.1; splitters = h.2; gives = p.plain.gives ∙ none ∙ sym q.plain.gives; takes = p.plain.takes ∙ none ∙ sym q.plain.takes; merges = p.plain.merges ∙ ap (λ k. replicate k false) h.2 ∙ sym q.plain.merges }

-- the header of a small network is not refused
pub header_stands : (first : List ℕ) (n : Network) (fault : NetFault) → HasSmallSizes n → first ≡ header n → HeaderRefused first fault → ⊥
header_stands first n (NetLine k) small is refused = refused.1 n.inputs n.outputs n.splitters (rw is (IsHeader-header n small))
header_stands first n TooLarge small is refused =
    let same = header_unique first refused.0 refused.1 refused.2 n.inputs n.outputs n.splitters refused.3 (rw is (IsHeader-header n small)) in
    ⊎_elim (λ large. omega (arith, same.0, small.few_inputs)) (⊎_elim (λ large. omega (arith, same.1, small.few_outputs)) (λ large. omega (arith, same.2, small.few_splitters))) refused.4
header_stands first n NoEnds small is refused = refused
header_stands first n Memory small is refused = refused

pub All-at : (es : List Edge) (g : Edge) (gs : List Edge) → All EdgeFits (es ++ g ∷ gs) → EdgeFits g
All-at es g gs all = subst EdgeFits (get_or_at es g gs g (length es) refl) (all (length es) g (omega (arith, length-append es (g ∷ gs))))

pub one_more : (w n : Network) (g : Edge) (gs : List Edge) → SameSizes w n → IsPartlyWired n → n.edges ≡ w.edges ++ g ∷ gs → IsPartlyWired (with_edge w g)
one_more w n g gs sizes wired is =
    let part = partly_front n (w.edges ++ g ∷ []) gs wired (is ∙ sym (append_assoc w.edges (g ∷ []) gs)) in
    let same : SameSizes (with_edge w g) (record n { edges = w.edges ++ g ∷ [] }) = record { inputs = sizes.inputs; outputs = sizes.outputs; splitters = sizes.splitters; gives = sizes.gives; takes = sizes.takes; merges = sizes.merges } in
    rw (same_network (with_edge w g) (record n { edges = w.edges ++ g ∷ [] }) same refl) part

-- the edge that comes last has small numbers and a cap
last_fits : (w : Network) (e : Edge) → HasSmallSizes w → IsPartlyWired (with_edge w e) → EdgeFits e
last_fits w e small new = All-at w.edges e [] (edges_fit (with_edge w e) (record {
  plain = record { gives = small.plain.gives; takes = small.plain.takes; merges = small.plain.merges };
  few_inputs = small.few_inputs;
  few_outputs = small.few_outputs;
  few_splitters = small.few_splitters;
}) new)

-- an edge line is the line of no other edge
pub last_same : (w : Network) (bytes : List ℕ) (e f : Edge) → HasSmallSizes w → IsPartlyWired (with_edge w e) → EdgeFits f → IsEdgeLine bytes f → IsEdgeLine bytes e → IsPartlyWired (with_edge w f)
last_same w bytes e f small new fits is other =
    let same = edge_apart bytes e f (last_fits w e small new) fits other is in
    subst (λ x. IsPartlyWired (with_edge w x)) same new

-- networks of the same sizes have one header
pub header-same : (m n : Network) → SameSizes m n → header m ≡ header n
header-same m n s = let a = s.inputs in let b = s.outputs in let c = s.splitters in λ i. codes "net " ++ decimal (a i) ++ codes " " ++ decimal (b i) ++ codes " " ++ decimal (c i)

pub HasSmallSizes-same : (m n : Network) → SameSizes m n → HasSmallSizes m → HasSmallSizes n
HasSmallSizes-same m n s h = record { plain = plain_same m n s h.plain; few_inputs = omega (arith, s.inputs, h.few_inputs); few_outputs = omega (arith, s.outputs, h.few_outputs); few_splitters = omega (arith, s.splitters, h.few_splitters) }

-- one more edge line
lines_push : (ls : List (List ℕ)) (es : List Edge) (l : List ℕ) (e : Edge) → AllZip IsEdgeLine ls es → IsEdgeLine l e → AllZip IsEdgeLine (ls ++ l ∷ []) (es ++ e ∷ [])
lines_push [] [] l e are is = (is, tt)
lines_push [] (f ∷ es) l e are is = absurd are
lines_push (k ∷ ks) [] l e are is = absurd are
lines_push (k ∷ ks) (f ∷ es) l e are is = (are.0, lines_push ks es l e are.1 is)

pub edges_push : (text rest bytes after : List ℕ) (es : List Edge) (e : Edge) → BeginsWithEdges text es rest → IsFirstLine rest bytes after → IsEdgeLine bytes e → BeginsWithEdges text (es ++ e ∷ []) after
edges_push text rest bytes after es e begins next is = record {
  lines = begins.lines ++ bytes ∷ [];
  are_edges = lines_push begins.lines es bytes e begins.are_edges is;
  begins = BeginsWithLines-push text rest bytes after begins.lines begins.begins next (edge-some bytes e is);
}

-- a text of which no line was read yet
pub edges_none : (text : List ℕ) → BeginsWithEdges text [] text
edges_none text = record { lines = []; are_edges = tt; begins = inl refl }
