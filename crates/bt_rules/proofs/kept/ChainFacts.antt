-- The chain of each edge, and the edge of each chain.
use Rattle.std.proofs.Common.{◌≡◌, ℕ, ◌<◌, List, length, refl, sym, ◌∙◌, ap, subst, inl, inr}
use Rattle.bt_parts.specs.declared.part.Cell.{Cell}
use Rattle.bt_parts.specs.declared.part.Part.{Part}
use Rattle.bt_parts.specs.Cells.{IsInside}
use Rattle.bt_parts.specs.Layouts.{IsAt}
use Rattle.bt_parts.proofs.Places.{one_there}
use Rattle.bt_net.specs.declared.network.Edge.{Edge}
use Rattle.bt_net.specs.declared.network.Start.{Start}
use Rattle.bt_net.specs.declared.network.Start.TheVariants as from
use Rattle.bt_net.specs.declared.network.Target.{Target}
use Rattle.bt_net.specs.declared.network.Target.TheVariants as to
use Rattle.bt_net.specs.Network.{is_input, StartsIn}
use Rattle.bt_model.specs.Chains.{IsOutput, Source, begins, leaves, Sink, ends, enters, Chain, EndsAs, IsChain}
use Rattle.bt_model.specs.Shown.{ListsEach}
use Rattle.bt_model.proofs.ChainLemmas.{chain_from}
use Rattle.bt_facts.specs.declared.fact.Class.{Class}
use Rattle.bt_facts.specs.declared.fact.Class.TheVariants.{Split, Shared, Input}
use Rattle.bt_facts.specs.declared.fact.Fact.TheVariants.{Carries}
use Rattle.bt_demands.specs.Classes.{class_of, input_classes}
use Rattle.bt_rules.specs.Kept.{IsKeptPart}
use Rattle.bt_facts.proofs.Keeping.{In}
use Rattle.bt_rules.proofs.kept.ListFacts.{element_at}
use Rattle.bt_rules.proofs.kept.NetFacts.{IsEdge, same_edge, edge_starts, input_by, class_suits, class_of_split, class_through, input_no_split, class_in, through_here, out_edge}
use Rattle.bt_rules.proofs.kept.Solved.{Solved, Says}
use Rattle.bt_rules.proofs.kept.CellFacts.{one_class}
use Rattle.bt_rules.proofs.kept.CarryFacts.{class_ends}
use Rattle.bt_rules.proofs.kept.Arrivals.{reached_inside}
use Rattle.bt_rules.proofs.kept.PartFacts.{standing, kept_part, own_at, well_placed}
use Rattle.bt_rules.proofs.kept.EndFacts.{output_faces}
use Rattle.bt_rules.proofs.kept.ClassFacts.{SourceHas, Classed, classed}
use Rattle.bt_rules.proofs.kept.MeetFacts.{ComesInto, LeavesBy, comes_one, leaves_one, leaves_class, class_leaves}
use Rattle.bt_rules.proofs.kept.IntoFacts.{in_half, in_rank, into_class, into_chain, into_once, ends_carry}
use Rattle.bt_rules.proofs.kept.WishFacts.{counted_one, comes_in}
use Rattle.bt_rules.proofs.kept.OutFacts.{out_half, out_chain, out_edge_of, out_wish, out_once}
use Rattle.bt_rules.proofs.kept.ThroughFacts.{through_there, through_one, begun_chain, enters_edge}

-- no two edges come from one input
pub one_input : (w : Solved) (d e : ℕ) (a b : Edge) (i : ℕ) → IsEdge w d a → IsEdge w e b → a.start ≡ from.Input i → b.start ≡ from.Input i → d ≡ e
one_input w d e a b i is_a is_b from_a from_b =
    let lt = subst (StartsIn w.r.net) from_a (edge_starts w d a is_a) in
    counted_one (is_input i) w.r.net.edges d e a b (w.is_request.net.wired.one_in i lt) is_a (input_by i a from_a) is_b (input_by i b from_b)

module _ (w : Solved) (parts : List Part) (lists : ListsEach (IsKeptPart w.r w.reading) parts) where
  -- the chain of an edge: it comes in where the edge is taken, or begins where its input does, or leaves by the half
  -- that is chosen for it
  pub data IsChainOf (e : ℕ) (c : Chain) : Type 0 where
    into : (edge : Edge) (t : ℕ) → IsEdge w e edge → edge.target ≡ to.Split t → IsChain parts c
        → ComesInto w parts lists c t (in_half w parts lists t (in_rank w parts lists t e)) → IsChainOf e c
    through : (edge : Edge) (i o k : ℕ) → IsEdge w e edge → edge.start ≡ from.Input i → edge.target ≡ to.Output o → IsChain parts c → c.sink ≡ ends k
        → (j : ℕ) (x : Cell) → c.source ≡ begins j x → Says w (Carries x (Input i)) → IsChainOf e c
    out : (edge : Edge) (s o k : ℕ) → IsEdge w e edge → edge.start ≡ from.Split s → edge.target ≡ to.Output o → IsChain parts c → c.sink ≡ ends k
        → LeavesBy w parts lists c s (out_half w parts lists s e) → IsChainOf e c

  pub chain_is : (e : ℕ) (c : Chain) → IsChainOf e c → IsChain parts c
  chain_is e c (into edge t is targets chain comes) = chain
  chain_is e c (through edge i o k is starts targets chain sink j x source carries) = chain
  chain_is e c (out edge s o k is starts targets chain sink leaving) = chain

  begun_has : (c : Chain) (j : ℕ) (x : Cell) → (cl : Classed w parts lists c) → c.source ≡ begins j x → SourceHas w parts lists cl.class (begins j x)
  begun_has c j x cl source = subst (SourceHas w parts lists cl.class) source cl.source

  begun_inside : (j : ℕ) (x : Cell) → IsAt parts j x → IsInside w.r.rect x
  begun_inside j x at = reached_inside w x (standing w parts lists j x at).reached

  -- a chain that begins with the class of an edge has it
  begun_class_is : (e : ℕ) (edge : Edge) (i o : ℕ) (c : Chain) (j : ℕ) (x : Cell) → IsEdge w e edge → edge.start ≡ from.Input i → edge.target ≡ to.Output o
      → (cl : Classed w parts lists c) → c.source ≡ begins j x → Says w (Carries x (Input i)) → cl.class ≡ class_of w.r.demands edge
  begun_class_is e edge i o c j x is starts targets cl source carries =
      let has = begun_has c j x cl source in
      let own = class_through w.r.demands edge i o starts targets in
      one_class w x (begun_inside j x has.1) cl.class (Input i) cl.listed (class_in w e edge is (Input i) own) has.3 carries ∙ sym own

  -- the class of the chain of an edge is the edge's
  pub chain_class : (e : ℕ) (edge : Edge) (c : Chain) → IsEdge w e edge → IsChainOf e c → (cl : Classed w parts lists c) → cl.class ≡ class_of w.r.demands edge
  chain_class e edge c at (into own t is targets chain comes) cl =
      into_class w parts lists e own t c is targets comes cl ∙ ap (class_of w.r.demands) (same_edge w e e own edge refl is at)
  chain_class e edge c at (through own i o k is starts targets chain sink j x source carries) cl =
      begun_class_is e own i o c j x is starts targets cl source carries ∙ ap (class_of w.r.demands) (same_edge w e e own edge refl is at)
  chain_class e edge c at (out own s o k is starts targets chain sink leaving) cl =
      leaves_class w parts lists c s (out_half w parts lists s e) leaving cl ∙ sym (class_of_split w.r.demands own s starts) ∙ ap (class_of w.r.demands) (same_edge w e e own edge refl is at)

  -- ---- each edge has its chain

  -- a chain of the class of an edge from an input has that edge where it enters a splitter
  no_entering : (e : ℕ) (edge : Edge) (i o k : ℕ) (c : Chain) → IsEdge w e edge → edge.start ≡ from.Input i → edge.target ≡ to.Output o → IsChain parts c
      → (cl : Classed w parts lists c) → cl.class ≡ Input i → c.sink ≡ enters k → ⊥
  no_entering e edge i o k c is starts targets chain cl class sink =
      let found = enters_edge w parts lists c k chain sink cl in
      let suits : found.1.start ≡ from.Input i = class_suits w.r.demands found.1 (Input i) (sym found.6 ∙ class) in
      let same = one_input w found.0 e found.1 edge i found.3 is suits starts in
      let edges : found.1 ≡ edge = same_edge w found.0 e found.1 edge same found.3 is in
      let clash : to.Split found.2 ≡ to.Output o = sym found.4 ∙ ap (λ z. z.target) edges ∙ targets in
      cc

  through_chain : (e : ℕ) (edge : Edge) (i o : ℕ) → IsEdge w e edge → edge.start ≡ from.Input i → edge.target ≡ to.Output o → (c : Chain) × IsChainOf e c
  through_chain e edge i o is starts targets =
      let lt = subst (StartsIn w.r.net) starts (edge_starts w e edge is) in
      let there = through_there w i lt (through_here w e edge is i o starts targets) in
      let chain = begun_chain w parts lists there.0 there.1 there.2 in
      let cl = classed w parts lists chain.0 chain.1 in
      let class : cl.class ≡ Input i = begun_class_is e edge i o chain.0 chain.2.0 there.0 is starts targets cl chain.2.1 there.3 ∙ class_through w.r.demands edge i o starts targets in
      by chain.0 chain.1 cl class chain.2.0 there.0 chain.2.1 there.3 chain.0.sink refl
    where
      by : (c : Chain) → IsChain parts c → (cl : Classed w parts lists c) → cl.class ≡ Input i → (j : ℕ) (x : Cell) → c.source ≡ begins j x → Says w (Carries x (Input i))
          → (sink : Sink) → c.sink ≡ sink → (d : Chain) × IsChainOf e d
      by c chain cl class j x source carries (ends k) sink = (c, through edge i o k is starts targets chain sink j x source carries)
      by c chain cl class j x source carries (enters k) sink = absurd (no_entering e edge i o k c is starts targets chain cl class sink)

  out_chain_there : (e : ℕ) (edge : Edge) (s o : ℕ) → IsEdge w e edge → edge.start ≡ from.Split s → edge.target ≡ to.Output o → (c : Chain) × IsChainOf e c
  out_chain_there e edge s o is starts targets =
      let chain = out_chain w parts lists e edge s is starts in
      by chain.0 chain.1 chain.2 chain.0.sink refl
    where
      by : (c : Chain) → IsChain parts c → LeavesBy w parts lists c s (out_half w parts lists s e) → (sink : Sink) → c.sink ≡ sink → (d : Chain) × IsChainOf e d
      by c chain leaving (ends k) sink = (c, out edge s o k is starts targets chain sink leaving)
      by c chain leaving (enters k) sink =
          let cl = classed w parts lists c chain in
          let found = enters_edge w parts lists c k chain sink cl in
          let suits : found.1.start ≡ from.Split s = class_suits w.r.demands found.1 (Split s) (sym found.6 ∙ leaves_class w parts lists c s (out_half w parts lists s e) leaving cl) in
          let other = out_wish w parts lists found.0 found.1 s c found.3 suits chain (comes_in found.2 found.4 found.5) in
          let same = out_once w parts lists found.0 e found.1 edge s s c found.3 is suits starts other leaving in
          let edges : found.1 ≡ edge = same_edge w found.0 e found.1 edge same found.3 is in
          absurd (let clash : to.Split found.2 ≡ to.Output o = sym found.4 ∙ ap (λ z. z.target) edges ∙ targets in cc)

  of_edge : (e : ℕ) (edge : Edge) → IsEdge w e edge → (start : Start) → edge.start ≡ start → (target : Target) → edge.target ≡ target → (c : Chain) × IsChainOf e c
  of_edge e edge is start starts (to.Split t) targets =
      let found = into_chain w parts lists e edge t is targets in (found.0, into edge t is targets found.1 found.2)
  of_edge e edge is (from.Input i) starts (to.Output o) targets = through_chain e edge i o is starts targets
  of_edge e edge is (from.Split s) starts (to.Output o) targets = out_chain_there e edge s o is starts targets

  pub chain_there : (e : ℕ) → e < length w.r.net.edges → (c : Chain) × IsChainOf e c
  chain_there e lt = let found = element_at w.r.net.edges e lt in of_edge e found.0 found.1 found.0.start refl found.0.target refl

  -- ---- each chain has its edge

  -- what ends has a class of which an edge ends at an output
  ends_edge : (c : Chain) (k : ℕ) → IsChain parts c → c.sink ≡ ends k → (cl : Classed w parts lists c)
      → (e : ℕ) × (edge : Edge) × IsEdge w e edge × (class_of w.r.demands edge ≡ cl.class) × ((o : ℕ) × (edge.target ≡ to.Output o))
  ends_edge c k chain sink cl =
      let output = by chain in
      let part = output.part in
      let faces = output_faces w parts lists k part output.is_i output in
      let own = own_at w parts lists k part output.is_i in
      let carries = ends_carry w parts lists c k part.cell chain sink own cl in
      out_edge w cl.class (class_ends w part.cell (reached_inside w part.cell (kept_part w parts lists k part output.is_i).reached) part.dir cl.class cl.listed
      faces.0 faces.1 faces.3 carries faces.2)
    where
      by : IsChain parts c → IsOutput parts k
      by (inl h) = (subst (λ z. EndsAs parts z h.last) sink h.ends).1
      by (inr h) = absurd (let clash = sym h.sink ∙ sink in cc)

  begun_edge : (c : Chain) (k j : ℕ) (x : Cell) → IsChain parts c → c.sink ≡ ends k → c.source ≡ begins j x → (cl : Classed w parts lists c)
      → (e : ℕ) (edge : Edge) → IsEdge w e edge → (class : Class) → cl.class ≡ class → class_of w.r.demands edge ≡ class → (o : ℕ) → edge.target ≡ to.Output o → IsChainOf e c
  begun_edge c k j x chain sink source cl e edge is (Split s) own same o targets =
      absurd (input_no_split w s (subst (λ z. In (input_classes w.r) z) own (begun_has c j x cl source).2))
  begun_edge c k j x chain sink source cl e edge is (Shared t way) own same o targets =
      let suits = class_suits w.r.demands edge (Shared t way) same in
      absurd (let clash = sym suits.1 ∙ targets in cc)
  begun_edge c k j x chain sink source cl e edge is (Input i) own same o targets =
      through edge i o k is (class_suits w.r.demands edge (Input i) same) targets chain sink j x source
      (subst (λ z. Says w (Carries x z)) own (begun_has c j x cl source).3)

  left_edge : (c : Chain) (k s : ℕ) → IsChain parts c → c.sink ≡ ends k → (cl : Classed w parts lists c) → cl.class ≡ Split s → (e : ℕ) × IsChainOf e c
  left_edge c k s chain sink cl class =
      let leaving = class_leaves w parts lists c s chain cl class in
      let found = out_edge_of w parts lists c s leaving.0 chain leaving.1 in
      by found.0 found.1 found.2 found.3 (subst (LeavesBy w parts lists c s) (sym found.4) leaving.1) found.1.target refl
    where
      by : (e : ℕ) (edge : Edge) → IsEdge w e edge → edge.start ≡ from.Split s → LeavesBy w parts lists c s (out_half w parts lists s e) → (target : Target) → edge.target ≡ target
          → (d : ℕ) × IsChainOf d c
      by e edge is starts leaving (to.Output o) targets = (e, out edge s o k is starts targets chain sink leaving)
      by e edge is starts leaving (to.Split t) targets =
          let settled = into_chain w parts lists e edge t is targets in
          let other = out_wish w parts lists e edge s settled.0 is starts settled.1 (comes_in t targets settled.2) in
          let same : settled.0 ≡ c = leaves_one w parts lists settled.0 c s (out_half w parts lists s e) settled.1 chain other leaving in
          absurd (let clash : enters settled.2.index ≡ ends k = sym settled.2.sink ∙ ap (λ z. z.sink) same ∙ sink in cc)

  ended_edge : (c : Chain) (k : ℕ) → IsChain parts c → c.sink ≡ ends k → (cl : Classed w parts lists c) → (source : Source) → c.source ≡ source → SourceHas w parts lists cl.class source
      → (e : ℕ) × IsChainOf e c
  ended_edge c k chain sink cl (begins j x) source has =
      let found = ends_edge c k chain sink cl in
      (found.0, begun_edge c k j x chain sink source cl found.0 found.1 found.2 cl.class refl found.3 found.4.0 found.4.1)
  ended_edge c k chain sink cl (leaves j x) source (m, n, class) = left_edge c k m chain sink cl class

  pub edge_there : (c : Chain) → IsChain parts c → (e : ℕ) × IsChainOf e c
  edge_there c chain = by c.sink refl (classed w parts lists c chain) where
    by : (sink : Sink) → c.sink ≡ sink → Classed w parts lists c → (e : ℕ) × IsChainOf e c
    by (enters k) sink cl = let found = enters_edge w parts lists c k chain sink cl in (found.0, into found.1 found.2 found.3 found.4 chain found.5)
    by (ends k) sink cl = ended_edge c k chain sink cl c.source refl cl.source

  -- ---- one chain of an edge

  split_output : (e : ℕ) (a b : Edge) (t o : ℕ) → IsEdge w e a → IsEdge w e b → a.target ≡ to.Split t → b.target ≡ to.Output o → ⊥
  split_output e a b t o is_a is_b to_t to_o =
      let edges : a ≡ b = same_edge w e e a b refl is_a is_b in
      let clash : to.Split t ≡ to.Output o = sym to_t ∙ ap (λ z. z.target) edges ∙ to_o in cc

  input_split : (e : ℕ) (a b : Edge) (i s : ℕ) → IsEdge w e a → IsEdge w e b → a.start ≡ from.Input i → b.start ≡ from.Split s → ⊥
  input_split e a b i s is_a is_b from_i from_s =
      let edges : a ≡ b = same_edge w e e a b refl is_a is_b in
      let clash : from.Input i ≡ from.Split s = sym from_i ∙ ap (λ z. z.start) edges ∙ from_s in cc

  pub one_chain : (e : ℕ) (c d : Chain) → IsChainOf e c → IsChainOf e d → c ≡ d
  one_chain e c d (into a t is_a to_t at_c x) (into b u is_b to_u at_d y) =
      let edges : a ≡ b = same_edge w e e a b refl is_a is_b in
      let targets : to.Split t ≡ to.Split u = sym to_t ∙ ap (λ z. z.target) edges ∙ to_u in
      let same : u ≡ t = cc in
      comes_one w parts lists c d t (in_half w parts lists t (in_rank w parts lists t e)) at_c at_d x
      (subst (λ z. ComesInto w parts lists d z (in_half w parts lists z (in_rank w parts lists z e))) same y)
  one_chain e c d (into a t is_a to_t at_c x) (through b i o k is_b from_i to_o at_d sink j y source carries) = absurd (split_output e a b t o is_a is_b to_t to_o)
  one_chain e c d (into a t is_a to_t at_c x) (out b s o k is_b from_s to_o at_d sink y) = absurd (split_output e a b t o is_a is_b to_t to_o)
  one_chain e c d (through b i o k is_b from_i to_o at_c sink j y source carries) (into a t is_a to_t at_d x) = absurd (split_output e a b t o is_a is_b to_t to_o)
  one_chain e c d (through a i o k is_a from_i to_o at_c c_sink j x c_source c_carries) (through b m p l is_b from_m to_p at_d d_sink n y d_source d_carries) =
      let edges : a ≡ b = same_edge w e e a b refl is_a is_b in
      let starts : from.Input i ≡ from.Input m = sym from_i ∙ ap (λ z. z.start) edges ∙ from_m in
      let inputs : m ≡ i = cc in
      let one = begun_has c j x (classed w parts lists c at_c) c_source in
      let other = begun_has d n y (classed w parts lists d at_d) d_source in
      let lt = subst (StartsIn w.r.net) from_i (edge_starts w e a is_a) in
      let cells : x ≡ y = through_one w i lt (through_here w e a is_a i o from_i to_o) x y (begun_inside j x one.1) (begun_inside n y other.1) one.4 other.4 c_carries
      (subst (λ z. Says w (Carries y (Input z))) inputs d_carries) in
      let firsts : j ≡ n = one_there parts (well_placed w parts lists) j n y (subst (IsAt parts j) cells one.1) other.1 in
      chain_from parts (well_placed w parts lists) c d at_c at_d (c_source ∙ ap (λ z. begins z x) firsts ∙ ap (begins n) cells ∙ sym d_source)
  one_chain e c d (through a i o k is_a from_i to_o at_c c_sink j x source carries) (out b s p l is_b from_s to_p at_d d_sink y) = absurd (input_split e a b i s is_a is_b from_i from_s)
  one_chain e c d (out b s o k is_b from_s to_o at_c sink y) (into a t is_a to_t at_d x) = absurd (split_output e a b t o is_a is_b to_t to_o)
  one_chain e c d (out b s p l is_b from_s to_p at_c c_sink y) (through a i o k is_a from_i to_o at_d d_sink j x source carries) = absurd (input_split e a b i s is_a is_b from_i from_s)
  one_chain e c d (out a s o k is_a from_s to_o at_c c_sink x) (out b u p l is_b from_u to_p at_d d_sink y) =
      let edges : a ≡ b = same_edge w e e a b refl is_a is_b in
      let starts : from.Split s ≡ from.Split u = sym from_s ∙ ap (λ z. z.start) edges ∙ from_u in
      let same : u ≡ s = cc in
      leaves_one w parts lists c d s (out_half w parts lists s e) at_c at_d x (subst (λ z. LeavesBy w parts lists d z (out_half w parts lists z e)) same y)

  -- and one edge of a chain
  pub one_edge : (d e : ℕ) (c : Chain) → IsChainOf d c → IsChainOf e c → d ≡ e
  one_edge d e c (into a t is_a to_t at_c x) (into b u is_b to_u at_d y) = into_once w parts lists d e a b t u c is_a is_b to_t to_u x y
  one_edge d e c (into a t is_a to_t at_c x) (through b i o k is_b from_i to_o at_d sink j y source carries) = absurd (let clash = sym x.sink ∙ sink in cc)
  one_edge d e c (into a t is_a to_t at_c x) (out b s o k is_b from_s to_o at_d sink y) = absurd (let clash = sym x.sink ∙ sink in cc)
  one_edge d e c (through b i o k is_b from_i to_o at_c sink j y source carries) (into a t is_a to_t at_d x) = absurd (let clash = sym x.sink ∙ sink in cc)
  one_edge d e c (through a i o k is_a from_i to_o at_c c_sink j x c_source c_carries) (through b m p l is_b from_m to_p at_d d_sink n y d_source d_carries) =
      let cl = classed w parts lists c at_c in
      let classes : Input i ≡ Input m = sym (class_through w.r.demands a i o from_i to_o) ∙ sym (begun_class_is d a i o c j x is_a from_i to_o cl c_source c_carries)
      ∙ begun_class_is e b m p c n y is_b from_m to_p cl d_source d_carries ∙ class_through w.r.demands b m p from_m to_p in
      let inputs : m ≡ i = cc in
      one_input w d e a b i is_a is_b from_i (from_m ∙ ap (λ z. from.Input z) inputs)
  one_edge d e c (through a i o k is_a from_i to_o at_c c_sink j x source carries) (out b s p l is_b from_s to_p at_d d_sink y) = absurd (let clash = sym source ∙ y.source in cc)
  one_edge d e c (out b s o k is_b from_s to_o at_c sink y) (into a t is_a to_t at_d x) = absurd (let clash = sym x.sink ∙ sink in cc)
  one_edge d e c (out b s p l is_b from_s to_p at_c c_sink y) (through a i o k is_a from_i to_o at_d d_sink j x source carries) = absurd (let clash = sym source ∙ y.source in cc)
  one_edge d e c (out a s o k is_a from_s to_o at_c c_sink x) (out b u p l is_b from_u to_p at_d d_sink y) = out_once w parts lists d e a b s u c is_a is_b from_s from_u x y
