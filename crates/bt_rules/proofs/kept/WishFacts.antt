-- The chains that are settled beforehand: those of edges into splitters, and those of outputs that pins or sides
-- settle.
use Rattle.std.proofs.Common.{◌≡◌, ◌⊎◌, ℕ, Bool, true, List, Some, refl, sym, ◌∙◌, ap, subst, inl, inr, ⊎_elim, arith}
use Rattle.std.specs.List.{slice_get, filter, count_by}
use Rattle.std.proofs.lemmas.List.Sums.{length-filter}
use Rattle.std.proofs.lemmas.Option.{slice_get_within}
use Rattle.bt_parts.specs.declared.part.Cell.{Cell}
use Rattle.bt_parts.specs.declared.part.Dir.{Dir}
use Rattle.bt_parts.specs.declared.part.Kind.TheVariants as kind
use Rattle.bt_parts.specs.declared.part.Part.{Part}
use Rattle.bt_parts.specs.Cells.{step, IsInside}
use Rattle.bt_parts.specs.Layouts.{IsAt}
use Rattle.bt_parts.proofs.Places.{one_there}
use Rattle.bt_net.specs.declared.network.Edge.{Edge}
use Rattle.bt_net.specs.declared.network.Target.{Target}
use Rattle.bt_net.specs.declared.network.Target.TheVariants as to
use Rattle.bt_net.specs.Network.{is_output, EndsIn}
use Rattle.bt_model.specs.Chains.{IsOutput, ends, Chain, IsChain}
use Rattle.bt_model.specs.Shown.{ListsEach}
use Rattle.bt_model.proofs.ExistLemmas.{to_output, output_link}
use Rattle.bt_model.proofs.SameChain.{same_ends}
use Rattle.bt_facts.specs.declared.fact.Shape.{Shape}
use Rattle.bt_demands.specs.Classes.{class_of}
use Rattle.bt_facts.specs.Facts.{holds}
use Rattle.bt_rules.specs.Going.{runners}
use Rattle.bt_rules.specs.Kept.{kind_of, IsKeptPart}
use Rattle.bt_facts.proofs.Keeping.{In}
use Rattle.bt_rules.proofs.kept.RankFacts.{rank, rank_at, rank_one}
use Rattle.bt_rules.proofs.kept.NetFacts.{IsEdge, edge_ends, class_in, output_by}
use Rattle.bt_rules.proofs.kept.Solved.{Solved, Says}
use Rattle.bt_rules.proofs.kept.CellFacts.{one_class}
use Rattle.bt_rules.proofs.kept.BackFacts.{ender_reached}
use Rattle.bt_rules.proofs.kept.Arrivals.{reached_inside}
use Rattle.bt_rules.proofs.kept.PartFacts.{home, part_on, part_there, at_there, standing, well_placed}
use Rattle.bt_rules.proofs.kept.RingFacts.{link_cell, none_ringed}
use Rattle.bt_rules.proofs.kept.ClassFacts.{orderly, Classed}
use Rattle.bt_rules.proofs.kept.MeetFacts.{ComesInto, comes_one}
use Rattle.bt_rules.proofs.kept.SideFacts.{Settled, settled_inside, settled_class, settled_ends, settled_one, settled_apart, settled_cases}
use Rattle.bt_rules.proofs.kept.IntoFacts.{in_half, in_rank, into_class, into_chain, into_once, ends_carry}

-- where one of a list passes, it is at one place
pub counted_one : {X : Type 0} (p : X → Bool) (xs : List X) (d e : ℕ) (a b : X) → count_by p xs ≡ 1 → slice_get xs d ≡ Some a → p a ≡ true
    → slice_get xs e ≡ Some b → p b ≡ true → d ≡ e
counted_one p xs d e a b one at_a t_a at_b t_b =
    let long = length-filter p xs in
    let x = slice_get_within (filter p xs) (rank p xs d) a (rank_at p xs d a at_a t_a) in
    let y = slice_get_within (filter p xs) (rank p xs e) b (rank_at p xs e b at_b t_b) in
    rank_one p xs d e a b at_a t_a at_b t_b (omega arith)

module _ (w : Solved) (parts : List Part) (lists : ListsEach (IsKeptPart w.r w.reading) parts) where
  -- the chain must be that of the edge: it comes in where the edge is taken, or ends where the edge's output is settled
  pub data Wish (e : ℕ) (edge : Edge) (c : Chain) : Type 0 where
    comes_in : (t : ℕ) → edge.target ≡ to.Split t → ComesInto w parts lists c t (in_half w parts lists t (in_rank w parts lists t e)) → Wish e edge c
    ends_there : (o : ℕ) → edge.target ≡ to.Output o → (x : Cell) → Settled w o x → (i : ℕ) → IsOutput parts i → c.sink ≡ ends i → IsAt parts i x → Wish e edge c

  -- its class is the edge's
  pub wish_class : (e : ℕ) (edge : Edge) (c : Chain) → IsEdge w e edge → IsChain parts c → Wish e edge c → (cl : Classed w parts lists c) → cl.class ≡ class_of w.r.demands edge
  wish_class e edge c is chain (comes_in t targets a) cl = into_class w parts lists e edge t c is targets a cl
  wish_class e edge c is chain (ends_there o targets x s i output sink at) cl =
      one_class w x (settled_inside w o x s) cl.class (class_of w.r.demands edge) cl.listed (class_in w e edge is (class_of w.r.demands edge) refl)
      (ends_carry w parts lists c i x chain sink at cl) (settled_class w o x s e edge is targets)

  -- the output that ends where the rectangle does
  pub ender_output : (x : Cell) → IsInside w.r.rect x → (dir : Dir) (of : Shape) → In runners of → (IsInside w.r.rect (step dir x) → ⊥) → Says w (holds x of dir)
      → (i : ℕ) × IsOutput parts i × IsAt parts i x
  ender_output x inside dir of runs out says =
      let reached = ender_reached w x of dir inside runs says out in
      let part = part_there w parts lists of dir x reached says in (
        part.0,
        record {
          part = part_on w of dir x;
          is_i = part.1;
          kind = kinds of runs;
          clear = λ q at. out (subst (λ z. IsInside w.r.rect (step dir z)) (home_own of runs) (reached_inside w _ (standing w parts lists q _ at).reached));
        },
        at_there w parts lists part.0 of dir x part.1,
      )
    where
      kinds : (of : Shape) → In runners of → (kind_of of ≡ kind.Belt) ⊎ (kind_of of ≡ kind.Exit)
      kinds of (inl e) = inl (ap kind_of e)
      kinds of (inr (inl e)) = inr (ap kind_of e)
      kinds of (inr (inr none)) = absurd none

      home_own : (of : Shape) → In runners of → home of dir x ≡ x
      home_own of (inl e) = ap (λ z. home z dir x) e
      home_own of (inr (inl e)) = ap (λ z. home z dir x) e
      home_own of (inr (inr none)) = absurd none

  -- the output that ends where one is settled
  pub settled_output : (o : ℕ) (x : Cell) → Settled w o x → (i : ℕ) × IsOutput parts i × IsAt parts i x
  settled_output o x s =
      let found = settled_ends w o x s in
      ender_output x (settled_inside w o x s) found.0 found.1 found.2 found.3 found.4

  -- an edge has such a chain, or none
  pub wish_cases : (e : ℕ) (edge : Edge) → IsEdge w e edge → ((c : Chain) × IsChain parts c × Wish e edge c) ⊎ ((c : Chain) → Wish e edge c → ⊥)
  wish_cases e edge is = by edge.target refl where
    by : (target : Target) → edge.target ≡ target → ((c : Chain) × IsChain parts c × Wish e edge c) ⊎ ((c : Chain) → Wish e edge c → ⊥)
    by (to.Split t) targets = let found = into_chain w parts lists e edge t is targets in inl (found.0, found.1, comes_in t targets found.2)
    by (to.Output o) targets =
        ⊎_elim
        (λ settled.
        let output = settled_output o settled.0 settled.1 in
        let found = to_output parts (orderly w parts lists) (none_ringed w parts lists) output.0 output.1 in
        inl (found.0, found.1, ends_there o targets settled.0 settled.1 output.0 output.1 found.2 output.2))
        (λ none. inr (λ c wish. never o targets none c wish))
        (settled_cases w o (subst (EndsIn w.r.net) targets (edge_ends w e edge is)))
      where
        never : (o : ℕ) → edge.target ≡ to.Output o → ((x : Cell) → Settled w o x → ⊥) → (c : Chain) → Wish e edge c → ⊥
        never o targets none c (comes_in t other a) = let clash = sym targets ∙ other in cc
        never o targets none c (ends_there u other x s i output sink at) =
            let targets_same : to.Output o ≡ to.Output u = sym targets ∙ other in
            let same : u ≡ o = cc in
            none x (subst (λ z. Settled w z x) same s)

  -- one alone
  pub wish_one : (e : ℕ) (edge : Edge) (c d : Chain) → IsChain parts c → IsChain parts d → Wish e edge c → Wish e edge d → c ≡ d
  wish_one e edge c d at_c at_d (comes_in t to_t a) (comes_in u to_u b) =
      let targets : to.Split t ≡ to.Split u = sym to_t ∙ to_u in
      let same : u ≡ t = cc in
      comes_one w parts lists c d t (in_half w parts lists t (in_rank w parts lists t e)) at_c at_d a
      (subst (λ z. ComesInto w parts lists d z (in_half w parts lists z (in_rank w parts lists z e))) same b)
  wish_one e edge c d at_c at_d (comes_in t to_t a) (ends_there o to_o x s i output sink at) = absurd (let clash = sym to_t ∙ to_o in cc)
  wish_one e edge c d at_c at_d (ends_there o to_o x s i output sink at) (comes_in t to_t a) = absurd (let clash = sym to_t ∙ to_o in cc)
  wish_one e edge c d at_c at_d (ends_there o to_o x s i i_output c_sink at_x) (ends_there u to_u y t j j_output d_sink at_y) =
      let targets : to.Output o ≡ to.Output u = sym to_o ∙ to_u in
      let numbers : u ≡ o = cc in
      let cells : y ≡ x = settled_one w o y x (subst (λ z. Settled w z y) numbers t) s in
      let same : j ≡ i = one_there parts (well_placed w parts lists) j i x (subst (IsAt parts j) cells at_y) at_x in
      same_ends parts (orderly w parts lists) c d i at_c at_d c_sink (d_sink ∙ ap ends same)

  -- and of one edge
  pub wish_apart : (d e : ℕ) (a b : Edge) (c : Chain) → IsEdge w d a → IsEdge w e b → Wish d a c → Wish e b c → d ≡ e
  wish_apart d e a b c is_a is_b (comes_in t to_t x) (comes_in u to_u y) = into_once w parts lists d e a b t u c is_a is_b to_t to_u x y
  wish_apart d e a b c is_a is_b (comes_in t to_t z) (ends_there o to_o x s i output sink at) = absurd (let clash = sym z.sink ∙ sink in cc)
  wish_apart d e a b c is_a is_b (ends_there o to_o x s i output sink at) (comes_in t to_t z) = absurd (let clash = sym z.sink ∙ sink in cc)
  wish_apart d e a b c is_a is_b (ends_there o to_o x s i i_output c_sink at_x) (ends_there u to_u y t j j_output d_sink at_y) =
      let sinks : ends i ≡ ends j = sym c_sink ∙ d_sink in
      let same : j ≡ i = cc in
      let cells : x ≡ y = link_cell parts i x y (output_link parts i i_output) at_x (subst (λ z. IsAt parts z y) same at_y) in
      let numbers : u ≡ o = sym (settled_apart w o u y (subst (Settled w o) cells s) t) in
      let lt = subst (EndsIn w.r.net) to_o (edge_ends w d a is_a) in
      counted_one (is_output o) w.r.net.edges d e a b (w.is_request.net.wired.one_out o lt) is_a (output_by o a to_o) is_b (output_by o b (to_u ∙ ap (λ z. to.Output z) numbers))
