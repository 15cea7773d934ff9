-- The chain of each edge from a splitter, by the half that is chosen for it.
use Rattle.std.proofs.Common.{◌≡◌, ◌⊎◌, ℕ, ◌<◌, ◌≤◌, List, refl, sym, ◌∙◌, ap, subst, inl, inr, arith}
use Rattle.std.proofs.lemmas.Bool.{cases_lt}
use Rattle.bt_parts.specs.declared.part.Part.{Part}
use Rattle.bt_net.specs.declared.network.Edge.{Edge}
use Rattle.bt_net.specs.declared.network.Start.TheVariants as from
use Rattle.bt_net.specs.Network.{leaves as leaves_splitter, StartsIn}
use Rattle.bt_model.specs.Chains.{Chain, IsChain}
use Rattle.bt_model.specs.Shown.{ListsEach}
use Rattle.bt_facts.specs.declared.fact.Half.{Half}
use Rattle.bt_facts.specs.declared.fact.Half.TheVariants.{Lesser}
use Rattle.bt_rules.specs.Kept.{IsKeptPart}
use Rattle.bt_rules.proofs.kept.RankFacts.{rank_one, rank_few}
use Rattle.bt_rules.proofs.Classed.{leaves_start, start_leaves}
use Rattle.bt_rules.proofs.kept.NetFacts.{IsEdge, edge_starts}
use Rattle.bt_rules.proofs.kept.Solved.{Solved}
use Rattle.bt_rules.proofs.kept.SplitFacts.{IsSplitterOf, splitter_there}
use Rattle.bt_rules.proofs.kept.PortFacts.{placed, placed_one}
use Rattle.bt_rules.proofs.kept.MeetFacts.{LeavesBy, leaves_half, leaves_given, given_leaves}
use Rattle.bt_rules.proofs.kept.WishFacts.{Wish}
use Rattle.bt_rules.proofs.kept.ChoiceFacts.{Choice, choice, out_rank, given_same}

module _ (w : Solved) (parts : List Part) (lists : ListsEach (IsKeptPart w.r w.reading) parts) where
  first_of : (s : ℕ) → (s < w.r.net.splitters) ⊎ (w.r.net.splitters ≤ s) → Half
  first_of s (inl lt) = let there = splitter_there w parts lists s lt in (choice w parts lists s there.0 there.1).first
  first_of s (inr ge) = Lesser

  -- the half of the first edge from a splitter
  pub out_first : ℕ → Half
  out_first s = first_of s (cases_lt s w.r.net.splitters)

  chosen : (s : ℕ) → s < w.r.net.splitters → (i : ℕ) × (n : IsSplitterOf w parts lists s i) × (ch : Choice w parts lists s i n) × (ch.first ≡ out_first s)
  unfolding out_first first_of
  chosen s lt = by (cases_lt s w.r.net.splitters) where
    by : (x : (s < w.r.net.splitters) ⊎ (w.r.net.splitters ≤ s))
        → (i : ℕ) × (n : IsSplitterOf w parts lists s i) × (ch : Choice w parts lists s i n) × (ch.first ≡ first_of s x)
    by (inl here) = let there = splitter_there w parts lists s here in (there.0, there.1, choice w parts lists s there.0 there.1, refl)
    by (inr ge) = absurd (omega arith)

  -- the half by which an edge leaves
  abbrev pub out_half : ℕ → ℕ → Half
  out_half s e = placed (out_first s) (out_rank w parts lists s e)

  below : (e : ℕ) (edge : Edge) (s : ℕ) → IsEdge w e edge → edge.start ≡ from.Split s → s < w.r.net.splitters
  below e edge s is starts = subst (StartsIn w.r.net) starts (edge_starts w e edge is)

  -- a chain leaves there
  pub out_chain : (e : ℕ) (edge : Edge) (s : ℕ) → IsEdge w e edge → edge.start ≡ from.Split s → (c : Chain) × IsChain parts c × LeavesBy w parts lists c s (out_half s e)
  out_chain e edge s is starts =
      let ch = chosen s (below e edge s is starts) in
      let goes = ch.2.goes e edge is (start_leaves s edge starts) in
      let found = given_leaves w parts lists s ch.0 ch.1 (placed ch.2.first (out_rank w parts lists s e)) goes in
      (found.0, found.1, subst (λ f. LeavesBy w parts lists found.0 s (placed f (out_rank w parts lists s e))) ch.3 found.2)

  -- and where a chain leaves, it is that of an edge
  pub out_edge_of : (c : Chain) (s : ℕ) (h : Half) → IsChain parts c → LeavesBy w parts lists c s h
      → (e : ℕ) × (edge : Edge) × IsEdge w e edge × (edge.start ≡ from.Split s) × (out_half s e ≡ h)
  out_edge_of c s h is a =
      let ch = chosen s a.is.below in
      let given = given_same w parts lists s a.index ch.0 a.is ch.1 h (leaves_given w parts lists c s h is a) in
      let found = ch.2.each h given in
      (found.0, found.1, found.2, leaves_start s found.1 found.3, ap (λ f. placed f (out_rank w parts lists s found.0)) (sym ch.3) ∙ found.4)

  -- what is settled leaves as chosen
  pub out_wish : (e : ℕ) (edge : Edge) (s : ℕ) (c : Chain) → IsEdge w e edge → edge.start ≡ from.Split s → IsChain parts c → Wish w parts lists e edge c
      → LeavesBy w parts lists c s (out_half s e)
  out_wish e edge s c is starts chain wish =
      let ch = chosen s (below e edge s is starts) in
      subst (λ f. LeavesBy w parts lists c s (placed f (out_rank w parts lists s e))) ch.3 (ch.2.wishes e edge c is (start_leaves s edge starts) chain wish)

  -- no two edges have one chain
  pub out_once : (d e : ℕ) (a b : Edge) (s t : ℕ) (c : Chain) → IsEdge w d a → IsEdge w e b → a.start ≡ from.Split s → b.start ≡ from.Split t
      → LeavesBy w parts lists c s (out_half s d) → LeavesBy w parts lists c t (out_half t e) → d ≡ e
  out_once d e a b s t c is_a is_b from_s from_t x y =
      let same = leaves_half w parts lists c s t (out_half s d) (out_half t e) x y in
      let own : b.start ≡ from.Split s = from_t ∙ ap (λ z. from.Split z) (sym same.0) in
      let halves : out_half s d ≡ out_half s e = same.1 ∙ ap (λ z. out_half z e) (sym same.0) in
      rank_one (leaves_splitter s) w.r.net.edges d e a b is_a (start_leaves s a from_s) is_b (start_leaves s b own)
      (placed_one (out_first s) (out_rank w parts lists s d) (out_rank w parts lists s e)
      (rank_few (leaves_splitter s) w.r.net.edges d a is_a (start_leaves s a from_s) (w.is_request.net.wired.few_out s x.is.below))
      (rank_few (leaves_splitter s) w.r.net.edges e b is_b (start_leaves s b own) (w.is_request.net.wired.few_out s x.is.below)) halves)
