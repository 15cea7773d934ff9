-- By which half of its splitter each out edge leaves, in accord with the chains that are settled.
use Rattle.std.proofs.Common.{◌≡◌, ◌⊎◌, ℕ, zero, suc, ◌<◌, true, List, [], ◌∷◌, Some, refl, sym, ◌∙◌, ap, subst, inl, inr, ⊎_elim, arith}
use Rattle.std.specs.List.{slice_get, filter}
use Rattle.std.proofs.lemmas.Option.{none-some}
use Rattle.bt_parts.specs.declared.part.Part.{Part}
use Rattle.bt_net.specs.declared.network.Edge.{Edge}
use Rattle.bt_net.specs.Network.{leaves as leaves_splitter}
use Rattle.bt_model.specs.Chains.{Chain, IsChain}
use Rattle.bt_model.specs.Shown.{ListsEach}
use Rattle.bt_facts.specs.declared.fact.Fact.TheVariants.{Goes}
use Rattle.bt_facts.specs.declared.fact.Half.{Half}
use Rattle.bt_facts.specs.declared.fact.Half.TheVariants.{Lesser, Greater}
use Rattle.bt_facts.specs.Spots.{other_half, half_at}
use Rattle.bt_rules.specs.Kept.{IsKeptPart}
use Rattle.bt_rules.proofs.kept.RankFacts.{rank, rank_at, rank_one, rank_few, at_rank}
use Rattle.bt_rules.proofs.Classed.{leaves_start}
use Rattle.bt_rules.proofs.kept.NetFacts.{IsEdge, same_edge, class_of_split}
use Rattle.bt_rules.proofs.kept.Solved.{Solved, Says}
use Rattle.bt_rules.proofs.kept.SplitFacts.{IsSplitterOf, half_spot, half_cases, other_other}
use Rattle.bt_rules.proofs.kept.ClassFacts.{classed}
use Rattle.bt_rules.proofs.kept.PortFacts.{placed, Outs, out_none, out_one, out_two, outs_here}
use Rattle.bt_rules.proofs.kept.MeetFacts.{LeavesBy, GivesOut, one_stand, same_half, leaves_one, class_leaves, leaves_given}
use Rattle.bt_rules.proofs.kept.WishFacts.{Wish, wish_class, wish_cases, wish_one, wish_apart}

module _ (w : Solved) (parts : List Part) (lists : ListsEach (IsKeptPart w.r w.reading) parts) where
  -- the rank of an edge from a splitter
  abbrev pub out_rank : ℕ → ℕ → ℕ
  out_rank s e = rank (leaves_splitter s) w.r.net.edges e

  -- which half is that of the first edge from the splitter
  pub record Choice (s i : ℕ) (n : IsSplitterOf w parts lists s i) : Type 0 where
    pub first : Half
    pub goes : (e : ℕ) (edge : Edge) → IsEdge w e edge → leaves_splitter s edge ≡ true → GivesOut w parts lists s i n (placed first (out_rank s e))
    pub each : (h : Half) → GivesOut w parts lists s i n h
        → (e : ℕ) × (edge : Edge) × IsEdge w e edge × (leaves_splitter s edge ≡ true) × (placed first (out_rank s e) ≡ h)
    pub wishes : (e : ℕ) (edge : Edge) (c : Chain) → IsEdge w e edge → leaves_splitter s edge ≡ true → IsChain parts c → Wish w parts lists e edge c
        → LeavesBy w parts lists c s (placed first (out_rank s e))

  -- the halves of one splitter hand on whichever way it is told
  pub given_same : (s i j : ℕ) (n : IsSplitterOf w parts lists s i) (m : IsSplitterOf w parts lists s j) (h : Half) → GivesOut w parts lists s i n h → GivesOut w parts lists s j m h
  given_same s i j n m h goes =
      subst (λ c. Says w (Goes c m.dir)) (same_half w parts lists s i j n m h)
      (subst (λ d. Says w (Goes (half_at h n.dir n.cell) d)) (one_stand w parts lists s i j n m).1 goes)

  -- a chain that is settled for an edge of the splitter leaves by some half
  settled : (s e : ℕ) (edge : Edge) (c : Chain) → IsEdge w e edge → leaves_splitter s edge ≡ true → IsChain parts c → Wish w parts lists e edge c
      → (h : Half) × LeavesBy w parts lists c s h
  settled s e edge c is own chain wish =
      let cl = classed w parts lists c chain in
      class_leaves w parts lists c s chain cl (wish_class w parts lists e edge c is chain wish cl ∙ class_of_split w.r.demands edge s (leaves_start s edge own))

  module _ (s i : ℕ) (n : IsSplitterOf w parts lists s i) where
    module _ (es : List Edge) (all : filter (leaves_splitter s) w.r.net.edges ≡ es) where
      at_place : (e : ℕ) (edge : Edge) → IsEdge w e edge → leaves_splitter s edge ≡ true → slice_get es (out_rank s e) ≡ Some edge
      at_place e edge is own = subst (λ xs. slice_get xs (out_rank s e) ≡ Some edge) all (rank_at (leaves_splitter s) w.r.net.edges e edge is own)

      of_place : (j : ℕ) (edge : Edge) → slice_get es j ≡ Some edge → (e : ℕ) × IsEdge w e edge × (leaves_splitter s edge ≡ true) × (out_rank s e ≡ j)
      of_place j edge at = at_rank (leaves_splitter s) w.r.net.edges j edge (subst (λ xs. slice_get xs j ≡ Some edge) (sym all) at)

    few : (e : ℕ) (edge : Edge) → IsEdge w e edge → leaves_splitter s edge ≡ true → out_rank s e < 2
    few e edge is own = rank_few (leaves_splitter s) w.r.net.edges e edge is own (w.is_request.net.wired.few_out s n.below)

    of_none : filter (leaves_splitter s) w.r.net.edges ≡ [] → ((h : Half) → GivesOut w parts lists s i n h → ⊥) → Choice s i n
    of_none all never = record {
      first = Lesser;
      goes = λ e edge is own. absurd (none-some edge (at_place [] all e edge is own));
      each = λ h goes. absurd (never h goes);
      wishes = λ e edge c is own chain wish. absurd (none-some edge (at_place [] all e edge is own));
    }

    single : (x edge : Edge) (r : ℕ) → slice_get (x ∷ []) r ≡ Some edge → r ≡ 0
    single x edge zero at = refl
    single x edge (suc r) at = absurd (none-some edge at)

    of_one : (x : Edge) → filter (leaves_splitter s) w.r.net.edges ≡ x ∷ [] → (first : Half) → GivesOut w parts lists s i n first
        → (GivesOut w parts lists s i n (other_half first) → ⊥) → Choice s i n
    of_one x all first goes never = record {
      first = first;
      goes = λ e edge is own. subst (λ r. GivesOut w parts lists s i n (placed first r)) (sym (single x edge (out_rank s e) (at_place (x ∷ []) all e edge is own))) goes;
      each = λ h given.
          let found = of_place (x ∷ []) all 0 x refl in
          (found.0, x, found.1, found.2, ap (placed first) found.3 ∙ sym (is_first h given));
      wishes = λ e edge c is own chain wish.
          let by = settled s e edge c is own chain wish in
          let given = given_same s by.1.index i by.1.is n by.0 (leaves_given w parts lists c s by.0 chain by.1) in
          subst (LeavesBy w parts lists c s)
          (is_first by.0 given ∙ ap (placed first) (sym (single x edge (out_rank s e) (at_place (x ∷ []) all e edge is own)))) by.1;
    } where
      is_first : (h : Half) → GivesOut w parts lists s i n h → h ≡ first
      is_first h given = ⊎_elim (λ e. e) (λ e. absurd (never (subst (GivesOut w parts lists s i n) e given))) (half_cases first h)

    module _ (x y : Edge) (more : List Edge) (all : filter (leaves_splitter s) w.r.net.edges ≡ x ∷ y ∷ more) (both : (h : Half) → GivesOut w parts lists s i n h) where
      zeroth : (e : ℕ) × IsEdge w e x × (leaves_splitter s x ≡ true) × (out_rank s e ≡ 0)
      zeroth = of_place (x ∷ y ∷ more) all 0 x refl

      oneth : (e : ℕ) × IsEdge w e y × (leaves_splitter s y ≡ true) × (out_rank s e ≡ 1)
      oneth = of_place (x ∷ y ∷ more) all 1 y refl

      -- an edge of the splitter is one of the two
      which : (e : ℕ) (edge : Edge) → IsEdge w e edge → leaves_splitter s edge ≡ true
          → ((e ≡ zeroth.0) × (out_rank s e ≡ 0)) ⊎ ((e ≡ oneth.0) × (out_rank s e ≡ 1))
      which e edge is own = by (out_rank s e) refl (few e edge is own) where
        by : (r : ℕ) → out_rank s e ≡ r → r < 2 → ((e ≡ zeroth.0) × (out_rank s e ≡ 0)) ⊎ ((e ≡ oneth.0) × (out_rank s e ≡ 1))
        by zero same lt = inl (rank_one (leaves_splitter s) w.r.net.edges e zeroth.0 edge x is own zeroth.1 zeroth.2 (same ∙ sym zeroth.3), same)
        by (suc zero) same lt = inr (rank_one (leaves_splitter s) w.r.net.edges e oneth.0 edge y is own oneth.1 oneth.2 (same ∙ sym oneth.3), same)
        by (suc (suc r)) same lt = absurd (omega arith)

      each_of : (first : Half) (h : Half) → GivesOut w parts lists s i n h
          → (e : ℕ) × (edge : Edge) × IsEdge w e edge × (leaves_splitter s edge ≡ true) × (placed first (out_rank s e) ≡ h)
      each_of first h given =
          ⊎_elim
          (λ same. (zeroth.0, x, zeroth.1, zeroth.2, ap (placed first) zeroth.3 ∙ sym same))
          (λ other. (oneth.0, y, oneth.1, oneth.2, ap (placed first) oneth.3 ∙ sym other))
          (half_cases first h)

      goes_of : (first : Half) (e : ℕ) (edge : Edge) → IsEdge w e edge → leaves_splitter s edge ≡ true → GivesOut w parts lists s i n (placed first (out_rank s e))
      goes_of first e edge is own = both (placed first (out_rank s e))

      apart : (d e : ℕ) → d ≡ e → out_rank s d ≡ 0 → out_rank s e ≡ 1 → ⊥
      apart d e same zero_rank one_rank = let ranks = ap (out_rank s) same in omega arith

      -- the first edge's chain is settled
      by_first : (c : Chain) → IsChain parts c → Wish w parts lists zeroth.0 x c → (h : Half) → LeavesBy w parts lists c s h → Choice s i n
      by_first c chain wish h by = record {
        first = h;
        goes = goes_of h;
        each = each_of h;
        wishes = λ e edge d is own on other. ⊎_elim
            (λ zero_at.
            let edges : edge ≡ x = same_edge w e zeroth.0 edge x zero_at.0 is zeroth.1 in
            let moved : Wish w parts lists zeroth.0 x d = subst (λ z. Wish w parts lists z x d) zero_at.0 (subst (λ z. Wish w parts lists e z d) edges other) in
            subst (LeavesBy w parts lists d s) (ap (placed h) (sym zero_at.1)) (subst (λ z. LeavesBy w parts lists z s h) (wish_one w parts lists zeroth.0 x c d chain on wish moved) by))
            (λ one_at.
            let mine = settled s e edge d is own on other in
            subst (LeavesBy w parts lists d s) (other_side e edge d is own on other one_at.1 mine.0 mine.1 ∙ ap (placed h) (sym one_at.1)) mine.1)
            (which e edge is own);
      } where
        other_side : (e : ℕ) (edge : Edge) (d : Chain) → IsEdge w e edge → leaves_splitter s edge ≡ true → IsChain parts d → Wish w parts lists e edge d → out_rank s e ≡ 1
            → (g : Half) → LeavesBy w parts lists d s g → g ≡ other_half h
        other_side e edge d is own on other rank_at_one g mine =
            ⊎_elim
            (λ same.
            let chains : d ≡ c = leaves_one w parts lists d c s h on chain (subst (LeavesBy w parts lists d s) same mine) by in
            absurd (apart zeroth.0 e (wish_apart w parts lists zeroth.0 e x edge c zeroth.1 is wish (subst (Wish w parts lists e edge) chains other)) zeroth.3 rank_at_one))
            (λ apart_side. apart_side)
            (half_cases h g)

      -- the second edge's chain alone is
      by_second : ((c : Chain) → Wish w parts lists zeroth.0 x c → ⊥) → (c : Chain) → IsChain parts c → Wish w parts lists oneth.0 y c → (h : Half) → LeavesBy w parts lists c s h → Choice s i n
      by_second never c chain wish h by = record {
        first = other_half h;
        goes = goes_of (other_half h);
        each = each_of (other_half h);
        wishes = λ e edge d is own on other. ⊎_elim
            (λ zero_at.
            let edges : edge ≡ x = same_edge w e zeroth.0 edge x zero_at.0 is zeroth.1 in
            absurd (never d (subst (λ z. Wish w parts lists z x d) zero_at.0 (subst (λ z. Wish w parts lists e z d) edges other))))
            (λ one_at.
            let edges : edge ≡ y = same_edge w e oneth.0 edge y one_at.0 is oneth.1 in
            let moved : Wish w parts lists oneth.0 y d = subst (λ z. Wish w parts lists z y d) one_at.0 (subst (λ z. Wish w parts lists e z d) edges other) in
            subst (LeavesBy w parts lists d s) (sym (other_other h) ∙ ap (placed (other_half h)) (sym one_at.1))
            (subst (λ z. LeavesBy w parts lists z s h) (wish_one w parts lists oneth.0 y c d chain on wish moved) by))
            (which e edge is own);
      }

      -- neither is
      by_none : ((c : Chain) → Wish w parts lists zeroth.0 x c → ⊥) → ((c : Chain) → Wish w parts lists oneth.0 y c → ⊥) → Choice s i n
      by_none never neither = record {
        first = Lesser;
        goes = goes_of Lesser;
        each = each_of Lesser;
        wishes = λ e edge d is own on other. absurd (⊎_elim
            (λ zero_at.
            let edges : edge ≡ x = same_edge w e zeroth.0 edge x zero_at.0 is zeroth.1 in
            never d (subst (λ z. Wish w parts lists z x d) zero_at.0 (subst (λ z. Wish w parts lists e z d) edges other)))
            (λ one_at.
            let edges : edge ≡ y = same_edge w e oneth.0 edge y one_at.0 is oneth.1 in
            neither d (subst (λ z. Wish w parts lists z y d) one_at.0 (subst (λ z. Wish w parts lists e z d) edges other)))
            (which e edge is own));
      }

      of_two : Choice s i n
      of_two =
          ⊎_elim
          (λ found. let by = settled s zeroth.0 x found.0 zeroth.1 zeroth.2 found.1 found.2 in by_first found.0 found.1 found.2 by.0 by.1)
          (λ never. ⊎_elim
          (λ found. let by = settled s oneth.0 y found.0 oneth.1 oneth.2 found.1 found.2 in by_second never found.0 found.1 found.2 by.0 by.1)
          (λ neither. by_none never neither)
          (wish_cases w parts lists oneth.0 y oneth.1))
          (wish_cases w parts lists zeroth.0 x zeroth.1)

    pub choice : Choice s i n
    choice = by (filter (leaves_splitter s) w.r.net.edges) refl
        (outs_here w s n.below n.cell n.dir n.inside (half_spot w parts lists s i n Greater).inside n.at)
      where
        by : (es : List Edge) → filter (leaves_splitter s) w.r.net.edges ≡ es
            → Outs w s n.below n.cell n.dir n.inside (half_spot w parts lists s i n Greater).inside n.at es → Choice s i n
        by es all (out_none never) = of_none all never
        by es all (out_one x first goes never) = of_one x all first goes never
        by es all (out_two x y more both) = of_two x y more all both
