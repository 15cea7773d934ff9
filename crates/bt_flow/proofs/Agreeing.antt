-- Flows that agree, edge by edge.
use Rattle.std.proofs.Common.{◌≡◌, ℕ, ◌<◌, ◌≤◌, ◌+◌, ◌==◌, true, false, IsTrue, ◌↔◌, inl, inr, List, length, get_or, Option, Some, None, sym, subst, refl, ap, ◌∙◌, arith}
use Rattle.std.proofs.lemmas.Bool.{false≢true, eq-eqb, cases_eq}
use Rattle.std.proofs.lemmas.Option.{slice_get-get_or, get_or_from_slice_get, slice_get_within}
use Rattle.bt_net.specs.declared.network.Edge.{Edge}
use Rattle.bt_net.specs.Network.{Network}
use Rattle.bt_flow.specs.declared.ports.Role.{Role}
use Rattle.bt_flow.specs.Ports.{plays}
use Rattle.bt_flow.specs.States.{Flows, Fractions, StandsFor, flow_at}
use Rattle.bt_flow.specs.Steady.{HasEdge}
use Rattle.bt_flow.specs.inner.Shares.{Takes}

-- among the edges below a place: none has the role, or the flows of those that have it are that of the first
abbrev pub AgreeSoFar : Network → Fractions → Role → ℕ → Option ℕ → Type 0
AgreeSoFar n t r place None = (a : ℕ) → a < place → Takes n r a → ⊥
AgreeSoFar n t r place (Some first) = (first < length n.edges) × Takes n r first
    × ((s : Flows) → StandsFor n t s → (a : ℕ) → a < place → Takes n r a → flow_at s first ≡ flow_at s a)

module _ (n : Network) (r : Role) (edges : List Edge) (place : ℕ) (d : Edge) (same : edges ≡ n.edges) (l : place < length edges) where
  inside : place < length n.edges
  inside = subst (λ x. place < length x) same l

  pub takes : (m : ℕ) → ((k : ℕ) → plays r k (get_or edges place d) ≡ (m == k)) → Takes n r place
  takes m has =
      (m, (get_or n.edges place d, slice_get-get_or n.edges place d inside, subst (λ x. plays r m (get_or x place d) ≡ true) same (has m ∙ eq-eqb m m refl)))

  pub takes_not : ((k : ℕ) → plays r k (get_or edges place d) ≡ false) → Takes n r place → ⊥
  takes_not none t =
      let e = ap (λ x. get_or x place d) same ∙ get_or_from_slice_get n.edges place t.1.0 d t.1.1 in
      false≢true (sym (none t.0) ∙ subst (λ x. plays r t.0 x ≡ true) (sym e) t.1.2)

below : (a place : ℕ) → a < place + 1 → (a ≡ place → ⊥) → a < place
below a place l o = omega (arith, l, o)

pub so_far_none : (n : Network) (t : Fractions) (r : Role) (place : ℕ) (o : Option ℕ) → AgreeSoFar n t r place o → (Takes n r place → ⊥) → AgreeSoFar n t r (place + 1) o
so_far_none n t r place None h none = λ a l k. elim (cases_eq a place) [ inl e ↦ none (subst (Takes n r) e k) | inr o ↦ h a (below a place l o) k ]
so_far_none n t r place (Some first) h none =
    (h.0, h.1, λ s g a l k. elim (cases_eq a place) [ inl e ↦ absurd (none (subst (Takes n r) e k)) | inr o ↦ h.2 s g a (below a place l o) k ])

pub so_far_first : (n : Network) (t : Fractions) (r : Role) (place : ℕ) (o : Option ℕ) → o ≡ None → AgreeSoFar n t r place o → Takes n r place → place < length n.edges
    → AgreeSoFar n t r (place + 1) (Some place)
so_far_first n t r place o e h k l =
    let none : (a : ℕ) → a < place → Takes n r a → ⊥ = subst (AgreeSoFar n t r place) e h in
    (l, k, λ s g a m j. elim (cases_eq a place) [ inl q ↦ ap (flow_at s) (sym q) | inr q ↦ absurd (none a (below a place m q) j) ])

pub so_far_same : (n : Network) (t : Fractions) (r : Role) (place first : ℕ) (o : Option ℕ) → o ≡ Some first → AgreeSoFar n t r place o
    → ((s : Flows) → StandsFor n t s → flow_at s first ≡ flow_at s place) → AgreeSoFar n t r (place + 1) o
so_far_same n t r place first o e h same =
    let g = subst (AgreeSoFar n t r place) e h in
    subst (AgreeSoFar n t r (place + 1)) (sym e)
    (g.0, g.1, λ s k a m j. elim (cases_eq a place) [ inl q ↦ same s k ∙ ap (flow_at s) (sym q) | inr q ↦ g.2 s k a (below a place m q) j ])

-- all flows of edges with a role are equal
abbrev AllAgree : Network → Role → Flows → Type 0
AllAgree n r s = (i j a b : ℕ) (e f : Edge) → HasEdge n a e → HasEdge n b f → IsTrue (plays r i e) → IsTrue (plays r j f) → flow_at s a ≡ flow_at s b

agree_by : (n : Network) (t : Fractions) (r : Role) (place : ℕ) (o : Option ℕ) → AgreeSoFar n t r place o → (s : Flows) → StandsFor n t s
    → (a b : ℕ) → a < place → b < place → Takes n r a → Takes n r b → flow_at s a ≡ flow_at s b
agree_by n t r place None h s g a b l m p q = absurd (h a l p)
agree_by n t r place (Some first) h s g a b l m p q = sym (h.2 s g a l p) ∙ h.2 s g b m q

pub agree_all : (n : Network) (t : Fractions) (r : Role) (place : ℕ) (o : Option ℕ) → AgreeSoFar n t r place o → length n.edges ≤ place → (s : Flows) → StandsFor n t s
    → IsTrue true ↔ AllAgree n r s
agree_all n t r place o h l s g = (
  λ _ i j a b e f x y p q.
      let la = slice_get_within n.edges a e x in
      let lb = slice_get_within n.edges b f y in
      agree_by n t r place o h s g a b (omega (arith, l, la)) (omega (arith, l, lb)) (i, (e, x, p)) (j, (f, y, q)),
  λ _. refl,
)

pub agree_not : (n : Network) (t : Fractions) (r : Role) (place first : ℕ) (o : Option ℕ) → o ≡ Some first → AgreeSoFar n t r place o → Takes n r place
    → (s : Flows) → (flow_at s first ≡ flow_at s place → ⊥) → IsTrue false ↔ AllAgree n r s
agree_not n t r place first o e h k s apart =
    let g = subst (AgreeSoFar n t r place) e h in
    let p = g.1 in
    (λ u. absurd (false≢true u), λ all. absurd (apart (all p.0 k.0 first place p.1.0 k.1.0 p.1.1 k.1.1 p.1.2 k.1.2)))

pub first_within : (n : Network) (t : Fractions) (r : Role) (place first : ℕ) (o : Option ℕ) → o ≡ Some first → AgreeSoFar n t r place o → first < length n.edges
first_within n t r place first o e h = (subst (AgreeSoFar n t r place) e h).0
