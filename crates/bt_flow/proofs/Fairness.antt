-- Ends that share, found by the greatest flow.
use Rattle.std.proofs.Common.{◌≡◌, ℕ, ℤ, ◌<◌, ◌≤◌, ◌≤ℤ◌, ◌<ℤ◌, ◌+◌, true, false, IsTrue, ◌↔◌, inl, inr, length, get_or, List, Option, Some, None, sym, subst, refl, ap, ◌∙◌, arith}
use Rattle.std.proofs.lemmas.Int.{ints}
use Rattle.std.proofs.lemmas.Bool.{false≢true, cases_eq, cases_lt}
use Rattle.std.proofs.lemmas.Option.{slice_get_within, get_or_from_slice_get}
use borrow.Author.Differences.{up, down}
use Rattle.bt_frac.specs.Ratio.{Ratio, IsOver}
use Rattle.bt_net.specs.declared.network.Edge.{Edge}
use Rattle.bt_net.specs.Network.{Network, IsNetwork}
use Rattle.bt_flow.specs.declared.ports.End.{End}
use Rattle.bt_flow.specs.declared.ports.End.TheVariants.{Input, Output}
use Rattle.bt_flow.specs.declared.ports.Role.{Role}
use Rattle.bt_flow.specs.Ports.{plays, role_of}
use Rattle.bt_flow.specs.States.{Flows, Fractions, Fits, StandsFor, flow_at}
use Rattle.bt_flow.specs.Steady.{HasEdge}
use Rattle.bt_flow.specs.inner.Shares.{Takes, IsGreatest, Shares, limits_of, limit_at}
use Rattle.bt_flow.proofs.AtEdges.{load_read, room_read}
use Rattle.bt_flow.proofs.Numbers.{within}

below : (a place : ℕ) → a < place + 1 → (a ≡ place → ⊥) → a < place
below a place l o = omega (arith, l, o)

pub less_all : (x y : ℤ) → (x ≤ℤ y → ⊥) → y ≤ℤ x
less_all x y o = elim (cases_lt (up y + down x) (up x + down y)) [ inl l ↦ omega (arith, ints, l) | inr l ↦ absurd (o (omega (arith, ints, l))) ]

module _ (n : Network) (t : Fractions) (r : Role) (place : ℕ) where
  pub greatest_none : (o : Option ℕ) → IsGreatest n t r place o → (Takes n r place → ⊥) → IsGreatest n t r (place + 1) o
  greatest_none None h none = λ a l k. elim (cases_eq a place) [ inl e ↦ none (subst (Takes n r) e k) | inr o ↦ h a (below a place l o) k ]
  greatest_none (Some most) h none =
      (h.0, h.1, λ s g a l k. elim (cases_eq a place) [ inl e ↦ absurd (none (subst (Takes n r) e k)) | inr o ↦ h.2 s g a (below a place l o) k ])

  pub greatest_first : (o : Option ℕ) → o ≡ None → IsGreatest n t r place o → Takes n r place → place < length n.edges → IsGreatest n t r (place + 1) (Some place)
  greatest_first o e h k l =
      let none : (a : ℕ) → a < place → Takes n r a → ⊥ = subst (IsGreatest n t r place) e h in
      (l, k, λ s g a m j. elim (cases_eq a place) [ inl q ↦ subst (λ b. flow_at s a ≤ℤ flow_at s b) q (omega (arith, ints)) | inr q ↦ absurd (none a (below a place m q) j) ])

  pub greatest_kept : (most : ℕ) (o : Option ℕ) → o ≡ Some most → IsGreatest n t r place o → ((s : Flows) → StandsFor n t s → flow_at s place ≤ℤ flow_at s most)
      → IsGreatest n t r (place + 1) o
  greatest_kept most o e h less =
      let g = subst (IsGreatest n t r place) e h in
      subst (IsGreatest n t r (place + 1)) (sym e)
      (g.0, g.1, λ s k a m j. elim (cases_eq a place) [ inl q ↦ subst (λ b. flow_at s b ≤ℤ flow_at s most) (sym q) (less s k) | inr q ↦ g.2 s k a (below a place m q) j ])

  pub greatest_new : (most : ℕ) (o : Option ℕ) → o ≡ Some most → IsGreatest n t r place o → ((s : Flows) → StandsFor n t s → flow_at s most ≤ℤ flow_at s place) → Takes n r place
      → place < length n.edges → IsGreatest n t r (place + 1) (Some place)
  greatest_new most o e h more k l =
      let g = subst (IsGreatest n t r place) e h in (
        l,
        k,
        λ s q a m j. elim (cases_eq a place) [
          | inl same ↦ subst (λ b. flow_at s a ≤ℤ flow_at s b) same (omega (arith, ints))
          | inr other ↦ let x = g.2 s q a (below a place m other) j in let y = more s q in omega (arith, ints, x, y)
        ],
      )

  pub greatest_within : (most : ℕ) (o : Option ℕ) → o ≡ Some most → IsGreatest n t r place o → most < length n.edges
  greatest_within most o e h = (subst (IsGreatest n t r place) e h).0

  -- past the last edge it is the greatest of all
  pub greatest_whole : (o : Option ℕ) → IsGreatest n t r place o → length n.edges ≤ place → IsGreatest n t r (length n.edges) o
  greatest_whole None h l = λ a m k. h a (omega (arith, l, m)) k
  greatest_whole (Some most) h l = (h.0, h.1, λ s g a m k. h.2 s g a (omega (arith, l, m)) k)

-- ---- ends against the greatest flow

-- of the edges below a place each end that is short has a flow at least the greatest
abbrev pub SharesSoFar : Network → Fractions → End → ℕ → ℕ → Type 0
SharesSoFar n t end most place = (s : Flows) → StandsFor n t s → (k a : ℕ) (e : Edge) → a < place → HasEdge n a e → IsTrue (plays (role_of end) k e)
    → flow_at s a <ℤ limit_at end s k → flow_at s most ≤ℤ flow_at s a

-- the limit of an end, read from the limits
pub limit_within : (n : Network) (t : Fractions) (end : End) → IsNetwork n → Fits n t → (a k : ℕ) (e : Edge) → HasEdge n a e → IsTrue (plays (role_of end) k e)
    → k < length (limits_of end t)
limit_within n t Input is fits a k e h p =
    let l = within n (role_of Input) is a k e (slice_get_within n.edges a e h) (ap (plays (role_of Input) k) (get_or_from_slice_get n.edges a e e h) ∙ p) in
    let b = fits.loads in omega (arith, l, b)
limit_within n t Output is fits a k e h p =
    let l = within n (role_of Output) is a k e (slice_get_within n.edges a e h) (ap (plays (role_of Output) k) (get_or_from_slice_get n.edges a e e h) ∙ p) in
    let b = fits.rooms in omega (arith, l, b)

pub limit_read : (n : Network) (t : Fractions) (end : End) (s : Flows) → StandsFor n t s → (rs : List Ratio) → rs ≡ limits_of end t → (k : ℕ) → k < length (limits_of end t)
    → (r : Ratio) → r ≡ get_or rs k r → IsOver r (limit_at end s k) s.denominator
limit_read n t Input s h rs same k l r e = load_read n t s h rs same k l r e
limit_read n t Output s h rs same k l r e = room_read n t s h rs same k l r e

-- an end that is short has a flow at least the greatest, and the others have at most that
pub shares_all : (n : Network) (t : Fractions) (end : End) (most place : ℕ) (o : Option ℕ) → o ≡ Some most → IsGreatest n t (role_of end) (length n.edges) o → length n.edges ≤ place
    → SharesSoFar n t end most place → (s : Flows) → StandsFor n t s → IsTrue true ↔ Shares n end s
shares_all n t end most place o e h l so_far s g = (
  λ _ i j a b x y p q u v less.
      let in_a = slice_get_within n.edges a x p in
      let in_b = slice_get_within n.edges b y q in
      let kept = so_far s g i a x (omega (arith, l, in_a)) p u less in
      let top = (subst (IsGreatest n t (role_of end) (length n.edges)) e h).2 s g b in_b (j, (y, q, v)) in
      omega (arith, ints, kept, top),
  λ _. refl,
)

pub shares_none : (n : Network) (t : Fractions) (end : End) (o : Option ℕ) → o ≡ None → IsGreatest n t (role_of end) (length n.edges) o → (s : Flows) → IsTrue true ↔ Shares n end s
shares_none n t end o e h s = (
  λ _ i j a b x y p q u v less. absurd (subst (IsGreatest n t (role_of end) (length n.edges)) e h a (slice_get_within n.edges a x p) (i, (x, p, u))),
  λ _. refl,
)

-- a short end with a flow below the greatest
pub shares_not : (n : Network) (t : Fractions) (end : End) (most place k : ℕ) (f : Edge) (o : Option ℕ) → o ≡ Some most → IsGreatest n t (role_of end) (length n.edges) o
    → HasEdge n place f → IsTrue (plays (role_of end) k f) → (s : Flows) → ((flow_at s place <ℤ limit_at end s k → flow_at s most ≤ℤ flow_at s place) → ⊥) → IsTrue false ↔ Shares n end s
shares_not n t end most place k f o e h is p s fails =
    let top = (subst (IsGreatest n t (role_of end) (length n.edges)) e h).1 in
    (λ u. absurd (false≢true u), λ all. absurd (fails (λ less. all k top.0 place most f top.1.0 is top.1.1 p top.1.2 less)))

pub so_far_more : (n : Network) (t : Fractions) (end : End) (most place k : ℕ) → SharesSoFar n t end most place
    → ((s : Flows) → StandsFor n t s → (j : ℕ) (e : Edge) → HasEdge n place e → IsTrue (plays (role_of end) j e) → flow_at s place <ℤ limit_at end s j → flow_at s most ≤ℤ flow_at s place)
    → SharesSoFar n t end most (place + 1)
so_far_more n t end most place k h here = λ s g j a e l x p.
    elim (cases_eq a place) [
      | inl q ↦ subst (λ b. HasEdge n b e → flow_at s b <ℤ limit_at end s j → flow_at s most ≤ℤ flow_at s b) (sym q) (λ y. here s g j e y p) x
      | inr q ↦ h s g j a e (below a place l q) x p
    ]
