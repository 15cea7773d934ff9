-- What tests at an edge and at a port say of every state that a list of fractions stands for.
use Rattle.std.proofs.Common.{◌≡◌, ℕ, ◌<◌, ◌*◌, ℤ, pos, ◌≤ℤ◌, Bool, true, false, IsTrue, ◌↔◌, inl, inr, List, [], ◌∷◌, length, get_or, slice_get, Some, sym, subst, refl, ap, ◌∙◌, arith, zero, suc}
use Rattle.std.proofs.Math.Bool.{not, beq}
use Rattle.std.proofs.lemmas.Bool.{false≢true, true≢false}
use Rattle.std.proofs.lemmas.Option.{slice_get-get_or, get_or_from_slice_get}
use Rattle.bt_frac.specs.Ratio.{Ratio, IsOver, AreOver}
use Rattle.bt_net.specs.declared.network.Edge.{Edge}
use Rattle.bt_net.specs.Network.{Network}
use Rattle.bt_flow.specs.States.{Flows, Fractions, StandsFor, flow_at, backed_at, load_at, room_at, cap_in}
use Rattle.bt_flow.specs.Steady.{HasEdge}
use Rattle.std.specs.List.{AllByRecursion}
use Rattle.bt_flow.specs.declared.ports.Port.{Port}
use Rattle.bt_flow.specs.declared.ports.Port.TheVariants.{One, Two}
use Rattle.bt_flow.specs.declared.ports.Role.{Role}
use Rattle.bt_flow.specs.Ports.{numbers_of, plays}
use Rattle.bt_flow.specs.inner.AtPorts.{Admits, Rests}

-- an item of a list of fractions over a denominator
pub over_at : (rs : List Ratio) (ws : List ℤ) (d : ℕ) → AreOver rs ws d → (i : ℕ) → i < length rs → (r : Ratio) (w : ℤ) → IsOver (get_or rs i r) (get_or ws i w) d
over_at [] ws d h i l r w = absurd (omega arith)
over_at (x ∷ rs) [] d h i l r w = absurd h
over_at (x ∷ rs) (y ∷ ws) d h zero l r w = h.0
over_at (x ∷ rs) (y ∷ ws) d h (suc i) l r w = over_at rs ws d h.1 i (omega arith) r w

-- a fraction read from a list, over a denominator
over_read : (rs : List Ratio) (ws : List ℤ) (d : ℕ) → AreOver rs ws d → (i : ℕ) → i < length rs → (r : Ratio) (w : ℤ) → r ≡ get_or rs i r → IsOver r (get_or ws i w) d
over_read rs ws d h i l r w e = subst (λ q. IsOver q (get_or ws i w) d) (sym e) (over_at rs ws d h i l r w)

-- the flow of an edge, read from the flows
pub flow_read : (n : Network) (t : Fractions) (s : Flows) → StandsFor n t s → (rs : List Ratio) → rs ≡ t.flows → (a : ℕ) → a < length t.flows → (r : Ratio) → r ≡ get_or rs a r
    → IsOver r (flow_at s a) s.denominator
flow_read n t s h rs same a l r e = over_read t.flows s.flows s.denominator h.flows a l r (pos 0) (e ∙ ap (λ x. get_or x a r) same)

-- the load of an input, read from the loads
pub load_read : (n : Network) (t : Fractions) (s : Flows) → StandsFor n t s → (rs : List Ratio) → rs ≡ t.loads → (i : ℕ) → i < length t.loads → (r : Ratio) → r ≡ get_or rs i r
    → IsOver r (load_at s i) s.denominator
load_read n t s h rs same i l r e = over_read t.loads s.loads s.denominator h.loads i l r (pos 0) (e ∙ ap (λ x. get_or x i r) same)

-- the room of an output, read from the rooms
pub room_read : (n : Network) (t : Fractions) (s : Flows) → StandsFor n t s → (rs : List Ratio) → rs ≡ t.rooms → (o : ℕ) → o < length t.rooms → (r : Ratio) → r ≡ get_or rs o r
    → IsOver r (room_at s o) s.denominator
room_read n t s h rs same o l r e = over_read t.rooms s.rooms s.denominator h.rooms o l r (pos 0) (e ∙ ap (λ x. get_or x o r) same)

-- what holds of the edge at a place is what holds of each edge that is there
pub only_edge : (n : Network) (edges : List Edge) (place : ℕ) (d : Edge) (Q : Edge → Type 0) → edges ≡ n.edges → place < length n.edges
    → Q (get_or edges place d) ↔ ((e : Edge) → HasEdge n place e → Q e)
only_edge n edges place d Q same l =
    let there : slice_get n.edges place ≡ Some (get_or n.edges place d) = slice_get-get_or n.edges place d l in (
      λ q e h. subst Q (ap (λ x. get_or x place d) same ∙ get_or_from_slice_get n.edges place e d h) q,
      λ f. subst (λ x. Q (get_or x place d)) (sym same) (f (get_or n.edges place d) there),
    )

admits_none : {A B C : Type 0} (w : Bool) → w ≡ false → IsTrue w ↔ (A × B) → IsTrue w ↔ (A × B × C)
admits_none w e h = (λ t. absurd (false≢true (sym e ∙ t)), λ q. h.1 (q.0, q.1))

admits_free : {A B C : Type 0} (w full : Bool) → w ≡ true → full ≡ false → IsTrue w ↔ (A × B) → IsTrue (not full) ↔ (A × B × (IsTrue full → C))
admits_free w full e f h =
    let g = h.0 e in
    (λ t. (g.0, g.1, λ u. absurd (false≢true (sym f ∙ u))), λ q. subst (λ b. not b ≡ true) (sym f) refl)

admits_full : {A B C : Type 0} (w full k : Bool) → w ≡ true → full ≡ true → IsTrue w ↔ (A × B) → IsTrue k ↔ C → IsTrue k ↔ (A × B × (IsTrue full → C))
admits_full w full k e f h g =
    let m = h.0 e in
    (λ t. (m.0, m.1, λ u. g.0 t), λ q. g.1 (q.2 f))

module _ (n : Network) (edges : List Edge) (place : ℕ) (d : Edge) (same : edges ≡ n.edges) (l : place < length n.edges) (s : Flows) (x : ℤ) (full w : Bool)
    (h : IsTrue w ↔ ((pos 0 ≤ℤ x) × (x ≤ℤ pos ((get_or edges place d).cap * s.denominator)))) where
  at_edge : (b : Bool) → IsTrue b ↔ Admits s x full (get_or edges place d) → IsTrue b ↔ ((e : Edge) → HasEdge n place e → Admits s x full e)
  at_edge b k =
      let o = only_edge n edges place d (Admits s x full) same l in
      (λ t. o.0 (k.0 t), λ f. k.1 (o.1 f))

  pub admits_at_none : w ≡ false → IsTrue w ↔ ((e : Edge) → HasEdge n place e → Admits s x full e)
  admits_at_none e = at_edge w (admits_none w e h)

  pub admits_at_free : w ≡ true → full ≡ false → IsTrue (not full) ↔ ((e : Edge) → HasEdge n place e → Admits s x full e)
  admits_at_free e f = at_edge (not full) (admits_free w full e f h)

  pub admits_at_full : w ≡ true → full ≡ true → (k : Bool) → IsTrue k ↔ (x ≡ pos ((get_or edges place d).cap * s.denominator))
      → IsTrue k ↔ ((e : Edge) → HasEdge n place e → Admits s x full e)
  admits_at_full e f k g = at_edge k (admits_full w full k e f h g)

-- tests of marks
pub meets_other : {A C : Type 0} (w m mark : Bool) (M : Bool) → M ≡ m → w ≡ true → not (beq m mark) ≡ true → IsTrue w ↔ A
    → IsTrue (not (beq m mark)) ↔ (A × (M ≡ mark → C))
meets_other w m mark M e t u h = (λ _. (h.0 t, λ q. absurd (differs m mark u (sym e ∙ q))), λ _. u)
  where
    differs : (m mark : Bool) → not (beq m mark) ≡ true → m ≡ mark → ⊥
    differs true true u q = false≢true u
    differs true false u q = true≢false q
    differs false true u q = false≢true q
    differs false false u q = false≢true u

pub meets_mark : {A C : Type 0} (w m mark k : Bool) (M : Bool) → M ≡ m → w ≡ true → not (beq m mark) ≡ false → IsTrue w ↔ A → IsTrue k ↔ C
    → IsTrue k ↔ (A × (M ≡ mark → C))
meets_mark w m mark k M e t u h g = (λ v. (h.0 t, λ _. g.0 v), λ q. g.1 (q.1 (e ∙ equal m mark u)))
  where
    equal : (m mark : Bool) → not (beq m mark) ≡ false → m ≡ mark
    equal true true u = refl
    equal true false u = absurd (true≢false u)
    equal false true u = absurd (true≢false u)
    equal false false u = refl

-- the mark of an edge, read from the marks
pub mark_read : (n : Network) (t : Fractions) (s : Flows) → StandsFor n t s → (marks : List Bool) → marks ≡ t.backed → (a : ℕ) → backed_at s a ≡ get_or marks a false
mark_read n t s h marks same a = ap (λ x. get_or x a false) (sym (same ∙ h.backed))

-- an edge with the mark rests
pub rests_marked : (n : Network) (place : ℕ) (s : Flows) (m mark : Bool) → backed_at s place ≡ m → beq m mark ≡ true
    → IsTrue (beq m mark) ↔ ((f : Edge) → HasEdge n place f → Rests s mark place f)
rests_marked n place s m mark e u = (λ t f h. inl (e ∙ equal m mark u), λ _. u)
  where
    equal : (m mark : Bool) → beq m mark ≡ true → m ≡ mark
    equal true true u = refl
    equal true false u = absurd (false≢true u)
    equal false true u = absurd (false≢true u)
    equal false false u = refl

-- an edge without the mark rests where its flow is at its cap
pub rests_full : (n : Network) (edges : List Edge) (place : ℕ) (d : Edge) (s : Flows) → edges ≡ n.edges → place < length n.edges
    → (m mark : Bool) → backed_at s place ≡ m → beq m mark ≡ false
    → (k : Bool) → IsTrue k ↔ (flow_at s place ≡ pos ((get_or edges place d).cap * s.denominator))
    → IsTrue k ↔ ((f : Edge) → HasEdge n place f → Rests s mark place f)
rests_full n edges place d s same l m mark e u k h =
    let o = only_edge n edges place d (Rests s mark place) same l in
    (λ t. o.0 (inr (h.0 t)), λ f. elim (o.1 f) [ inl b ↦ absurd (differs m mark u (sym e ∙ b)) | inr q ↦ h.1 q ])
  where
    differs : (m mark : Bool) → beq m mark ≡ false → m ≡ mark → ⊥
    differs true true u q = true≢false u
    differs true false u q = true≢false q
    differs false true u q = false≢true q
    differs false false u q = true≢false u

-- what is required at each edge of a port
pub port_one_is : (P : ℕ → Type 0) (port : Port) (a : ℕ) → port ≡ One a → AllByRecursion P (numbers_of port) → P a
port_one_is P port a e h = (subst (λ p. AllByRecursion P (numbers_of p)) e h).0

pub port_first_is : (P : ℕ → Type 0) (port : Port) (a b : ℕ) → port ≡ Two a b → AllByRecursion P (numbers_of port) → P a
port_first_is P port a b e h = (subst (λ p. AllByRecursion P (numbers_of p)) e h).0

pub port_second_is : (P : ℕ → Type 0) (port : Port) (a b : ℕ) → port ≡ Two a b → AllByRecursion P (numbers_of port) → P b
port_second_is P port a b e h = (subst (λ p. AllByRecursion P (numbers_of p)) e h).1.0

-- a number that each edge admits is within each cap, and where `full` at each cap
pub admits_apart : (n : Network) (r : Role) (k : ℕ) (s : Flows) (x : ℤ) (full : Bool) → ((a : ℕ) (e : Edge) → HasEdge n a e → IsTrue (plays r k e) → Admits s x full e)
    ↔ (((a : ℕ) (e : Edge) → HasEdge n a e → IsTrue (plays r k e) → (pos 0 ≤ℤ x) × (x ≤ℤ cap_in s e))
    × (IsTrue full → (a : ℕ) (e : Edge) → HasEdge n a e → IsTrue (plays r k e) → x ≡ cap_in s e))
admits_apart n r k s x full = (
  λ f. (λ a e h t. let g = f a e h t in (g.0, g.1), λ u a e h t. (f a e h t).2 u),
  λ g a e h t. let l = g.0 a e h t in (l.0, l.1, λ u. g.1 u a e h t),
)
