-- The laws of splitters at one edge, from what holds at the ports of its splitter.
use Rattle.std.proofs.Common.{◌≡◌, ◌≢◌, ℕ, ◌<◌, ◌==◌, ◌≤ℤ◌, ◌⊎◌, Bool, true, false, IsTrue, ◌↔◌, inl, inr, List, length, get_or, slice_get, Option, Some, None, sym, subst, refl, ap, ◌∙◌}
use Rattle.std.proofs.Math.Bool.{not}
use Rattle.std.specs.List.{AllByRecursion}
use Rattle.std.specs.Int.Signed.{≤ℤ_refl}
use Rattle.std.proofs.lemmas.Bool.{false≢true, eqb-true, eq-eqb, cases_eq}
use Rattle.std.proofs.lemmas.Option.{slice_get-get_or, get_or_from_slice_get}
use Rattle.bt_net.specs.declared.network.Edge.{Edge}
use Rattle.bt_net.specs.declared.network.Start.TheVariants as from
use Rattle.bt_net.specs.declared.network.Target.TheVariants as to
use Rattle.bt_net.specs.Network.{Network, TakesEvenly, give_of, take_of, merges_any, leaves, enters}
use Rattle.bt_flow.specs.declared.ports.Port.{Port}
use Rattle.bt_flow.specs.declared.ports.Role.{Role}
use Rattle.bt_flow.specs.declared.ports.Role.TheVariants.{FromInput, ToOutput, OutOf, Into}
use Rattle.bt_flow.specs.Ports.{numbers_of, plays, IsPort}
use Rattle.bt_flow.specs.States.{Flows, flow_at, backed_at, cap_in}
use Rattle.bt_flow.specs.Steady.{HasEdge, IsFull, IsEmpty, Backs}
use Rattle.bt_flow.specs.inner.AtPorts.{Rests, SharesAt, IsEmptyBeside, ComesFirstAt}
use Rattle.bt_flow.proofs.Decided.{same_or}
use Rattle.bt_flow.proofs.Each.{each, each_with}

pub leaves-split : (e : Edge) (k m : ℕ) → e.start ≡ from.Split k → leaves m e ≡ (k == m)
leaves-split e k m h = ap (λ t. leaves m (record { start = t; target = e.target; cap = e.cap })) h

pub leaves-input : (e : Edge) (i m : ℕ) → e.start ≡ from.Input i → leaves m e ≡ false
leaves-input e i m h = ap (λ t. leaves m (record { start = t; target = e.target; cap = e.cap })) h

pub enters-split : (e : Edge) (k m : ℕ) → e.target ≡ to.Split k → enters m e ≡ (k == m)
enters-split e k m h = ap (λ t. enters m (record { start = e.start; target = t; cap = e.cap })) h

pub enters-output : (e : Edge) (o m : ℕ) → e.target ≡ to.Output o → enters m e ≡ false
enters-output e o m h = ap (λ t. enters m (record { start = e.start; target = t; cap = e.cap })) h

-- the edge that a splitter prefers among its out edges or its in edges, where it prefers one
abbrev pub preferred_of : Network → Role → ℕ → Option ℕ
preferred_of n FromInput k = None
preferred_of n ToOutput k = None
preferred_of n OutOf k = give_of n k
preferred_of n Into k = take_of n k

-- none is preferred there, and the splitter may not prefer any
abbrev pub IsEven : Network → Role → ℕ → Type 0
IsEven n FromInput k = preferred_of n FromInput k ≡ None
IsEven n ToOutput k = preferred_of n ToOutput k ≡ None
IsEven n OutOf k = give_of n k ≡ None
IsEven n Into k = TakesEvenly n k

even_none : (n : Network) (r : Role) (k : ℕ) → IsEven n r k → preferred_of n r k ≡ None
even_none n FromInput k even = even
even_none n ToOutput k even = even
even_none n OutOf k even = even
even_none n Into k even = even.0

-- where none is preferred there, an edge without the mark has a flow at least that of each other edge with the same
-- role at its splitter, or is full
abbrev Evens : Network → Flows → Role → Bool → ℕ → Type 0
Evens n s r mark a = (k b : ℕ) (e f : Edge) → HasEdge n a e → HasEdge n b f → b ≢ a → IsTrue (plays r k e) → IsTrue (plays r k f)
    → IsEven n r k → backed_at s a ≡ not mark → (flow_at s b ≤ℤ flow_at s a) ⊎ IsFull s a e

-- where it is preferred there, an edge without the mark is full, or each other edge with the same role at its splitter
-- is empty
abbrev pub Precedes : Network → Flows → Role → Bool → ℕ → Type 0
Precedes n s r mark a = (k b : ℕ) (e f : Edge) → HasEdge n a e → HasEdge n b f → b ≢ a → IsTrue (plays r k e) → IsTrue (plays r k f)
    → preferred_of n r k ≡ Some a → backed_at s a ≡ not mark → IsEmpty s b ⊎ IsFull s a e

not_both : (m mark : Bool) → m ≡ mark → m ≡ not mark → ⊥
not_both m true e f = false≢true (sym f ∙ e)
not_both m false e f = false≢true (sym e ∙ f)

same_or_not : (m mark : Bool) → (m ≡ mark) ⊎ (m ≡ not mark)
same_or_not true true = inl refl
same_or_not true false = inr refl
same_or_not false true = inr refl
same_or_not false false = inl refl

module _ (n : Network) (s : Flows) (edges : List Edge) (a : ℕ) (d : Edge) (same : edges ≡ n.edges) (l : a < length n.edges) where
  there : HasEdge n a (get_or edges a d)
  there = subst (λ x. slice_get n.edges a ≡ Some (get_or x a d)) (sym same) (slice_get-get_or n.edges a d l)

  it_is : (e : Edge) → HasEdge n a e → get_or edges a d ≡ e
  it_is e h = ap (λ x. get_or x a d) same ∙ get_or_from_slice_get n.edges a e d h

  -- the edge doesn't have the role
  pub evens_none : (r : Role) (mark : Bool) → ((k : ℕ) → plays r k (get_or edges a d) ≡ false) → IsTrue true ↔ Evens n s r mark a
  evens_none r mark none = (
    λ t k b e f h g o p q alone m. absurd (false≢true (sym (none k) ∙ subst (λ x. IsTrue (plays r k x)) (sym (it_is e h)) p)),
    λ _. refl,
  )

  pub precedes_none : (r : Role) (mark : Bool) → ((k : ℕ) → plays r k (get_or edges a d) ≡ false) → IsTrue true ↔ Precedes n s r mark a
  precedes_none r mark none = (
    λ t k b e f h g o p q first m. absurd (false≢true (sym (none k) ∙ subst (λ x. IsTrue (plays r k x)) (sym (it_is e h)) p)),
    λ _. refl,
  )

  -- the edge has the mark, or is full, or neither
  rests_or : (mark : Bool) → ((e : Edge) → HasEdge n a e → Rests s mark a e) ⊎ ((backed_at s a ≡ not mark) × (IsFull s a (get_or edges a d) → ⊥))
  rests_or mark = elim (same_or_not (backed_at s a) mark) [
    | inl marked ↦ inl (λ e h. inl marked)
    | inr other ↦ elim (same_or (flow_at s a) (cap_in s (get_or edges a d))) [
      | inl full ↦ inl (λ e h. inr (subst (IsFull s a) (it_is e h) full))
      | inr less ↦ inr (other, less)
    ]
  ]

  module _ (r : Role) (mark : Bool) (k : ℕ) (port : Port) (has : (m : ℕ) → plays r m (get_or edges a d) ≡ (k == m)) (is_port : IsPort n r k port) where
    here : IsTrue (plays r k (get_or edges a d))
    here = has k ∙ eq-eqb k k refl

    same_splitter : (m : ℕ) (e : Edge) → HasEdge n a e → IsTrue (plays r m e) → k ≡ m
    same_splitter m e x p = eqb-true k m (sym (has m) ∙ subst (λ z. IsTrue (plays r m z)) (sym (it_is e x)) p)

    -- at its splitter it is even as the edges of the port are
    pub evens_at : (preferred_of n r k ≡ None → IsEven n r k) → (v : Bool) → IsTrue v ↔ SharesAt n s port (preferred_of n r k) mark a → IsTrue v ↔ Evens n s r mark a
    evens_at even v h =
        let ports = each n r k port is_port (λ b. flow_at s b ≤ℤ flow_at s a) in (
          λ t m b e f x y o p q is_even other.
              let at = same_splitter m e x p in
              elim (h.0 t (ap (preferred_of n r) at ∙ even_none n r m is_even)) [
                | inl rests ↦ elim (rests e x) [ inl marked ↦ absurd (not_both (backed_at s a) mark marked other) | inr full ↦ inr full ]
                | inr all ↦ inl (ports.0 all b f y (subst (λ z. IsTrue (plays r z f)) (sym at) q))
              ],
          λ g. h.1 (λ none. elim (rests_or mark) [
            | inl rests ↦ inl rests
            | inr neither ↦ inr (ports.1 (λ b f y q. elim (cases_eq b a) [
              | inl e ↦ subst (λ z. flow_at s z ≤ℤ flow_at s a) (sym e) (≤ℤ_refl (flow_at s a))
              | inr o ↦ elim (g k b (get_or edges a d) f there y o here q (even none) neither.0) [ inl l ↦ l | inr full ↦ absurd (neither.1 full) ]
            ]))
          ]),
        )

    -- and where its splitter may prefer any, nothing is asked
    pub evens_any : r ≡ Into → merges_any n k ≡ true → IsTrue true ↔ Evens n s r mark a
    evens_any into any = (
      λ t m b e f x y o p q is_even other.
          let at = same_splitter m e x p in
          let even : TakesEvenly n m = subst (λ z. IsEven n z m) into is_even in
          absurd (false≢true (sym even.1 ∙ ap (merges_any n) (sym at) ∙ any)),
      λ _. refl,
    )

    -- at its splitter it comes first as among the edges of the port
    pub precedes_at : (v : Bool) → IsTrue v ↔ ComesFirstAt n s port (preferred_of n r k) mark a → IsTrue v ↔ Precedes n s r mark a
    precedes_at v h =
        let ports = each n r k port is_port (IsEmptyBeside s a) in (
          λ t m b e f x y o p q first other.
              let at = same_splitter m e x p in
              elim (h.0 t (ap (preferred_of n r) at ∙ first)) [
                | inl rests ↦ elim (rests e x) [ inl marked ↦ absurd (not_both (backed_at s a) mark marked other) | inr full ↦ inr full ]
                | inr all ↦ elim (ports.0 all b f y (subst (λ z. IsTrue (plays r z f)) (sym at) q)) [ inl same ↦ absurd (o same) | inr empty ↦ inl empty ]
              ],
          λ g. h.1 (λ first. elim (rests_or mark) [
            | inl rests ↦ inl rests
            | inr neither ↦ inr (ports.1 (λ b f y q. elim (cases_eq b a) [
              | inl e ↦ inl e
              | inr o ↦ elim (g k b (get_or edges a d) f there y o here q first neither.0) [ inl empty ↦ inr empty | inr full ↦ absurd (neither.1 full) ]
            ]))
          ]),
        )

  pub backs_none : ((k : ℕ) → enters k (get_or edges a d) ≡ false) → IsTrue true ↔ Backs n s a
  backs_none none = (
    λ t k b e f h g p q m. absurd (false≢true (sym (none k) ∙ subst (λ x. IsTrue (enters k x)) (sym (it_is e h)) p)),
    λ _. refl,
  )

  pub backs_at : (k : ℕ) (port : Port) → ((m : ℕ) → enters m (get_or edges a d) ≡ (k == m)) → IsPort n OutOf k port → backed_at s a ≡ true
      → (v : Bool) → IsTrue v ↔ AllByRecursion (λ b. (f : Edge) → HasEdge n b f → Rests s true b f) (numbers_of port) → IsTrue v ↔ Backs n s a
  backs_at k port has is_port backed v h =
      let ports = each_with n OutOf k port is_port (Rests s true) in (
        λ t m b e f x y p q _.
            let at : k ≡ m = eqb-true k m (sym (has m) ∙ subst (λ z. IsTrue (enters m z)) (sym (it_is e x)) p) in
            ports.0 (h.0 t) b f y (subst (λ z. IsTrue (leaves z f)) (sym at) q),
        λ g. h.1 (ports.1 (λ b f y q. g k b (get_or edges a d) f there y (has k ∙ eq-eqb k k refl) q backed)),
      )
