-- Where all caps are equal, an edge that is full has a flow at least that of each other edge.
use Rattle.std.proofs.Common.{◌≡◌, ℕ, ◌<◌, ◌*◌, ◌≤ℤ◌, pos, ◌⊎◌, inl, inr, length, get_or, sym, subst, ap, ◌∙◌}
use Rattle.std.proofs.lemmas.Option.{slice_get_within, get_or_from_slice_get}
use Rattle.std.proofs.lemmas.List.Elements.{All-get_or}
use Rattle.bt_net.specs.declared.network.Edge.{Edge}
use Rattle.bt_net.specs.Network.{Network}
use Rattle.bt_flow.specs.States.{Flows, flow_at, cap_in}
use Rattle.bt_flow.specs.Steady.{HasEdge, IsFull, KeepsRange, IsSteady}
use Rattle.bt_flow.specs.EqualCaps.{HasEqualCaps, IsEvenlySteady, EqualCapsEven}

module _ (n : Network) (equal : HasEqualCaps n) (s : Flows) where
  cap_is : (a : ℕ) (e : Edge) → HasEdge n a e → e.cap ≡ equal.0
  cap_is a e h =
      let at : get_or n.edges a e ≡ e = get_or_from_slice_get n.edges a e e h in
      subst (λ x. x.cap ≡ equal.0) at (All-get_or (λ x. x.cap ≡ equal.0) n.edges a e (slice_get_within n.edges a e h) equal.1)

  -- a full edge has a flow at least that of any other edge
  even : ((a : ℕ) → a < length n.edges → KeepsRange n s a) → (a b : ℕ) (e f : Edge) → HasEdge n a e → HasEdge n b f
      → (flow_at s b ≤ℤ flow_at s a) ⊎ IsFull s a e → flow_at s b ≤ℤ flow_at s a
  even range a b e f h g x = elim x [
    | inl l ↦ l
    | inr full ↦
        let most : flow_at s b ≤ℤ cap_in s f = (range b (slice_get_within n.edges b f g) f g).1 in
        let same : cap_in s f ≡ flow_at s a = ap (λ c. pos (c * s.denominator)) (cap_is b f g ∙ sym (cap_is a e h)) ∙ sym full in
        subst (λ z. flow_at s b ≤ℤ z) same most
  ]

  from_nine : IsSteady n s → IsEvenlySteady n s
  from_nine h = record {
    range = h.range;
    conserve = h.conserve;
    even_out = λ a l k b e f x y o p q none m. even h.range a b e f x y (h.even_out a l k b e f x y o p q none m);
    even_in = λ a l k b e f x y o p q none m. even h.range a b e f x y (h.even_in a l k b e f x y o p q none m);
    prior_out = h.prior_out;
    prior_in = h.prior_in;
    backing = h.backing;
    input = h.input;
    output = h.output;
  }

to_nine : (n : Network) (s : Flows) → IsEvenlySteady n s → IsSteady n s
to_nine n s h = record {
  range = h.range;
  conserve = h.conserve;
  even_out = λ a l k b e f x y o p q none m. inl (h.even_out a l k b e f x y o p q none m);
  even_in = λ a l k b e f x y o p q none m. inl (h.even_in a l k b e f x y o p q none m);
  prior_out = h.prior_out;
  prior_in = h.prior_in;
  backing = h.backing;
  input = h.input;
  output = h.output;
}

pub equal_caps_even : EqualCapsEven
equal_caps_even n equal s = (from_nine n equal s, to_nine n s)
