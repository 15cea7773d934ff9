-- A steady state whose numbers are so many times as great is steady.
use Rattle.std.proofs.Common.{◌≡◌, ℕ, ◌<◌, ◌⊎◌, inl, inr, Bool, true, false, ℤ, pos, ◌+ℤ◌, ◌*ℤ◌, ◌≤ℤ◌, if◌then◌else◌, List, [], ◌∷◌, length, map, get_or, ap, sym, ◌∙◌, refl, subst, zero, suc}
use Rattle.std.proofs.Math.IntN.{zero-*ℤ}
use Rattle.bt_frac.proofs.Ring.{mul_assoc, mul_distrib_right}
use Rattle.bt_frac.proofs.Order.{mul_le}
use Rattle.bt_frac.proofs.Over.{under_positive}
use Rattle.bt_net.specs.declared.network.Edge.{Edge}
use Rattle.bt_net.specs.Network.{Network, enters, leaves}
use Rattle.bt_flow.specs.States.{Flows, IsStateOf, flow_at, load_at, room_at, cap_in}
use Rattle.bt_flow.specs.Steady.{IsFull, IsEmpty, IsSteady, sum_where}
use Rattle.bt_flow.specs.Properties.{IsAdmissible}
use Rattle.bt_flow.specs.Scaling.{scaled, IsSteadyState, ScaledIsSteady}

abbrev times : ℕ → ℤ → ℤ
times k z = z *ℤ pos k

get_times : (k : ℕ) (ws : List ℤ) (i : ℕ) → get_or (map (times k) ws) i (pos 0) ≡ times k (get_or ws i (pos 0))
get_times k [] zero = sym (zero-*ℤ (pos k))
get_times k [] (suc i) = sym (zero-*ℤ (pos k))
get_times k (w ∷ ws) zero = refl
get_times k (w ∷ ws) (suc i) = get_times k ws i

pub flow_times : (k : ℕ) (s : Flows) (a : ℕ) → flow_at (scaled k s) a ≡ flow_at s a *ℤ pos k
flow_times k s a = get_times k s.flows a

length_times : (k : ℕ) (ws : List ℤ) → length (map (times k) ws) ≡ length ws
length_times k [] = refl
length_times k (w ∷ ws) = ap suc (length_times k ws)

term_times : (k : ℕ) (b : Bool) (f : ℤ) → (if b then times k f else pos 0) ≡ times k (if b then f else pos 0)
term_times k true f = refl
term_times k false f = sym (zero-*ℤ (pos k))

sum_times : (k : ℕ) (p : Edge → Bool) (edges : List Edge) (flows : List ℤ) → sum_where p edges (map (times k) flows) ≡ times k (sum_where p edges flows)
sum_times k p [] flows = sym (zero-*ℤ (pos k))
sum_times k p (e ∷ edges) [] = sym (zero-*ℤ (pos k))
sum_times k p (e ∷ edges) (f ∷ flows) =
    ap (λ z. z +ℤ sum_where p edges (map (times k) flows)) (term_times k (p e) f) ∙ ap (λ z. times k (if p e then f else pos 0) +ℤ z) (sum_times k p edges flows)
    ∙ sym (mul_distrib_right (if p e then f else pos 0) (sum_where p edges flows) (pos k))

module _ (n : Network) (s : Flows) (k : ℕ) (some : 0 < k) (is : IsSteadyState n s) where
  flow : (a : ℕ) → flow_at (scaled k s) a ≡ times k (flow_at s a)
  flow a = flow_times k s a

  load : (i : ℕ) → load_at (scaled k s) i ≡ times k (load_at s i)
  load i = get_times k s.loads i

  room : (o : ℕ) → room_at (scaled k s) o ≡ times k (room_at s o)
  room o = get_times k s.rooms o

  cap : (e : Edge) → cap_in (scaled k s) e ≡ times k (cap_in s e)
  cap e = sym (mul_assoc (pos e.cap) (pos s.denominator) (pos k))

  none : pos 0 ≡ times k (pos 0)
  none = sym (zero-*ℤ (pos k))

  at_most : (x y x' y' : ℤ) → x' ≡ times k x → y' ≡ times k y → x ≤ℤ y → x' ≤ℤ y'
  at_most x y x' y' p q l = subst (λ t. t ≤ℤ y') (sym p) (subst (λ t. times k x ≤ℤ t) (sym q) (mul_le x y k l))

  equal : (x y x' y' : ℤ) → x' ≡ times k x → y' ≡ times k y → x ≡ y → x' ≡ y'
  equal x y x' y' p q e = p ∙ ap (times k) e ∙ sym q

  full : (a : ℕ) (e : Edge) → IsFull s a e → IsFull (scaled k s) a e
  full a e h = equal (flow_at s a) (cap_in s e) (flow_at (scaled k s) a) (cap_in (scaled k s) e) (flow a) (cap e) h

  empty : (a : ℕ) → IsEmpty s a → IsEmpty (scaled k s) a
  empty a h = equal (flow_at s a) (pos 0) (flow_at (scaled k s) a) (pos 0) (flow a) none h

  flows_at_most : (b a : ℕ) → flow_at s b ≤ℤ flow_at s a → flow_at (scaled k s) b ≤ℤ flow_at (scaled k s) a
  flows_at_most b a h = at_most (flow_at s b) (flow_at s a) (flow_at (scaled k s) b) (flow_at (scaled k s) a) (flow b) (flow a) h

  as_much : (b a : ℕ) (e : Edge) → (flow_at s b ≤ℤ flow_at s a) ⊎ IsFull s a e → (flow_at (scaled k s) b ≤ℤ flow_at (scaled k s) a) ⊎ IsFull (scaled k s) a e
  as_much b a e (inl h) = inl (flows_at_most b a h)
  as_much b a e (inr h) = inr (full a e h)

  first : (b a : ℕ) (e : Edge) → IsEmpty s b ⊎ IsFull s a e → IsEmpty (scaled k s) b ⊎ IsFull (scaled k s) a e
  first b a e (inl h) = inl (empty b h)
  first b a e (inr h) = inr (full a e h)

  state : IsStateOf n (scaled k s)
  state = record {
    positive = under_positive s.denominator k is.state.positive some;
    flows = length_times k s.flows ∙ is.state.flows;
    backed = is.state.backed;
    loads = length_times k s.loads ∙ is.state.loads;
    rooms = length_times k s.rooms ∙ is.state.rooms;
  }

  admissible : IsAdmissible n (scaled k s)
  admissible = record {
    loads = λ i l a e h p.
        let old = is.admissible.loads i l a e h p in (
          at_most (pos 0) (load_at s i) (pos 0) (load_at (scaled k s) i) none (load i) old.0,
          at_most (load_at s i) (cap_in s e) (load_at (scaled k s) i) (cap_in (scaled k s) e) (load i) (cap e) old.1,
        );
    rooms = λ o l a e h p.
        let old = is.admissible.rooms o l a e h p in (
          at_most (pos 0) (room_at s o) (pos 0) (room_at (scaled k s) o) none (room o) old.0,
          at_most (room_at s o) (cap_in s e) (room_at (scaled k s) o) (cap_in (scaled k s) e) (room o) (cap e) old.1,
        );
  }

  steady : IsSteady n (scaled k s)
  steady = record {
    range = λ a l e h.
        let old = is.steady.range a l e h in (
          at_most (pos 0) (flow_at s a) (pos 0) (flow_at (scaled k s) a) none (flow a) old.0,
          at_most (flow_at s a) (cap_in s e) (flow_at (scaled k s) a) (cap_in (scaled k s) e) (flow a) (cap e) old.1,
        );
    conserve = λ j l.
        equal (sum_where (enters j) n.edges s.flows) (sum_where (leaves j) n.edges s.flows)
        (sum_where (enters j) n.edges (map (times k) s.flows)) (sum_where (leaves j) n.edges (map (times k) s.flows))
        (sum_times k (enters j) n.edges s.flows) (sum_times k (leaves j) n.edges s.flows) (is.steady.conserve j l);
    even_out = λ a l j b e f h g apart p q none_given free. as_much b a e (is.steady.even_out a l j b e f h g apart p q none_given free);
    even_in = λ a l j b e f h g apart p q none_taken backed. as_much b a e (is.steady.even_in a l j b e f h g apart p q none_taken backed);
    prior_out = λ a l j b e f h g apart p q given free. first b a e (is.steady.prior_out a l j b e f h g apart p q given free);
    prior_in = λ a l j b e f h g apart p q taken backed. first b a e (is.steady.prior_in a l j b e f h g apart p q taken backed);
    backing = λ a l j b e f h g p q backed.
        elim (is.steady.backing a l j b e f h g p q backed) [
          | inl mark ↦ inl mark
          | inr is_full ↦ inr (full b f is_full)
        ];
    input = λ i l a e h p.
        let old = is.steady.input i l a e h p in (
          at_most (flow_at s a) (load_at s i) (flow_at (scaled k s) a) (load_at (scaled k s) i) (flow a) (load i) old.0,
          λ free. equal (flow_at s a) (load_at s i) (flow_at (scaled k s) a) (load_at (scaled k s) i) (flow a) (load i) (old.1 free),
        );
    output = λ o l a e h p.
        let old = is.steady.output o l a e h p in (
          at_most (flow_at s a) (room_at s o) (flow_at (scaled k s) a) (room_at (scaled k s) o) (flow a) (room o) old.0,
          λ backed. equal (flow_at s a) (room_at s o) (flow_at (scaled k s) a) (room_at (scaled k s) o) (flow a) (room o) (old.1 backed),
        );
  }

pub scaled_is_steady : ScaledIsSteady
scaled_is_steady n s k some is = record { state = state n s k some is; admissible = admissible n s k some is; steady = steady n s k some is }
