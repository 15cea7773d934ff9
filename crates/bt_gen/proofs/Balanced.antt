-- Butterflies are balanced: from the outputs back, a backed edge is full, so each splitter divides evenly; and from the
-- inputs on, lines of one block carry the same behind the stage that joins them.
use Rattle.std.proofs.Common.{◌≡◌, ℕ, zero, suc, ◌+◌, ◌*◌, ◌/◌, ◌%◌, ◌^◌, ◌<◌, ◌≤◌, ◌⊎◌, inl, inr, Bool, true, false, IsTrue, ℤ, pos, ◌+ℤ◌, ◌≤ℤ◌, slice_get, Some, ap, sym, ◌∙◌, refl, subst, arith, mul-le-mul_right, div-add-mod'}
use Rattle.std.specs.Prelude.{◌-◌}
use Rattle.std.proofs.lemmas.Bool.{cases_lt, eq-eqb}
use Rattle.std.proofs.lemmas.Int.{ints}
use Rattle.std.proofs.lemmas.Nat.{mod_below, pow_pos, div-mul-add}
use Rattle.std.proofs.lemmas.Option.{slice_get_within}
use Rattle.bt_net.specs.declared.network.Edge.{Edge}
use Rattle.bt_net.specs.Network.{IsNetwork, enters, leaves}
use Rattle.bt_net.proofs.Preference.{plain_gives}
use Rattle.bt_flow.specs.declared.property.Property.TheVariants.{Balanced}
use Rattle.bt_flow.specs.States.{Flows, IsStateOf, flow_at, backed_at, cap_in}
use Rattle.bt_flow.specs.Steady.{IsSteady, IsFull, sum_where}
use Rattle.bt_flow.specs.Properties.{Meets, HasEqualOutputs, Holds}
use Rattle.bt_gen.specs.declared.butterflies.TheConstants.{MOST_STAGES}
use Rattle.bt_gen.specs.Orders.{IsOrder}
use Rattle.bt_gen.specs.Butterfly.{number, lesser_line, greater_line, place_with_line, butterfly_edges, butterfly_net}
use Rattle.bt_gen.proofs.Lines.{double, one_place, of_lesser, of_greater}
use Rattle.bt_gen.proofs.Wired.{butterfly_is_network}
use Rattle.bt_gen.proofs.TwoFlows.{two}
use Rattle.bt_gen.proofs.Stages.{out_number, IsOut, Carries, lines_within, lesser_edge, greater_edge, lesser_at, greater_at, EndsOut, entering, leaving, ends_out, below_quotient, one_line, carried, line_below, place_below}

-- two that are at most a number, and add up to twice that number, are it
both_full : (x y u v z : ℤ) → x +ℤ y ≡ u +ℤ v → u ≡ z → v ≡ z → x ≤ℤ z → y ≤ℤ z → x ≡ z
both_full x y u v z e f g l m = omega (arith, ints, e, f, g, l, m)

swapped : (x y z : ℤ) → z ≡ y +ℤ x → z ≡ x +ℤ y
swapped x y z e = omega (arith, ints, e)

-- two equal halves of equal sums are equal
halves_same : (u v u' v' x y x' y' : ℤ) → x +ℤ y ≡ u +ℤ v → x' +ℤ y' ≡ u' +ℤ v' → u ≡ v → u' ≡ v' → x ≡ x' → y ≡ y' → u ≡ u'
halves_same u v u' v' x y x' y' a b c d e f = omega (arith, ints, a, b, c, d, e, f)

both_ways : (x y : ℤ) → x ≤ℤ y → y ≤ℤ x → x ≡ y
both_ways x y l m = omega (arith, ints, l, m)

full_at_least : (x y z : ℤ) → x ≡ z → y ≤ℤ z → y ≤ℤ x
full_at_least x y z e l = omega (arith, ints, e, l)

-- the place of a splitter among those of its stage
place_bound : (stage order half p : ℕ) → stage < order → p < half → stage * half + p < order * half
place_bound stage order half p l m = let more : stage + 1 ≤ order = omega (arith, l) in omega (arith, m, mul-le-mul_right half more)

module _ (order : ℕ) (net : IsNetwork (butterfly_net order)) (s : Flows) (state : IsStateOf (butterfly_net order) s) (meets : Meets Balanced (butterfly_net order) s)
    (steady : IsSteady (butterfly_net order) s) where
  abbrev full : ℤ
  full = pos (1 * s.denominator)

  cap_is : (e : Edge) → e.cap ≡ 1 → cap_in s e ≡ full
  cap_is e c = ap (λ k. pos (k * s.denominator)) c

  at_most : (a : ℕ) (e : Edge) → slice_get (butterfly_edges order) a ≡ Some e → e.cap ≡ 1 → flow_at s a ≤ℤ full
  at_most a e has c = subst (λ z. flow_at s a ≤ℤ z) (cap_is e c) (steady.range a (slice_get_within (butterfly_edges order) a e has) e has).1

  -- the two in edges of a splitter, by its lines
  into : (t p a b : ℕ) → t < order → p < 2 ^ (order - 1) → Carries order t (lesser_line t p) a → Carries order t (greater_line t p) b
      → sum_where (enters (number order t p)) (butterfly_edges order) s.flows ≡ flow_at s a +ℤ flow_at s b
  into t p a b l m c d =
      let k = number order t p in
      let first = entering order t (lesser_line t p) a l c in
      let second = entering order t (greater_line t p) b l d in
      let same : number order t (place_with_line t (lesser_line t p)) ≡ k = ap (number order t) (sym ((one_place t p (lesser_line t p)).0 (inl refl))) in
      let same' : number order t (place_with_line t (greater_line t p)) ≡ k = ap (number order t) (sym ((one_place t p (greater_line t p)).0 (inr refl))) in
      let enters_first = subst (λ j. IsTrue (enters j first.edge)) same first.in_to in
      let enters_second = subst (λ j. IsTrue (enters j second.edge)) same' second.in_to in
      let few = net.wired.few_in k (place_bound t order (2 ^ (order - 1)) p l m) in
      elim (cases_lt a b) [
        | inl less ↦ two (enters k) (butterfly_edges order) s.flows a b first.edge second.edge first.has enters_first second.has enters_second less few state.flows
        | inr most ↦ elim (cases_lt b a) [
          | inl less ↦ swapped (flow_at s a) (flow_at s b) (sum_where (enters k) (butterfly_edges order) s.flows)
              (two (enters k) (butterfly_edges order) s.flows b a second.edge first.edge second.has enters_second first.has enters_first less few state.flows)
          | inr least ↦
              let equal : b ≡ a = omega (arith, most, least) in
              absurd (omega (arith, one_line order t (lesser_line t p) (greater_line t p) a c (subst (Carries order t (greater_line t p)) equal d), pow_pos t))
        ]
      ]

  out_of : (t p : ℕ) → t < order → p < 2 ^ (order - 1)
      → sum_where (leaves (number order t p)) (butterfly_edges order) s.flows ≡ flow_at s (out_number order t p 0) +ℤ flow_at s (out_number order t p 1)
  out_of t p l m =
      let k = number order t p in
      two (leaves k) (butterfly_edges order) s.flows (out_number order t p 0) (out_number order t p 1) (lesser_edge order t p) (greater_edge order t p)
      (lesser_at order t p l m) (eq-eqb k k refl) (greater_at order t p l m) (eq-eqb k k refl) (omega arith)
      (net.wired.few_out k (place_bound t order (2 ^ (order - 1)) p l m)) state.flows

  conserves : (t p a b : ℕ) → t < order → p < 2 ^ (order - 1) → Carries order t (lesser_line t p) a → Carries order t (greater_line t p) b
      → flow_at s a +ℤ flow_at s b ≡ flow_at s (out_number order t p 0) +ℤ flow_at s (out_number order t p 1)
  conserves t p a b l m c d =
      sym (into t p a b l m c d) ∙ steady.conserve (number order t p) (place_bound t order (2 ^ (order - 1)) p l m) ∙ out_of t p l m

  -- what is backed or full is full, where what is backed is
  full_either : (b : ℕ) (e : Edge) → e.cap ≡ 1 → (backed_at s b ≡ true → flow_at s b ≡ full) → (backed_at s b ≡ true) ⊎ IsFull s b e → flow_at s b ≡ full
  full_either b e c h (inl backed) = h backed
  full_either b e c h (inr is) = is ∙ cap_is e c

  out_lesser : (t p : ℕ) → p < 2 ^ (order - 1) → Carries order (suc t) (lesser_line t p) (out_number order t p 0)
  out_lesser t p m = record { place = p; within = m; is = inl (refl, refl) }

  out_greater : (t p : ℕ) → p < 2 ^ (order - 1) → Carries order (suc t) (greater_line t p) (out_number order t p 1)
  out_greater t p m = record { place = p; within = m; is = inr (refl, refl) }

  -- both out edges of a splitter are full where an in edge is backed, if those that are backed are full
  outs_full : (t p a : ℕ) → t < order → p < 2 ^ (order - 1) → (e : Edge) → slice_get (butterfly_edges order) a ≡ Some e → IsTrue (enters (number order t p) e) → backed_at s a ≡ true
      → ((b : ℕ) (line : ℕ) → Carries order (suc t) line b → backed_at s b ≡ true → flow_at s b ≡ full)
      → (flow_at s (out_number order t p 0) ≡ full) × (flow_at s (out_number order t p 1) ≡ full)
  outs_full t p a l m e has in_to backed h =
      let k = number order t p in
      let back = steady.backing a (slice_get_within (butterfly_edges order) a e has) k in (
        full_either (out_number order t p 0) (lesser_edge order t p) refl (h (out_number order t p 0) (lesser_line t p) (out_lesser t p m))
            (back (out_number order t p 0) e (lesser_edge order t p) has (lesser_at order t p l m) in_to (eq-eqb k k refl) backed),
        full_either (out_number order t p 1) (greater_edge order t p) refl (h (out_number order t p 1) (greater_line t p) (out_greater t p m))
            (back (out_number order t p 1) e (greater_edge order t p) has (greater_at order t p l m) in_to (eq-eqb k k refl) backed),
      )

  most_of : (t line a : ℕ) → t < order → Carries order t line a → flow_at s a ≤ℤ full
  most_of t line a l c = let at = entering order t line a l c in at_most a at.edge at.has at.cap

  -- an edge into a splitter is full where it is backed
  into_full : (t p a : ℕ) (line : ℕ) → t < order → p < 2 ^ (order - 1) → Carries order t line a → ((line ≡ lesser_line t p) ⊎ (line ≡ greater_line t p))
      → (flow_at s (out_number order t p 0) ≡ full) × (flow_at s (out_number order t p 1) ≡ full) → flow_at s a ≡ full
  into_full t p a line l m c (inl is) outs =
      let below = lines_within t (order - (t + 1)) order p (omega (arith, l)) m in
      let other = carried order t (greater_line t p) (omega (arith, l)) below in
      both_full (flow_at s a) (flow_at s other.0) (flow_at s (out_number order t p 0)) (flow_at s (out_number order t p 1)) full
      (conserves t p a other.0 l m (subst (λ x. Carries order t x a) is c) other.1) outs.0 outs.1 (most_of t line a l c) (most_of t (greater_line t p) other.0 l other.1)
  into_full t p a line l m c (inr is) outs =
      let below = lines_within t (order - (t + 1)) order p (omega (arith, l)) m in
      let other = carried order t (lesser_line t p) (omega (arith, l)) (omega (arith, below)) in
      both_full (flow_at s a) (flow_at s other.0) (flow_at s (out_number order t p 0)) (flow_at s (out_number order t p 1)) full
      (sym (swapped (flow_at s a) (flow_at s other.0) (flow_at s (out_number order t p 0) +ℤ flow_at s (out_number order t p 1))
      (sym (conserves t p other.0 a l m other.1 (subst (λ x. Carries order t x a) is c)))))
      outs.0 outs.1 (most_of t line a l c) (most_of t (lesser_line t p) other.0 l other.1)

  -- from the outputs back, a backed edge is full
  backed_full : (n t line a : ℕ) → n + t ≡ order → Carries order t line a → 0 < order → backed_at s a ≡ true → flow_at s a ≡ full
  backed_full zero zero line a e c some backed = absurd (omega (arith, e, some))
  backed_full zero (suc t) line a e c some backed =
      let at = leaving order t line a (omega (arith, e)) c in
      (steady.output at.output at.small a at.edge at.has at.out_of).1 backed ∙ meets.rooms refl at.output at.small a at.edge at.has at.out_of ∙ cap_is at.edge at.cap
  backed_full (suc n) t line a e c some backed =
      let l : t < order = omega (arith, e) in
      let p = place_with_line t line in
      let m = place_below order t line a l c in
      let at = entering order t line a l c in
      into_full t p a line l m c ((one_place t p line).1 refl)
      (outs_full t p a l m at.edge at.has at.in_to backed (λ b line' d back. backed_full n (suc t) line' b (omega (arith, e)) d some back))

  backed_full_at : (t line a : ℕ) → t ≤ order → Carries order t line a → 0 < order → backed_at s a ≡ true → flow_at s a ≡ full
  backed_full_at t line a l c some backed = backed_full (order - t) t line a (omega (arith, l)) c some backed

  -- an out edge carries at least what the other does
  at_least : (t p a b : ℕ) (line line' : ℕ) (e f : Edge) → t < order → p < 2 ^ (order - 1) → Carries order (suc t) line a → slice_get (butterfly_edges order) a ≡ Some e
      → slice_get (butterfly_edges order) b ≡ Some f → IsTrue (leaves (number order t p) e) → IsTrue (leaves (number order t p) f) → (b ≡ a → ⊥) → e.cap ≡ 1 → f.cap ≡ 1
      → flow_at s b ≤ℤ flow_at s a
  at_least t p a b line line' e f l m c has has' of of' other cap cap' = by_mark (backed_at s a) refl
    where
      by_mark : (mark : Bool) → backed_at s a ≡ mark → flow_at s b ≤ℤ flow_at s a
      by_mark true is = full_at_least (flow_at s a) (flow_at s b) full (backed_full_at (suc t) line a (omega (arith, l)) c (omega (arith, l)) is) (at_most b f has' cap')
      by_mark false is =
          elim (steady.even_out a (slice_get_within (butterfly_edges order) a e has) (number order t p) b e f has has' other of of' (plain_gives (butterfly_net order) (record { gives = refl; takes = refl; merges = refl }) (number order t p)) is) [
            | inl most ↦ most
            | inr full_one ↦ full_at_least (flow_at s a) (flow_at s b) full (full_one ∙ cap_is e cap) (at_most b f has' cap')
          ]

  -- so each splitter divides evenly
  divides : (t p : ℕ) → t < order → p < 2 ^ (order - 1) → flow_at s (out_number order t p 0) ≡ flow_at s (out_number order t p 1)
  divides t p l m =
      let k = number order t p in
      both_ways (flow_at s (out_number order t p 0)) (flow_at s (out_number order t p 1))
      (at_least t p (out_number order t p 1) (out_number order t p 0) (greater_line t p) (lesser_line t p) (greater_edge order t p) (lesser_edge order t p) l m (out_greater t p m)
      (greater_at order t p l m) (lesser_at order t p l m) (eq-eqb k k refl) (eq-eqb k k refl) (λ same. omega (arith, same)) refl refl)
      (at_least t p (out_number order t p 0) (out_number order t p 1) (lesser_line t p) (greater_line t p) (lesser_edge order t p) (greater_edge order t p) l m (out_lesser t p m)
      (lesser_at order t p l m) (greater_at order t p l m) (eq-eqb k k refl) (eq-eqb k k refl) (λ same. omega (arith, same)) refl refl)

  -- lines of one block carry the same into a stage
  abbrev AreSame : ℕ → Type 0
  AreSame t = (line line' a b : ℕ) → Carries order t line a → Carries order t line' b → line / 2 ^ t ≡ line' / 2 ^ t → flow_at s a ≡ flow_at s b

  by_one : (n : ℕ) → n / 2 ^ 0 ≡ n
  by_one n = let e = div-add-mod' n 1 in omega (arith, e, mod_below n 1 (omega arith))

  -- the block of a splitter's line is that of the splitter
  block_of : (t p line : ℕ) → ((line ≡ lesser_line t p) ⊎ (line ≡ greater_line t p)) → line / 2 ^ (t + 1) ≡ p / 2 ^ t
  block_of t p line is = ap (λ q. line / q) (double t) ∙ at_double is
    where
      at_double : ((line ≡ lesser_line t p) ⊎ (line ≡ greater_line t p)) → line / (2 ^ t + 2 ^ t) ≡ p / 2 ^ t
      at_double (inl e) = ap (λ x. x / (2 ^ t + 2 ^ t)) (e ∙ ap (λ q. p / 2 ^ t * q + p % 2 ^ t) (double t)) ∙ (of_lesser (2 ^ t) (pow_pos t) (p / 2 ^ t) (p % 2 ^ t) (mod_below p (2 ^ t) (pow_pos t))).0
      at_double (inr e) = ap (λ x. x / (2 ^ t + 2 ^ t)) (e ∙ ap (λ q. p / 2 ^ t * q + p % 2 ^ t + 2 ^ t) (double t)) ∙ (of_greater (2 ^ t) (pow_pos t) (p / 2 ^ t) (p % 2 ^ t) (mod_below p (2 ^ t) (pow_pos t))).0

  -- splitters of one block have lines of one block each
  quotient_of : (w q r : ℕ) → 0 < w → r < w → (q * (w + w) + r) / w ≡ q + q
  quotient_of w q r positive small = let e : q * (w + w) + r ≡ (q + q) * w + r = omega arith in ap (λ x. x / w) e ∙ div-mul-add (q + q) w r small

  quotient_above : (w q r : ℕ) → 0 < w → r < w → (q * (w + w) + r + w) / w ≡ q + q + 1
  quotient_above w q r positive small = let e : q * (w + w) + r + w ≡ (q + q + 1) * w + r = omega arith in ap (λ x. x / w) e ∙ div-mul-add (q + q + 1) w r small

  lesser_block : (t p : ℕ) → lesser_line t p / 2 ^ t ≡ p / 2 ^ t + p / 2 ^ t
  lesser_block t p = ap (λ q. (p / 2 ^ t * q + p % 2 ^ t) / 2 ^ t) (double t) ∙ quotient_of (2 ^ t) (p / 2 ^ t) (p % 2 ^ t) (pow_pos t) (mod_below p (2 ^ t) (pow_pos t))

  greater_block : (t p : ℕ) → greater_line t p / 2 ^ t ≡ p / 2 ^ t + p / 2 ^ t + 1
  greater_block t p = ap (λ q. (p / 2 ^ t * q + p % 2 ^ t + 2 ^ t) / 2 ^ t) (double t) ∙ quotient_above (2 ^ t) (p / 2 ^ t) (p % 2 ^ t) (pow_pos t) (mod_below p (2 ^ t) (pow_pos t))

  -- the out flows of two splitters of one block are equal, where their in flows are
  outs_same : (t p p' : ℕ) → t < order → p < 2 ^ (order - 1) → p' < 2 ^ (order - 1) → AreSame t → p / 2 ^ t ≡ p' / 2 ^ t → flow_at s (out_number order t p 0) ≡ flow_at s (out_number order t p' 0)
  outs_same t p p' l m m' h same =
      let below = lines_within t (order - (t + 1)) order p (omega (arith, l)) m in
      let below' = lines_within t (order - (t + 1)) order p' (omega (arith, l)) m' in
      let x = carried order t (lesser_line t p) (omega (arith, l)) (omega (arith, below)) in
      let y = carried order t (greater_line t p) (omega (arith, l)) below in
      let x' = carried order t (lesser_line t p') (omega (arith, l)) (omega (arith, below')) in
      let y' = carried order t (greater_line t p') (omega (arith, l)) below' in
      halves_same (flow_at s (out_number order t p 0)) (flow_at s (out_number order t p 1)) (flow_at s (out_number order t p' 0)) (flow_at s (out_number order t p' 1))
      (flow_at s x.0) (flow_at s y.0) (flow_at s x'.0) (flow_at s y'.0)
      (conserves t p x.0 y.0 l m x.1 y.1) (conserves t p' x'.0 y'.0 l m' x'.1 y'.1) (divides t p l m) (divides t p' l m')
      (h (lesser_line t p) (lesser_line t p') x.0 x'.0 x.1 x'.1 (lesser_block t p ∙ ap (λ q. q + q) same ∙ sym (lesser_block t p')))
      (h (greater_line t p) (greater_line t p') y.0 y'.0 y.1 y'.1 (greater_block t p ∙ ap (λ q. q + q + 1) same ∙ sym (greater_block t p')))

  -- an out edge carries what its splitter's lesser one does
  as_lesser : (t line a : ℕ) → t < order → (c : IsOut order t line a) → flow_at s a ≡ flow_at s (out_number order t c.place 0)
  as_lesser t line a l c =
      elim c.is [
        | inl at ↦ ap (flow_at s) at.1
        | inr at ↦ ap (flow_at s) at.1 ∙ sym (divides t c.place l c.within)
      ]

  has_line : (t line a : ℕ) (c : IsOut order t line a) → (line ≡ lesser_line t c.place) ⊎ (line ≡ greater_line t c.place)
  has_line t line a c = elim c.is [ inl at ↦ inl at.0 | inr at ↦ inr at.0 ]

  are_same : (t : ℕ) → t ≤ order → AreSame t
  are_same zero l line line' a b c d same = ap (flow_at s) (c.0 ∙ sym (by_one line) ∙ same ∙ by_one line' ∙ sym d.0)
  are_same (suc t) l line line' a b c d same =
      let m : t < order = omega (arith, l) in
      let next : suc t ≡ t + 1 = omega arith in
      let block : c.place / 2 ^ t ≡ d.place / 2 ^ t =
      sym (block_of t c.place line (has_line t line a c)) ∙ ap (λ k. line / 2 ^ k) (sym next) ∙ same ∙ ap (λ k. line' / 2 ^ k) next ∙ block_of t d.place line' (has_line t line' b d) in
      as_lesser t line a m c ∙ outs_same t c.place d.place m c.within d.within (are_same t (omega (arith, l))) block ∙ sym (as_lesser t line' b m d)

  one_block : (t line : ℕ) → line < 2 ^ t → line / 2 ^ t ≡ 0
  one_block t line small = omega (arith, below_quotient (2 ^ t) 1 line (omega (arith, small)))

  ends_same : (a b : ℕ) → EndsOut order a → EndsOut order b → flow_at s a ≡ flow_at s b
  ends_same a b c d =
      let t = c.stage in
      let stages : d.stage ≡ t = omega (arith, c.last, d.last) in
      let first : Carries order (suc t) c.line a = c.is in
      let second : Carries order (suc t) d.line b = subst (λ k. IsOut order k d.line b) stages d.is in
      let most : suc t ≤ order = omega (arith, c.last) in
      let whole : order ≡ suc t = omega (arith, c.last) in
      let small = subst (λ k. c.line < 2 ^ k) whole (line_below order (suc t) c.line a most first) in
      let small' = subst (λ k. d.line < 2 ^ k) whole (line_below order (suc t) d.line b most second) in
      are_same (suc t) most c.line d.line a b first second (one_block (suc t) c.line small ∙ sym (one_block (suc t) d.line small'))

  pub equal_outputs : HasEqualOutputs (butterfly_net order) s
  equal_outputs o p a b e f has has' out out' = ends_same a b (ends_out order a o e has out) (ends_out order b p f has' out')

-- each butterfly is balanced
pub butterfly_is_balanced : (order : ℕ) → IsOrder MOST_STAGES order → Holds (butterfly_net order) Balanced
butterfly_is_balanced order within s state admissible meets steady = equal_outputs order (butterfly_is_network order within) s state meets steady
