-- What a network keeps when an output leads back to an input.
use Rattle.std.proofs.Common.{◌≡◌, ℕ, zero, suc, ◌*◌, ◌<◌, ◌⊎◌, inl, inr, Bool, true, false, IsTrue, get_or, ℤ, pos, ◌+ℤ◌, ◌≤ℤ◌, ap, sym, ◌∙◌, refl, subst, arith}
use Rattle.std.proofs.lemmas.Int.{ints}
use Rattle.std.proofs.lemmas.Bool.{false≢true}
use Rattle.std.proofs.lemmas.Option.{slice_get_within, get_or_from_slice_get, slice_get-get_or}
use Rattle.std.proofs.lemmas.List.Elements.{All-get_or, All-from_get_or}
use Rattle.bt_net.specs.declared.network.Edge.{Edge}
use Rattle.bt_net.specs.Network.{Network, HasNoPriorities, is_input, is_output}
use Rattle.bt_flow.specs.declared.property.Property.TheVariants.{Balanced, DrawnEvenly, Unlimited}
use Rattle.bt_flow.specs.declared.ports.Role.TheVariants as role
use Rattle.bt_flow.specs.States.{Flows, IsStateOf, flow_at, load_at, room_at, cap_in}
use Rattle.bt_flow.specs.Steady.{HasEdge, IsSteady, sum_where}
use Rattle.bt_flow.specs.Properties.{Holds, HasEqualInputs, HasEqualOutputs, IsAdmissible, IsLesser, IsLoaded, IsOpen, Meets, PassesAll, is_last, total}
use Rattle.bt_flow.proofs.Numbers.{within}
use Rattle.bt_flow_formula.proofs.Breaking.{outputs_at_most_loads, outputs_at_most_rooms}
use Rattle.bt_gen.specs.Loops.{LeadsBack, IsPlain, UnlimitedIsKept, BalancedIsKept, DrawnEvenlyIsKept, moved}
use Rattle.bt_gen.proofs.Put.{total_put}
use Rattle.bt_gen.proofs.Cut as cut
use Rattle.bt_gen.proofs.Cut.{FromInput, new_input, old_input, from_input, ToOutput, new_output, old_output, to_output, input_goes, output_goes}
use Rattle.bt_gen.proofs.Steady.{cut_state, is_state, is_steady, is_admissible, loop_flow, loop_backed, loop_cap, loop_range, new_load, new_room, sum_last, load_new, load_old, room_new, room_old, flow_old, input_below, output_below}
use Rattle.bt_gen.proofs.Sums.{all_flow_in, all_flow_out}

-- a cap of 1
unit : (cap d : ℕ) → cap ≡ 1 → pos (cap * d) ≡ pos d
unit cap d e = ap (λ k. pos (k * d)) e ∙ ap (λ k. pos k) (let z : 1 * d ≡ d = omega arith in z)

-- where the edge is free or backed, what the outputs carry is the lesser of loads and rooms
lesser : (b : Bool) (f cap t l r : ℤ) → f ≤ℤ cap → t ≤ℤ l → t ≤ℤ r → IsLesser (f +ℤ t) (new_load b f cap +ℤ l) (new_room b f cap +ℤ r) → IsLesser t l r
lesser true f cap t l r m a b (inl h) = inl (let e = h.0 in omega (arith, ints, e, m, a), let e = h.0 in omega (arith, ints, e, m, a, b))
lesser true f cap t l r m a b (inr h) = inr (let e = h.0 in omega (arith, ints, e), let e = h.0 in omega (arith, ints, e, a))
lesser false f cap t l r m a b (inl h) = inl (let e = h.0 in omega (arith, ints, e), let e = h.0 in omega (arith, ints, e, b))
lesser false f cap t l r m a b (inr h) = inr (let e = h.0 in omega (arith, ints, e, m, b), let e = h.0 in omega (arith, ints, e, m, a, b))

-- then the output that is put in is open, or all rooms are filled
open_or : (b : Bool) (f cap t l r : ℤ) → f ≤ℤ cap → t ≤ℤ l → IsLesser (f +ℤ t) (new_load b f cap +ℤ l) (new_room b f cap +ℤ r) → (new_room b f cap ≡ cap) ⊎ (r ≤ℤ t)
open_or true f cap t l r m a (inl h) = inl (let e = h.0 in omega (arith, ints, e, m, a))
open_or true f cap t l r m a (inr h) = inr (let e = h.0 in omega (arith, ints, e))
open_or false f cap t l r m a h = inl refl

-- and the input that is put in is loaded, or all loads come in
loaded_or : (b : Bool) (f cap t l r : ℤ) → f ≤ℤ cap → t ≤ℤ r → IsLesser (f +ℤ t) (new_load b f cap +ℤ l) (new_room b f cap +ℤ r) → (new_load b f cap ≡ cap) ⊎ (l ≤ℤ t)
loaded_or true f cap t l r m a h = inl refl
loaded_or false f cap t l r m a (inl h) = inr (let e = h.0 in omega (arith, ints, e))
loaded_or false f cap t l r m a (inr h) = inl (let e = h.0 in omega (arith, ints, e, m, a))

module _ (x y : Network) (c : LeadsBack x y) (plain : HasNoPriorities x) (limits : Holds x Unlimited) where
  module _ (s : Flows) (state : IsStateOf y s) (admits : IsAdmissible y s) (steady : IsSteady y s) where
    abbrev there : Flows
    there = cut_state x y c s state

    abbrev flow : ℤ
    flow = loop_flow x y c s state

    abbrev cap : ℤ
    cap = loop_cap x y c s state

    abbrev backed : Bool
    backed = loop_backed x y c s state

    abbrev carried : ℤ
    carried = sum_where is_last y.edges s.flows

    same_lesser : (u v w l m n : ℤ) → u ≡ l → v ≡ m → w ≡ n → IsLesser u v w → IsLesser l m n
    same_lesser u v w l m n p q r (inl h) = inl (let e = h.0 in omega (arith, ints, p, q, e), let e = h.1 in omega (arith, ints, q, r, e))
    same_lesser u v w l m n p q r (inr h) = inr (let e = h.0 in omega (arith, ints, p, r, e), let e = h.1 in omega (arith, ints, q, r, e))

    -- where it is cut all passes
    passes : IsLesser (flow +ℤ carried) (new_load backed flow cap +ℤ total s.loads) (new_room backed flow cap +ℤ total s.rooms)
    passes =
        same_lesser (sum_where is_last x.edges there.flows) (total there.loads) (total there.rooms) (flow +ℤ carried) (new_load backed flow cap +ℤ total s.loads) (new_room backed flow cap +ℤ total s.rooms)
        (sum_last x y c s state plain steady) (total_put c.input (new_load backed flow cap) s.loads) (total_put c.output (new_room backed flow cap) s.rooms)
        (limits there (is_state x y c s state) (is_admissible x y c s state plain steady admits) (record { loads = λ t. absurd (false≢true t); rooms = λ t. absurd (false≢true t) })
        (is_steady x y c s state plain steady))

    less_in : carried ≤ℤ total s.loads
    less_in = outputs_at_most_loads y c.network s state steady

    less_out : carried ≤ℤ total s.rooms
    less_out = outputs_at_most_rooms y c.network s state steady

    flow_fits : flow ≤ℤ cap
    flow_fits = (loop_range x y c s state plain steady).1

    pub passes_all : PassesAll y s
    passes_all = lesser backed flow cap carried (total s.loads) (total s.rooms) flow_fits less_in less_out passes

    module _ (one : (a : ℕ) (e : Edge) → HasEdge y a e → e.cap ≡ 1) where
      -- outputs of which the edges are open where it is cut carry the same
      same_out : Holds x Balanced → Meets Balanced y s → new_room backed flow cap ≡ cap → HasEqualOutputs y s
      same_out balanced meets full = λ o p a b e f h g t u.
          let first = output_goes x y c o a e h t in
          let second = output_goes x y c p b f g u in
          let same = balanced there (is_state x y c s state) (is_admissible x y c s state plain steady admits)
          (record { loads = λ z. absurd (false≢true z); rooms = λ z j l. opened j l })
          (is_steady x y c s state plain steady) (moved c.output o) (moved c.output p) (moved c.place a) (moved c.place b) first.0 second.0 first.1 second.1 first.2 second.2 in
          sym (flow_old x y c s state a) ∙ same ∙ flow_old x y c s state b
        where
          opened : (j : ℕ) → j < x.outputs → IsOpen x there j
          opened j l n e h t = by_kind (to_output x y c j n e h t)
            where
              by_kind : ToOutput x y c j n e → room_at there j ≡ cap_in there e
              by_kind (new_output p q r) = ap (λ z. room_at there z) p ∙ room_new x y c s state ∙ full ∙ sym (ap (λ z. pos (z.cap * s.denominator)) r)
              by_kind (old_output o m d p q k r w) =
                  ap (λ z. room_at there z) p ∙ room_old x y c s state o ∙ meets.rooms refl o (output_below x y c s state plain steady j o l p) m d k r ∙ ap (λ z. pos (z * s.denominator)) (sym w)

      -- outputs of which the rooms are filled too
      filled_out : Meets Balanced y s → total s.rooms ≤ℤ carried → HasEqualOutputs y s
      filled_out meets full = λ o p a b e f h g t u. filled o a e h t ∙ sym (filled p b f g u)
        where
          filled : (o a : ℕ) (e : Edge) → HasEdge y a e → IsTrue (is_output o e) → flow_at s a ≡ pos s.denominator
          filled o a e h t =
              let l = within y role.ToOutput c.network a o e (slice_get_within y.edges a e h) (ap (is_output o) (get_or_from_slice_get y.edges a e e h) ∙ t) in
              let room : room_at s o ≡ cap_in s e = meets.rooms refl o l a e h t in
              let k : cap_in s e ≡ pos s.denominator = unit e.cap s.denominator (one a e h) in
              let least = all_flow_out y c.network s state steady full o l a e h t in
              let most = (steady.output o l a e h t).0 in
              omega (arith, ints, room, k, least, most)

      pub outputs_equal : Holds x Balanced → Meets Balanced y s → HasEqualOutputs y s
      outputs_equal balanced meets =
          elim (open_or backed flow cap carried (total s.loads) (total s.rooms) flow_fits less_in passes) [ inl full ↦ same_out balanced meets full | inr full ↦ filled_out meets full ]

      -- inputs that are loaded where it is cut give the same
      same_in : Holds x DrawnEvenly → Meets DrawnEvenly y s → new_load backed flow cap ≡ cap → HasEqualInputs y s
      same_in drawn meets full = λ i j a b e f h g t u.
          let first = input_goes x y c i a e h t in
          let second = input_goes x y c j b f g u in
          let same = drawn there (is_state x y c s state) (is_admissible x y c s state plain steady admits)
          (record { loads = λ z k l. loaded k l; rooms = λ z. absurd (false≢true z) })
          (is_steady x y c s state plain steady) (moved c.input i) (moved c.input j) (moved c.place a) (moved c.place b) first.0 second.0 first.1 second.1 first.2 second.2 in
          sym (flow_old x y c s state a) ∙ same ∙ flow_old x y c s state b
        where
          loaded : (j : ℕ) → j < x.inputs → IsLoaded x there j
          loaded j l n e h t = by_kind (from_input x y c j n e h t)
            where
              by_kind : FromInput x y c j n e → load_at there j ≡ cap_in there e
              by_kind (new_input p q r) = ap (λ z. load_at there z) p ∙ load_new x y c s state ∙ full ∙ sym (ap (λ z. pos (z.cap * s.denominator)) r)
              by_kind (old_input i m d p q k r w) =
                  ap (λ z. load_at there z) p ∙ load_old x y c s state i ∙ meets.loads refl i (input_below x y c s state plain steady j i l p) m d k r ∙ ap (λ z. pos (z * s.denominator)) (sym w)

      -- inputs of which the loads come in too
      filled_in : Meets DrawnEvenly y s → total s.loads ≤ℤ carried → HasEqualInputs y s
      filled_in meets full = λ i j a b e f h g t u. filled i a e h t ∙ sym (filled j b f g u)
        where
          filled : (i a : ℕ) (e : Edge) → HasEdge y a e → IsTrue (is_input i e) → flow_at s a ≡ pos s.denominator
          filled i a e h t =
              let l = within y role.FromInput c.network a i e (slice_get_within y.edges a e h) (ap (is_input i) (get_or_from_slice_get y.edges a e e h) ∙ t) in
              let load : load_at s i ≡ cap_in s e = meets.loads refl i l a e h t in
              let k : cap_in s e ≡ pos s.denominator = unit e.cap s.denominator (one a e h) in
              let least = all_flow_in y c.network s state steady full i l a e h t in
              let most = (steady.input i l a e h t).0 in
              omega (arith, ints, load, k, least, most)

      pub inputs_equal : Holds x DrawnEvenly → Meets DrawnEvenly y s → HasEqualInputs y s
      inputs_equal drawn meets =
          elim (loaded_or backed flow cap carried (total s.loads) (total s.rooms) flow_fits less_out passes) [ inl full ↦ same_in drawn meets full | inr full ↦ filled_in meets full ]

-- ---- one after another

-- each edge of a plain network has the cap 1
caps_at : (n : Network) → IsPlain n → (a : ℕ) (e : Edge) → HasEdge n a e → e.cap ≡ 1
caps_at n is a e h = subst (λ z. z.cap ≡ 1) (get_or_from_slice_get n.edges a e e h) (All-get_or (λ z. z.cap ≡ 1) n.edges a e (slice_get_within n.edges a e h) is.caps)

-- what leads back is plain too
led_caps : (x y : Network) (c : LeadsBack x y) → IsPlain x → (a : ℕ) (e : Edge) → HasEdge y a e → e.cap ≡ 1
led_caps x y c is a e h = by_kind (cut.goes x y c a e h)
  where
    by_kind : cut.Goes x y c a e → e.cap ≡ 1
    by_kind (cut.is_cut p q k) = ap (λ z. z.cap) q ∙ caps_at x is (moved c.place a) (cut.cut_entry x y c) k
    by_kind (cut.is_kept k) = caps_at x is (moved c.place a) (cut.g x y c e) k

led_plain : (x y : Network) (c : LeadsBack x y) → IsPlain x → IsPlain y
led_plain x y c is = record {
  caps = All-from_get_or (λ z. z.cap ≡ 1) y.edges c.joined (λ i l. led_caps x y c is i (get_or y.edges i c.joined) (slice_get-get_or y.edges i c.joined l));
  plain = c.plain;
}

once_unlimited : (x y : Network) → LeadsBack x y → IsPlain x → Holds x Unlimited → Holds y Unlimited
once_unlimited x y c is limits s state admits meets steady = passes_all x y c is.plain limits s state admits steady

once_balanced : (x y : Network) → LeadsBack x y → IsPlain x → Holds x Unlimited → Holds x Balanced → Holds y Balanced
once_balanced x y c is limits balanced s state admits meets steady = outputs_equal x y c is.plain limits s state admits steady (led_caps x y c is) balanced meets

once_drawn : (x y : Network) → LeadsBack x y → IsPlain x → Holds x Unlimited → Holds x DrawnEvenly → Holds y DrawnEvenly
once_drawn x y c is limits drawn s state admits meets steady = inputs_equal x y c is.plain limits s state admits steady (led_caps x y c is) drawn meets

pub unlimited_kept : UnlimitedIsKept
unlimited_kept zero x y is led limits = subst (λ n. Holds n Unlimited) led limits
unlimited_kept (suc count) x y is (z, c, led) limits = unlimited_kept count z y (led_plain x z c is) led (once_unlimited x z c is limits)

pub balanced_kept : BalancedIsKept
balanced_kept zero x y is led limits balanced = subst (λ n. Holds n Balanced) led balanced
balanced_kept (suc count) x y is (z, c, led) limits balanced =
    balanced_kept count z y (led_plain x z c is) led (once_unlimited x z c is limits) (once_balanced x z c is limits balanced)

pub drawn_evenly_kept : DrawnEvenlyIsKept
drawn_evenly_kept zero x y is led limits drawn = subst (λ n. Holds n DrawnEvenly) led drawn
drawn_evenly_kept (suc count) x y is (z, c, led) limits drawn =
    drawn_evenly_kept count z y (led_plain x z c is) led (once_unlimited x z c is limits) (once_drawn x z c is limits drawn)
