-- A steady state of a network in which an output leads back to an input is one of the network that is cut there.
use Rattle.std.proofs.Common.{◌≡◌, ◌≢◌, ℕ, suc, ◌*◌, ◌<◌, ◌≤◌, ◌⊎◌, inl, inr, Bool, true, false, IsTrue, ◌∷◌, ◌++◌, length, Option, Some, None, ℤ, pos, ◌+ℤ◌, ◌≤ℤ◌, cond, ap, sym, ◌∙◌, refl, subst, arith}
use Rattle.std.proofs.lemmas.Int.{ints}
use Rattle.std.proofs.lemmas.Bool.{false≢true}
use Rattle.std.proofs.lemmas.Option.{slice_get_within}
use Rattle.bt_net.specs.declared.network.Edge.{Edge}
use Rattle.bt_net.specs.Network.{Network, HasNoPriorities, give_of, take_of, leaves, enters}
use Rattle.bt_net.proofs.Preference.{plain_gives, plain_takes, plain_merges}
use Rattle.bt_flow.specs.States.{Flows, IsStateOf, flow_at, backed_at, load_at, room_at, cap_in}
use Rattle.bt_flow.specs.Steady.{HasEdge, IsFull, IsSteady, KeepsRange, Conserves, EvensOut, EvensIn, Backs, FeedsInput, FillsOutput, sum_where}
use Rattle.bt_flow.specs.Properties.{AdmitsLoad, AdmitsRoom, IsAdmissible, is_last}
use Rattle.bt_gen.specs.Loops.{LeadsBack, moved, put_in}
use Rattle.bt_gen.proofs.Put.{put_length, put_at, put_moved, moved_below, sum_put}
use Rattle.bt_gen.proofs.Replaced.{replaced_sum}
use Rattle.bt_gen.proofs.Moved as ends
use Rattle.bt_gen.proofs.Cut.{g, cut_entry, cut_exit, loop, others, others_long, loop_is, Comes, is_exit, is_entry, is_other, comes, FromInput, new_input, old_input, from_input, ToOutput, new_output, old_output, to_output}

not_preferred : (o : Option ℕ) (a : ℕ) → o ≡ None → o ≡ Some a → ⊥
not_preferred o a none some = absurd cc

-- the load of the input that is put in, and the room of the output: where the edge that is cut is free, what flows there
-- and the cap, and where it is backed the other way round
abbrev pub new_load : Bool → ℤ → ℤ → ℤ
new_load backed flow cap = cond backed cap flow

abbrev pub new_room : Bool → ℤ → ℤ → ℤ
new_room backed flow cap = cond backed flow cap

within_load : (b : Bool) (f cap : ℤ) → pos 0 ≤ℤ f → f ≤ℤ cap → (pos 0 ≤ℤ new_load b f cap) × (new_load b f cap ≤ℤ cap)
within_load true f cap l m = (omega (arith, ints, l, m), omega (arith, ints))
within_load false f cap l m = (l, m)

within_room : (b : Bool) (f cap : ℤ) → pos 0 ≤ℤ f → f ≤ℤ cap → (pos 0 ≤ℤ new_room b f cap) × (new_room b f cap ≤ℤ cap)
within_room true f cap l m = (l, m)
within_room false f cap l m = (omega (arith, ints, l, m), omega (arith, ints))

feeds : (b : Bool) (f cap : ℤ) → f ≤ℤ cap → (f ≤ℤ new_load b f cap) × (b ≡ false → f ≡ new_load b f cap)
feeds true f cap m = (m, λ e. absurd (false≢true (sym e)))
feeds false f cap m = (omega (arith, ints), λ e. refl)

fills : (b : Bool) (f cap : ℤ) → f ≤ℤ cap → (f ≤ℤ new_room b f cap) × (b ≡ true → f ≡ new_room b f cap)
fills true f cap m = (omega (arith, ints), λ e. refl)
fills false f cap m = (m, λ e. absurd (false≢true e))

module _ (x y : Network) (c : LeadsBack x y) (s : Flows) (state : IsStateOf y s) where
  abbrev pub loop_flow : ℤ
  loop_flow = flow_at s (loop x y c)

  abbrev pub loop_backed : Bool
  loop_backed = backed_at s (loop x y c)

  abbrev pub loop_cap : ℤ
  loop_cap = cap_in s c.joined

  -- the state where the edge is cut
  abbrev pub cut_state : Flows
  cut_state = record {
    denominator = s.denominator;
    flows = put_in c.place loop_flow s.flows;
    backed = put_in c.place loop_backed s.backed;
    loads = put_in c.input (new_load loop_backed loop_flow loop_cap) s.loads;
    rooms = put_in c.output (new_room loop_backed loop_flow loop_cap) s.rooms;
  }

  flows_fit : c.place ≤ length s.flows
  flows_fit = let l = c.place_within in let e = state.flows in omega (arith, l, e)

  marks_fit : c.place ≤ length s.backed
  marks_fit = let l = c.place_within in let e = state.backed in omega (arith, l, e)

  loads_fit : c.input ≤ length s.loads
  loads_fit = let l = c.input_within in let e = state.loads in omega (arith, l, e)

  rooms_fit : c.output ≤ length s.rooms
  rooms_fit = let l = c.output_within in let e = state.rooms in omega (arith, l, e)

  flow_new : flow_at cut_state c.place ≡ loop_flow
  flow_new = put_at c.place loop_flow s.flows (pos 0) flows_fit

  pub flow_old : (m : ℕ) → flow_at cut_state (moved c.place m) ≡ flow_at s m
  flow_old m = put_moved c.place loop_flow s.flows m (pos 0) flows_fit

  mark_new : backed_at cut_state c.place ≡ loop_backed
  mark_new = put_at c.place loop_backed s.backed false marks_fit

  mark_old : (m : ℕ) → backed_at cut_state (moved c.place m) ≡ backed_at s m
  mark_old m = put_moved c.place loop_backed s.backed m false marks_fit

  pub load_new : load_at cut_state c.input ≡ new_load loop_backed loop_flow loop_cap
  load_new = put_at c.input (new_load loop_backed loop_flow loop_cap) s.loads (pos 0) loads_fit

  pub load_old : (i : ℕ) → load_at cut_state (moved c.input i) ≡ load_at s i
  load_old i = put_moved c.input (new_load loop_backed loop_flow loop_cap) s.loads i (pos 0) loads_fit

  pub room_new : room_at cut_state c.output ≡ new_room loop_backed loop_flow loop_cap
  room_new = put_at c.output (new_room loop_backed loop_flow loop_cap) s.rooms (pos 0) rooms_fit

  pub room_old : (o : ℕ) → room_at cut_state (moved c.output o) ≡ room_at s o
  room_old o = put_moved c.output (new_room loop_backed loop_flow loop_cap) s.rooms o (pos 0) rooms_fit

  edges_long : length x.edges ≡ suc (length y.edges)
  edges_long = ap (λ es. length es) c.cut ∙ put_length c.place (cut_exit x y c) (others x y c) ∙ ap (λ k. suc k) (others_long x y c)

  pub is_state : IsStateOf x cut_state
  is_state = record {
    positive = state.positive;
    flows = put_length c.place loop_flow s.flows ∙ ap (λ k. suc k) state.flows ∙ sym edges_long;
    backed = put_length c.place loop_backed s.backed ∙ ap (λ k. suc k) state.backed ∙ sym edges_long;
    loads = put_length c.input (new_load loop_backed loop_flow loop_cap) s.loads ∙ ap (λ k. suc k) state.loads ∙ sym c.inputs;
    rooms = put_length c.output (new_room loop_backed loop_flow loop_cap) s.rooms ∙ ap (λ k. suc k) state.rooms ∙ sym c.outputs;
  }

  -- an edge has the flow, the mark and the cap of one that is there
  record Stands (n : ℕ) (e : Edge) : Type 0 where
    m : ℕ
    d : Edge
    there : HasEdge y m d
    flow : flow_at cut_state n ≡ flow_at s m
    mark : backed_at cut_state n ≡ backed_at s m
    cap : cap_in cut_state e ≡ cap_in s d

  same_cap : (e d : Edge) → e.cap ≡ d.cap → cap_in cut_state e ≡ cap_in s d
  same_cap e d q = ap (λ k. pos (k * s.denominator)) q

  abbrev at_new : (n : ℕ) (e : Edge) → n ≡ c.place → e.cap ≡ c.joined.cap → Stands n e
  at_new n e p q = record {
    m = loop x y c;
    d = c.joined;
    there = loop_is x y c;
    flow = ap (λ k. flow_at cut_state k) p ∙ flow_new;
    mark = ap (λ k. backed_at cut_state k) p ∙ mark_new;
    cap = same_cap e c.joined q;
  }

  abbrev at_old : (n m : ℕ) (e d : Edge) → HasEdge y m d → n ≡ moved c.place m → e.cap ≡ d.cap → Stands n e
  at_old n m e d h p q = record {
    m = m;
    d = d;
    there = h;
    flow = ap (λ k. flow_at cut_state k) p ∙ flow_old m;
    mark = ap (λ k. backed_at cut_state k) p ∙ mark_old m;
    cap = same_cap e d q;
  }

  stand : (n : ℕ) (e : Edge) → HasEdge x n e → Stands n e
  stand n e h = by_kind (comes x y c n e h)
    where
      by_kind : Comes x y c n e → Stands n e
      by_kind (is_exit p q) = at_new n e p (ap (λ z. z.cap) q)
      by_kind (is_entry p q) = at_old n (loop x y c) e c.joined (loop_is x y c) p (ap (λ z. z.cap) q)
      by_kind (is_other m d p o k q) = at_old n m e d k p (ap (λ z. z.cap) q)

  -- one that leaves a splitter, or enters it, has those of one that does so too
  record Leaving (k n : ℕ) (e : Edge) : Type 0 where
    of : Stands n e
    leaves_too : IsTrue (leaves k of.d)
    from : ((n ≡ c.place) × (of.m ≡ loop x y c)) ⊎ ((n ≡ moved c.place of.m) × (of.m ≡ loop x y c → ⊥))

  leaving : (k n : ℕ) (e : Edge) → HasEdge x n e → IsTrue (leaves k e) → Leaving k n e
  leaving k n e h t = by_kind (comes x y c n e h)
    where
      by_kind : Comes x y c n e → Leaving k n e
      by_kind (is_exit p q) = record {
        of = at_new n e p (ap (λ z. z.cap) q);
        leaves_too = sym (ends.exit_leaves c.input c.output c.joined k) ∙ subst (λ z. IsTrue (leaves k z)) q t;
        from = inl (p, refl);
      }
      by_kind (is_entry p q) = absurd (false≢true (subst (λ z. IsTrue (leaves k z)) q t))
      by_kind (is_other m d p o j q) = record {
        of = at_old n m e d j p (ap (λ z. z.cap) q);
        leaves_too = sym (ends.moved_leaves c.input c.output d k) ∙ subst (λ z. IsTrue (leaves k z)) q t;
        from = inr (p, o);
      }

  record Entering (k n : ℕ) (e : Edge) : Type 0 where
    of : Stands n e
    enters_too : IsTrue (enters k of.d)
    from : n ≡ moved c.place of.m

  entering : (k n : ℕ) (e : Edge) → HasEdge x n e → IsTrue (enters k e) → Entering k n e
  entering k n e h t = by_kind (comes x y c n e h)
    where
      by_kind : Comes x y c n e → Entering k n e
      by_kind (is_exit p q) = absurd (false≢true (subst (λ z. IsTrue (enters k z)) q t))
      by_kind (is_entry p q) = record {
        of = at_old n (loop x y c) e c.joined (loop_is x y c) p (ap (λ z. z.cap) q);
        enters_too = sym (ends.entry_enters c.input c.output c.joined k) ∙ subst (λ z. IsTrue (enters k z)) q t;
        from = p;
      }
      by_kind (is_other m d p o j q) = record {
        of = at_old n m e d j p (ap (λ z. z.cap) q);
        enters_too = sym (ends.moved_enters c.input c.output d k) ∙ subst (λ z. IsTrue (enters k z)) q t;
        from = p;
      }

  leaving_apart : (k n b : ℕ) (e f : Edge) (u : Leaving k n e) (v : Leaving k b f) → b ≢ n → v.of.m ≢ u.of.m
  leaving_apart k n b e f u v other = λ same. by_kinds u.from v.from same
    where
      by_kinds : ((n ≡ c.place) × (u.of.m ≡ loop x y c)) ⊎ ((n ≡ moved c.place u.of.m) × (u.of.m ≡ loop x y c → ⊥))
          → ((b ≡ c.place) × (v.of.m ≡ loop x y c)) ⊎ ((b ≡ moved c.place v.of.m) × (v.of.m ≡ loop x y c → ⊥)) → v.of.m ≡ u.of.m → ⊥
      by_kinds (inl p) (inl q) same = other (q.0 ∙ sym p.0)
      by_kinds (inl p) (inr q) same = q.1 (same ∙ p.1)
      by_kinds (inr p) (inl q) same = p.1 (sym same ∙ q.1)
      by_kinds (inr p) (inr q) same = other (q.0 ∙ ap (λ z. moved c.place z) same ∙ sym p.0)

  module _ (plain : HasNoPriorities x) (steady : IsSteady y s) where
    range : (n : ℕ) → KeepsRange x cut_state n
    range n e h =
        let a = stand n e h in
        let r = steady.range a.m (slice_get_within y.edges a.m a.d a.there) a.d a.there in
        let f = a.flow in
        let k = a.cap in
        (subst (λ z. pos 0 ≤ℤ z) (sym f) r.0, subst (λ z. z ≤ℤ cap_in cut_state e) (sym f) (subst (λ z. flow_at s a.m ≤ℤ z) (sym k) r.1))

    -- at least the other, or full
    at_least_or : (n b m p : ℕ) (e d : Edge) → flow_at cut_state n ≡ flow_at s m → flow_at cut_state b ≡ flow_at s p → cap_in cut_state e ≡ cap_in s d
        → (flow_at s p ≤ℤ flow_at s m) ⊎ IsFull s m d → (flow_at cut_state b ≤ℤ flow_at cut_state n) ⊎ IsFull cut_state n e
    at_least_or n b m p e d f h q (inl l) = inl (omega (arith, ints, f, h, l))
    at_least_or n b m p e d f h q (inr l) = inr (f ∙ l ∙ sym q)

    evens_out : (n : ℕ) → EvensOut x cut_state n
    evens_out n k b e f h j other t u none free =
        let v = leaving k n e h t in
        let w = leaving k b f j u in
        at_least_or n b v.of.m w.of.m e v.of.d v.of.flow w.of.flow v.of.cap
        (steady.even_out v.of.m (slice_get_within y.edges v.of.m v.of.d v.of.there) k w.of.m v.of.d w.of.d v.of.there w.of.there (leaving_apart k n b e f v w other) v.leaves_too w.leaves_too
        (plain_gives y c.plain k) (sym v.of.mark ∙ free))

    evens_in : (n : ℕ) → EvensIn x cut_state n
    evens_in n k b e f h j other t u none backed =
        let v = entering k n e h t in
        let w = entering k b f j u in
        at_least_or n b v.of.m w.of.m e v.of.d v.of.flow w.of.flow v.of.cap
        (steady.even_in v.of.m (slice_get_within y.edges v.of.m v.of.d v.of.there) k w.of.m v.of.d w.of.d v.of.there w.of.there
        (λ same. other (w.from ∙ ap (λ z. moved c.place z) same ∙ sym v.from)) v.enters_too w.enters_too (plain_takes y c.plain k, plain_merges y c.plain k) (sym v.of.mark ∙ backed))

    backs : (n : ℕ) → Backs x cut_state n
    backs n k b e f h j t u backed =
        let v = entering k n e h t in
        let w = leaving k b f j u in
        elim (steady.backing v.of.m (slice_get_within y.edges v.of.m v.of.d v.of.there) k w.of.m v.of.d w.of.d v.of.there w.of.there v.enters_too w.leaves_too (sym v.of.mark ∙ backed)) [
          | inl p ↦ inl (w.of.mark ∙ p)
          | inr p ↦ inr (w.of.flow ∙ p ∙ sym w.of.cap)
        ]

    -- ---- sums

    cancelled : (v w a b e : ℤ) → v ≡ pos 0 +ℤ a → a +ℤ e ≡ b +ℤ w → w ≡ e → v ≡ b
    cancelled v w a b e h k q = omega (arith, ints, h, k, q)

    gathered : (v w a b e : ℤ) → v ≡ w +ℤ a → a +ℤ e ≡ b +ℤ pos 0 → w ≡ e → v ≡ b
    gathered v w a b e h k q = omega (arith, ints, h, k, q)

    flows_others : length s.flows ≡ length (others x y c)
    flows_others = state.flows ∙ sym (others_long x y c)

    flows_own : length s.flows ≡ length (c.before ++ c.joined ∷ c.behind)
    flows_own = state.flows ∙ ap (λ es. length es) c.own

    sum_cut : (p : Edge → Bool) → sum_where p x.edges cut_state.flows ≡ cond (p (cut_exit x y c)) loop_flow (pos 0) +ℤ sum_where p (others x y c) s.flows
    sum_cut p = ap (λ es. sum_where p es cut_state.flows) c.cut ∙ sum_put p c.place (cut_exit x y c) loop_flow (others x y c) s.flows flows_others

    sum_own : (p : Edge → Bool) → ((e : Edge) → p (g x y c e) ≡ p e)
        → sum_where p (others x y c) s.flows +ℤ cond (p c.joined) loop_flow (pos 0) ≡ sum_where p y.edges s.flows +ℤ cond (p (cut_entry x y c)) loop_flow (pos 0)
    sum_own p same =
        replaced_sum (g x y c) c.joined (cut_entry x y c) c.behind p same c.before s.flows flows_own
        ∙ ap (λ es. sum_where p es s.flows +ℤ cond (p (cut_entry x y c)) loop_flow (pos 0)) (sym c.own)

    sum_enters : (k : ℕ) → sum_where (enters k) x.edges cut_state.flows ≡ sum_where (enters k) y.edges s.flows
    sum_enters k =
        cancelled (sum_where (enters k) x.edges cut_state.flows) (cond (enters k (cut_entry x y c)) loop_flow (pos 0)) (sum_where (enters k) (others x y c) s.flows)
        (sum_where (enters k) y.edges s.flows) (cond (enters k c.joined) loop_flow (pos 0)) (sum_cut (enters k)) (sum_own (enters k) (λ e. ends.moved_enters c.input c.output e k))
        (ap (λ b. cond b loop_flow (pos 0)) (ends.entry_enters c.input c.output c.joined k))

    sum_leaves : (k : ℕ) → sum_where (leaves k) x.edges cut_state.flows ≡ sum_where (leaves k) y.edges s.flows
    sum_leaves k =
        gathered (sum_where (leaves k) x.edges cut_state.flows) (cond (leaves k (cut_exit x y c)) loop_flow (pos 0)) (sum_where (leaves k) (others x y c) s.flows)
        (sum_where (leaves k) y.edges s.flows) (cond (leaves k c.joined) loop_flow (pos 0)) (sum_cut (leaves k)) (sum_own (leaves k) (λ e. ends.moved_leaves c.input c.output e k))
        (ap (λ b. cond b loop_flow (pos 0)) (ends.exit_leaves c.input c.output c.joined k))

    conserves : (k : ℕ) → k < x.splitters → Conserves x cut_state k
    conserves k l = sum_enters k ∙ steady.conserve k (subst (λ z. k < z) c.splitters l) ∙ sym (sum_leaves k)

    exceeds : (v a b e w : ℤ) → v ≡ loop_flow +ℤ a → a +ℤ e ≡ b +ℤ w → w ≡ e → v ≡ loop_flow +ℤ b
    exceeds v a b e w h k q = omega (arith, ints, h, k, q)

    -- the outputs carry what they do there, and what flows where it is cut
    pub sum_last : sum_where is_last x.edges cut_state.flows ≡ loop_flow +ℤ sum_where is_last y.edges s.flows
    sum_last =
        exceeds (sum_where is_last x.edges cut_state.flows) (sum_where is_last (others x y c) s.flows) (sum_where is_last y.edges s.flows) (cond (is_last c.joined) loop_flow (pos 0))
        (cond (is_last (cut_entry x y c)) loop_flow (pos 0)) (sum_cut is_last) (sum_own is_last (λ e. ends.moved_last c.input c.output e))
        (ap (λ b. cond b loop_flow (pos 0)) (ends.entry_last c.input c.output c.joined))

    -- ---- ends

    pub loop_range : (pos 0 ≤ℤ loop_flow) × (loop_flow ≤ℤ loop_cap)
    loop_range = steady.range (loop x y c) (slice_get_within y.edges (loop x y c) c.joined (loop_is x y c)) c.joined (loop_is x y c)

    fed : (n j m : ℕ) (f l : ℤ) (b : Bool) → flow_at cut_state n ≡ f → backed_at cut_state n ≡ b → load_at cut_state j ≡ l → (f ≤ℤ l) × (b ≡ false → f ≡ l)
        → (flow_at cut_state n ≤ℤ load_at cut_state j) × (backed_at cut_state n ≡ false → flow_at cut_state n ≡ load_at cut_state j)
    fed n j m f l b p q r h = (subst (λ z. z ≤ℤ load_at cut_state j) (sym p) (subst (λ z. f ≤ℤ z) (sym r) h.0), λ free. p ∙ h.1 (sym q ∙ free) ∙ sym r)

    filled : (n j m : ℕ) (f l : ℤ) (b : Bool) → flow_at cut_state n ≡ f → backed_at cut_state n ≡ b → room_at cut_state j ≡ l → (f ≤ℤ l) × (b ≡ true → f ≡ l)
        → (flow_at cut_state n ≤ℤ room_at cut_state j) × (backed_at cut_state n ≡ true → flow_at cut_state n ≡ room_at cut_state j)
    filled n j m f l b p q r h = (subst (λ z. z ≤ℤ room_at cut_state j) (sym p) (subst (λ z. f ≤ℤ z) (sym r) h.0), λ backed. p ∙ h.1 (sym q ∙ backed) ∙ sym r)

    pub input_below : (j i : ℕ) → j < x.inputs → j ≡ moved c.input i → i < y.inputs
    input_below j i l e = moved_below c.input i y.inputs c.input_within (subst (λ z. z < suc y.inputs) e (subst (λ z. j < z) c.inputs l))

    pub output_below : (j o : ℕ) → j < x.outputs → j ≡ moved c.output o → o < y.outputs
    output_below j o l e = moved_below c.output o y.outputs c.output_within (subst (λ z. z < suc y.outputs) e (subst (λ z. j < z) c.outputs l))

    feeds_input : (j : ℕ) → j < x.inputs → FeedsInput x cut_state j
    feeds_input j l n e h t = by_kind (from_input x y c j n e h t)
      where
        by_kind : FromInput x y c j n e → (flow_at cut_state n ≤ℤ load_at cut_state j) × (backed_at cut_state n ≡ false → flow_at cut_state n ≡ load_at cut_state j)
        by_kind (new_input p q r) =
            fed n j 0 loop_flow (new_load loop_backed loop_flow loop_cap) loop_backed (ap (λ z. flow_at cut_state z) q ∙ flow_old (loop x y c)) (ap (λ z. backed_at cut_state z) q ∙ mark_old (loop x y c))
            (ap (λ z. load_at cut_state z) p ∙ load_new) (feeds loop_backed loop_flow loop_cap loop_range.1)
        by_kind (old_input i m d p q k r cap) =
            fed n j 0 (flow_at s m) (load_at s i) (backed_at s m) (ap (λ z. flow_at cut_state z) q ∙ flow_old m) (ap (λ z. backed_at cut_state z) q ∙ mark_old m)
            (ap (λ z. load_at cut_state z) p ∙ load_old i) (steady.input i (input_below j i l p) m d k r)

    fills_output : (j : ℕ) → j < x.outputs → FillsOutput x cut_state j
    fills_output j l n e h t = by_kind (to_output x y c j n e h t)
      where
        by_kind : ToOutput x y c j n e → (flow_at cut_state n ≤ℤ room_at cut_state j) × (backed_at cut_state n ≡ true → flow_at cut_state n ≡ room_at cut_state j)
        by_kind (new_output p q r) =
            filled n j 0 loop_flow (new_room loop_backed loop_flow loop_cap) loop_backed (ap (λ z. flow_at cut_state z) q ∙ flow_new) (ap (λ z. backed_at cut_state z) q ∙ mark_new)
            (ap (λ z. room_at cut_state z) p ∙ room_new) (fills loop_backed loop_flow loop_cap loop_range.1)
        by_kind (old_output o m d p q k r cap) =
            filled n j 0 (flow_at s m) (room_at s o) (backed_at s m) (ap (λ z. flow_at cut_state z) q ∙ flow_old m) (ap (λ z. backed_at cut_state z) q ∙ mark_old m)
            (ap (λ z. room_at cut_state z) p ∙ room_old o) (steady.output o (output_below j o l p) m d k r)

    pub is_steady : IsSteady x cut_state
    is_steady = record {
      range = λ n l. range n;
      conserve = conserves;
      even_out = λ n l. evens_out n;
      even_in = λ n l. evens_in n;
      prior_out = λ n l k b e f h j o t u some free. absurd (not_preferred (give_of x k) n (plain_gives x plain k) some);
      prior_in = λ n l k b e f h j o t u some backed. absurd (not_preferred (take_of x k) n (plain_takes x plain k) some);
      backing = λ n l. backs n;
      input = feeds_input;
      output = fills_output;
    }

    admitted : (low : ℤ) (a b cap own : ℤ) → a ≡ b → cap ≡ own → (pos 0 ≤ℤ b) × (b ≤ℤ own) → (pos 0 ≤ℤ a) × (a ≤ℤ cap)
    admitted low a b cap own p q h = (subst (λ z. pos 0 ≤ℤ z) (sym p) h.0, subst (λ z. z ≤ℤ cap) (sym p) (subst (λ z. b ≤ℤ z) (sym q) h.1))

    admits_load : IsAdmissible y s → (j : ℕ) → j < x.inputs → AdmitsLoad x cut_state j
    admits_load admits j l n e h t = by_kind (from_input x y c j n e h t)
      where
        by_kind : FromInput x y c j n e → (pos 0 ≤ℤ load_at cut_state j) × (load_at cut_state j ≤ℤ cap_in cut_state e)
        by_kind (new_input p q r) =
            admitted (pos 0) (load_at cut_state j) (new_load loop_backed loop_flow loop_cap) (cap_in cut_state e) loop_cap (ap (λ z. load_at cut_state z) p ∙ load_new)
            (same_cap e c.joined (ap (λ z. z.cap) r)) (within_load loop_backed loop_flow loop_cap loop_range.0 loop_range.1)
        by_kind (old_input i m d p q k r cap) =
            admitted (pos 0) (load_at cut_state j) (load_at s i) (cap_in cut_state e) (cap_in s d) (ap (λ z. load_at cut_state z) p ∙ load_old i) (same_cap e d cap)
            (admits.loads i (input_below j i l p) m d k r)

    admits_room : IsAdmissible y s → (j : ℕ) → j < x.outputs → AdmitsRoom x cut_state j
    admits_room admits j l n e h t = by_kind (to_output x y c j n e h t)
      where
        by_kind : ToOutput x y c j n e → (pos 0 ≤ℤ room_at cut_state j) × (room_at cut_state j ≤ℤ cap_in cut_state e)
        by_kind (new_output p q r) =
            admitted (pos 0) (room_at cut_state j) (new_room loop_backed loop_flow loop_cap) (cap_in cut_state e) loop_cap (ap (λ z. room_at cut_state z) p ∙ room_new)
            (same_cap e c.joined (ap (λ z. z.cap) r)) (within_room loop_backed loop_flow loop_cap loop_range.0 loop_range.1)
        by_kind (old_output o m d p q k r cap) =
            admitted (pos 0) (room_at cut_state j) (room_at s o) (cap_in cut_state e) (cap_in s d) (ap (λ z. room_at cut_state z) p ∙ room_old o) (same_cap e d cap)
            (admits.rooms o (output_below j o l p) m d k r)

    pub is_admissible : IsAdmissible y s → IsAdmissible x cut_state
    is_admissible admits = record { loads = admits_load admits; rooms = admits_room admits }
