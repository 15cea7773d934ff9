-- The edges of a network in which an output leads back to an input, where it is cut at that edge.
use Rattle.std.proofs.Common.{◌≡◌, ℕ, ◌≤◌, ◌⊎◌, inl, inr, Bool, false, IsTrue, List, length, slice_get, Some, ap, sym, ◌∙◌, subst, arith}
use Rattle.std.proofs.lemmas.Bool.{false≢true}
use Rattle.bt_net.specs.declared.network.Edge.{Edge}
use Rattle.bt_net.specs.Network.{Network, is_input, is_output}
use Rattle.bt_flow.specs.Steady.{HasEdge}
use Rattle.bt_gen.specs.Loops.{LeadsBack, edge_moved, entry, exit, moved, put_in}
use Rattle.bt_gen.proofs.Put.{at_or_moved, got_at, got_moved}
use Rattle.bt_gen.proofs.Replaced.{own_at, read_replaced, replaced, replaced_at, replaced_length, written_replaced, same_edge}
use Rattle.bt_gen.proofs.Moved as ends

untrue : (b : Bool) → b ≡ false → IsTrue b → ⊥
untrue b f t = false≢true (sym f ∙ t)

module _ (x y : Network) (c : LeadsBack x y) where
  abbrev pub g : Edge → Edge
  g = edge_moved c.input c.output

  abbrev pub cut_entry : Edge
  cut_entry = entry c.input c.output c.joined

  abbrev pub cut_exit : Edge
  cut_exit = exit c.input c.output c.joined

  -- the number of the edge that is cut
  abbrev pub loop : ℕ
  loop = length c.before

  -- the edges but the one to the output that leads back
  abbrev pub others : List Edge
  others = replaced g c.joined cut_entry c.behind c.before

  pub others_long : length others ≡ length y.edges
  others_long = replaced_length g c.joined cut_entry c.behind c.before ∙ ap (λ es. length es) (sym c.own)

  pub place_fits : c.place ≤ length others
  place_fits = let l = c.place_within in let e = others_long in omega (arith, l, e)

  pub loop_is : HasEdge y loop c.joined
  loop_is = subst (λ es. slice_get es loop ≡ Some c.joined) (sym c.own) (own_at g c.joined cut_entry c.behind c.before)

  -- an edge there: the one to the output, the one from the input, or one that is there too
  pub data Comes (n : ℕ) (e : Edge) : Type 0 where
    is_exit : n ≡ c.place → e ≡ cut_exit → Comes n e
    is_entry : n ≡ moved c.place loop → e ≡ cut_entry → Comes n e
    is_other : (m : ℕ) (d : Edge) → n ≡ moved c.place m → (m ≡ loop → ⊥) → HasEdge y m d → e ≡ g d → Comes n e

  pub comes : (n : ℕ) (e : Edge) → HasEdge x n e → Comes n e
  comes n e h =
      let there : slice_get (put_in c.place cut_exit others) n ≡ Some e = subst (λ es. slice_get es n ≡ Some e) c.cut h in
      elim (at_or_moved c.place n) [
        | inl q ↦ is_exit q (same_edge cut_exit e (sym (got_at c.place cut_exit others place_fits) ∙ subst (λ k. slice_get (put_in c.place cut_exit others) k ≡ Some e) q there))
        | inr r ↦
            let m = r.0 in
            let inner : slice_get others m ≡ Some e = sym (got_moved c.place cut_exit others m place_fits)
            ∙ subst (λ k. slice_get (put_in c.place cut_exit others) k ≡ Some e) r.1 there in
            elim (read_replaced g c.joined cut_entry c.behind c.before m e inner) [
              | inl q ↦ is_entry (r.1 ∙ ap (λ k. moved c.place k) q.0) q.1
              | inr q ↦ is_other m q.0 r.1 q.1 (subst (λ es. slice_get es m ≡ Some q.0) (sym c.own) q.2) q.3
            ]
      ]

  -- an edge that is there stands there too, or is the one that is cut
  pub data Goes (m : ℕ) (d : Edge) : Type 0 where
    is_cut : m ≡ loop → d ≡ c.joined → HasEdge x (moved c.place m) cut_entry → Goes m d
    is_kept : HasEdge x (moved c.place m) (g d) → Goes m d

  stands : (m : ℕ) (e : Edge) → slice_get others m ≡ Some e → HasEdge x (moved c.place m) e
  stands m e h = subst (λ es. slice_get es (moved c.place m) ≡ Some e) (sym c.cut) (got_moved c.place cut_exit others m place_fits ∙ h)

  pub goes : (m : ℕ) (d : Edge) → HasEdge y m d → Goes m d
  goes m d h =
      elim (written_replaced g c.joined cut_entry c.behind c.before m d (subst (λ es. slice_get es m ≡ Some d) c.own h)) [
        | inl q ↦ is_cut q.0 q.1 (stands m cut_entry (subst (λ k. slice_get others k ≡ Some cut_entry) (sym q.0) (replaced_at g c.joined cut_entry c.behind c.before)))
        | inr q ↦ is_kept (stands m (g d) q)
      ]

  -- ---- the edges of inputs and outputs

  -- the edge of an input there is the one from the input that is put in, or that of an input that is there too
  pub data FromInput (j n : ℕ) (e : Edge) : Type 0 where
    new_input : j ≡ c.input → n ≡ moved c.place loop → e ≡ cut_entry → FromInput j n e
    old_input : (i m : ℕ) (d : Edge) → j ≡ moved c.input i → n ≡ moved c.place m → HasEdge y m d → IsTrue (is_input i d) → e.cap ≡ d.cap → FromInput j n e

  pub from_input : (j n : ℕ) (e : Edge) → HasEdge x n e → IsTrue (is_input j e) → FromInput j n e
  from_input j n e h t = by_kind (at_or_moved c.input j) (comes n e h)
    where
      by_kind : (j ≡ c.input) ⊎ ((i : ℕ) × (j ≡ moved c.input i)) → Comes n e → FromInput j n e
      by_kind w (is_exit p q) = absurd (untrue (is_input j cut_exit) (ends.exit_no_input c.input c.output c.joined c.splitter j c.starts) (subst (λ z. IsTrue (is_input j z)) q t))
      by_kind (inl s) (is_entry p q) = new_input s p q
      by_kind (inr s) (is_entry p q) =
          absurd (untrue (is_input (moved c.input s.0) cut_entry) (ends.entry_no_input c.input c.output c.joined s.0) (subst (λ z. IsTrue (is_input z cut_entry)) s.1 (subst (λ z. IsTrue (is_input j z)) q t)))
      by_kind (inl s) (is_other m d p o k q) =
          absurd (untrue (is_input c.input (g d)) (ends.moved_no_input c.input c.output d) (subst (λ z. IsTrue (is_input z (g d))) s (subst (λ z. IsTrue (is_input j z)) q t)))
      by_kind (inr s) (is_other m d p o k q) =
          old_input s.0 m d s.1 p k (sym (ends.moved_input c.input c.output d s.0) ∙ subst (λ z. IsTrue (is_input z (g d))) s.1 (subst (λ z. IsTrue (is_input j z)) q t)) (ap (λ z. z.cap) q)

  pub data ToOutput (j n : ℕ) (e : Edge) : Type 0 where
    new_output : j ≡ c.output → n ≡ c.place → e ≡ cut_exit → ToOutput j n e
    old_output : (o m : ℕ) (d : Edge) → j ≡ moved c.output o → n ≡ moved c.place m → HasEdge y m d → IsTrue (is_output o d) → e.cap ≡ d.cap → ToOutput j n e

  pub to_output : (j n : ℕ) (e : Edge) → HasEdge x n e → IsTrue (is_output j e) → ToOutput j n e
  to_output j n e h t = by_kind (at_or_moved c.output j) (comes n e h)
    where
      by_kind : (j ≡ c.output) ⊎ ((o : ℕ) × (j ≡ moved c.output o)) → Comes n e → ToOutput j n e
      by_kind (inl s) (is_exit p q) = new_output s p q
      by_kind (inr s) (is_exit p q) =
          absurd (untrue (is_output (moved c.output s.0) cut_exit) (ends.exit_no_output c.input c.output c.joined s.0) (subst (λ z. IsTrue (is_output z cut_exit)) s.1 (subst (λ z. IsTrue (is_output j z)) q t)))
      by_kind (inl s) (is_entry p q) =
          absurd (untrue (is_output c.output cut_entry) (ends.entry_no_output c.input c.output c.joined) (subst (λ z. IsTrue (is_output z cut_entry)) s (subst (λ z. IsTrue (is_output j z)) q t)))
      by_kind (inr s) (is_entry p q) =
          old_output s.0 loop c.joined s.1 p loop_is (sym (ends.entry_output c.input c.output c.joined s.0) ∙ subst (λ z. IsTrue (is_output z cut_entry)) s.1 (subst (λ z. IsTrue (is_output j z)) q t)) (ap (λ z. z.cap) q)
      by_kind (inl s) (is_other m d p o k q) =
          absurd (untrue (is_output c.output (g d)) (ends.moved_no_output c.input c.output d) (subst (λ z. IsTrue (is_output z (g d))) s (subst (λ z. IsTrue (is_output j z)) q t)))
      by_kind (inr s) (is_other m d p o k q) =
          old_output s.0 m d s.1 p k (sym (ends.moved_output c.input c.output d s.0) ∙ subst (λ z. IsTrue (is_output z (g d))) s.1 (subst (λ z. IsTrue (is_output j z)) q t)) (ap (λ z. z.cap) q)

  -- the edge of an output that is there
  pub output_goes : (o m : ℕ) (d : Edge) → HasEdge y m d → IsTrue (is_output o d) → (e : Edge) × HasEdge x (moved c.place m) e × IsTrue (is_output (moved c.output o) e)
  output_goes o m d h t = by_kind (goes m d h)
    where
      by_kind : Goes m d → (e : Edge) × HasEdge x (moved c.place m) e × IsTrue (is_output (moved c.output o) e)
      by_kind (is_cut p q k) = (cut_entry, k, ends.entry_output c.input c.output c.joined o ∙ subst (λ z. IsTrue (is_output o z)) q t)
      by_kind (is_kept k) = (g d, k, ends.moved_output c.input c.output d o ∙ t)

  pub input_goes : (i m : ℕ) (d : Edge) → HasEdge y m d → IsTrue (is_input i d) → (e : Edge) × HasEdge x (moved c.place m) e × IsTrue (is_input (moved c.input i) e)
  input_goes i m d h t = by_kind (goes m d h)
    where
      by_kind : Goes m d → (e : Edge) × HasEdge x (moved c.place m) e × IsTrue (is_input (moved c.input i) e)
      by_kind (is_cut p q k) = absurd (untrue (is_input i c.joined) (ends.joined_no_input c.joined c.splitter i c.starts) (subst (λ z. IsTrue (is_input i z)) q t))
      by_kind (is_kept k) = (g d, k, ends.moved_input c.input c.output d i ∙ t)
