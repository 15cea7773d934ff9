-- Listing the places at which the literals of a clause became false.
use Rattle.std.proofs.Common.{◌≡◌, ◌≢◌, ℕ, ◌<◌, ◌+◌, inl, inr, arith, List, [], ◌∷◌, ◌++◌, length, get_or, sym, subst, ap, ◌∙◌, None, Some, length-append}
use Rattle.std.specs.Prelude.{Contains}
use Rattle.std.specs.List.{All}
use Rattle.std.proofs.lemmas.List.{get_or_default, get_or_append_left, get_or_push}
use Rattle.std.proofs.lemmas.List.Elements.{Contains-append_left, Contains-push, Contains-push_cases}
use Rattle.bt_cnf.specs.declared.literal.Lit.{Lit}
use Rattle.bt_cnf.specs.Truths.{IsFalseIn}
use Rattle.bt_cnf.specs.Units.{opposite}
use Rattle.bt_watch.specs.declared.search.Search.{Search}
use Rattle.bt_watch.specs.Watched.{no_lit}
use Rattle.bt_watch.specs.Reasons.{lit_at}
use Rattle.bt_watch.specs.Agendas.{IsGreatest, Takes}
use Rattle.bt_sat.specs.inner.Analysing.{false_at, falses_at, IsSeen, MarksSeen}
use Rattle.bt_sat.specs.inner.Lemmas.{ArePicked, IsListing, IsTraceable}
use Rattle.bt_cnf.proofs.Lists.{nat_or, none_in, lt_or_eq}
use Rattle.bt_watch.proofs.Ending.{twice_opposite}
use Rattle.bt_sat.proofs.Deriving.{in_map, map_in}

-- the greatest place on the agenda is picked
pub listed_next : (places : List ℕ) (clause : List Lit) (size : ℕ) (agenda picked : List ℕ) (bound place : ℕ) (new : List ℕ) → IsListing places clause size agenda picked bound → Takes agenda (Some place) new
    → IsListing places clause size new (picked ++ place ∷ []) place
listed_next places clause size agenda picked bound place new old takes =
    let low : place < bound = old.before place takes.0.0 in
    let inside : place < size = omega (arith, low, old.bounded) in
    let more : length (picked ++ place ∷ []) ≡ length picked + 1 = length-append picked (place ∷ []) in
    record {
      among = λ k. (
        (λ one. (old.among k).0 (elim one [
          | inl waits ↦ inl ((takes.1 k).0 waits).0
          | inr there ↦ elim (Contains-push_cases picked place k there) [
            | inl was ↦ inr was
            | inr same ↦ inl (subst (Contains agenda) same takes.0.0)
          ]
        ])),
        (λ seen. elim ((old.among k).1 seen) [
          | inl waits ↦ elim (nat_or k place) [
            | inl same ↦ inr (subst (Contains (picked ++ place ∷ [])) (sym same) (Contains-push picked place))
            | inr differs ↦ inl ((takes.1 k).1 (waits, differs))
          ]
          | inr was ↦ inr (Contains-append_left picked (place ∷ []) k was)
        ]),
      );
      before = λ k waits.
          let was = (takes.1 k).0 waits in
          let top = takes.0.1 k was.0 in
          omega (arith, top, was.1);
      bounded = omega (arith, inside);
      after = λ k there. elim (Contains-push_cases picked place k there) [
        | inl was ↦
            let beyond = old.after k was in
            (omega (arith, beyond.0, low), beyond.1)
        | inr same ↦ (omega (arith, same), subst (λ j. j < size) same inside)
      ];
      descend = λ i j order small. elim (lt_or_eq j (length picked) (omega (arith, small, more))) [
        | inl earlier ↦
            let lower = old.descend i j order earlier in
            let at_i = get_or_append_left picked (place ∷ []) 0 i (omega (arith, order, earlier)) in
            let at_j = get_or_append_left picked (place ∷ []) 0 j earlier in
            omega (arith, lower, at_i, at_j)
        | inr last ↦
            let small_i : i < length picked = omega (arith, order, last) in
            let at_i = get_or_append_left picked (place ∷ []) 0 i small_i in
            let at_j = get_or_push picked place 0 j (sym last) in
            let high = (old.after (get_or picked i 0) (i, small_i, get_or_default picked i (get_or picked i 0) 0 small_i)).0 in
            omega (arith, at_i, at_j, high, low)
      ];
    }

module _ (s : Search) (clause : List Lit) (traceable : IsTraceable s) (falses : All (IsFalseIn s.assignment.values) clause) where
  -- the place at which a literal of the clause became false
  false_place : (i : ℕ) → i < length clause
      → (q : ℕ) × (q < length s.assignment.trail.items) × (lit_at s.assignment.trail.items q ≡ opposite (lit_at clause i)) × (get_or s.assignment.places.items (lit_at clause i).var 0 ≡ q)
  false_place i small =
      let m = lit_at clause i in
      let (q, inside, is) = traceable.whole.truths.in_trail (opposite m) (falses i no_lit small) in
      let at : lit_at s.assignment.trail.items q ≡ opposite m = get_or_default s.assignment.trail.items q no_lit (opposite m) inside ∙ is in
      (q, inside, at, ap (λ (x : Lit). get_or s.assignment.places.items x.var 0) (sym at) ∙ traceable.placed q inside)

  pub below : All (λ (l : Lit). l.var < length s.assignment.places.items) clause
  below k d small =
      let (q, inside, at, place) = false_place k small in
      let var : (lit_at s.assignment.trail.items q).var ≡ (get_or clause k d).var = ap (λ (m : Lit). m.var) (at ∙ ap opposite (get_or_default clause k no_lit d small)) in
      subst (λ n. (get_or clause k d).var < n) (sym traceable.room) (subst (λ v. v < length s.assignment.values) var (traceable.whole.truths.below q no_lit inside))

  seen_small : (but k : ℕ) → IsSeen s.assignment.places.items clause but (length clause) k → k < length s.assignment.trail.items
  seen_small but k (i, small, is, differs) =
      let (q, inside, at, place) = false_place i small in
      subst (λ j. j < length s.assignment.trail.items) (sym place ∙ is) inside

  -- the places are on the agenda, and nothing is picked
  pub begun : (agenda : List ℕ) → MarksSeen s.assignment.places.items clause (length s.assignment.trail.items) [] agenda
      → IsListing s.assignment.places.items clause (length s.assignment.trail.items) agenda [] (length s.assignment.trail.items)
  begun agenda marks =
      let seen : (k : ℕ) → Contains agenda k → IsSeen s.assignment.places.items clause (length s.assignment.trail.items) (length clause) k = λ k waits. elim ((marks k).0 waits) [
        | inl none ↦ absurd (none_in k none)
        | inr is ↦ is
      ] in
      record {
        among = λ k. (
          (λ one. elim one [ inl waits ↦ seen k waits | inr none ↦ absurd (none_in k none) ]),
          (λ is. inl ((marks k).1 (inr is))),
        );
        before = λ k waits. seen_small (length s.assignment.trail.items) k (seen k waits);
        bounded = omega arith;
        after = λ k none. absurd (none_in k none);
        descend = λ i j order small. absurd (omega (arith, small));
      }

  -- all are picked where none is left on the agenda
  pub listed : (agenda picked : List ℕ) (bound : ℕ) → IsListing s.assignment.places.items clause (length s.assignment.trail.items) agenda picked bound → IsGreatest agenda None
      → ArePicked s.assignment.trail.items clause picked
  listed agenda picked bound is none =
      let T = s.assignment.trail.items in
      record {
        within = λ k there. (is.after k there).1;
        descend = is.descend;
        same = λ l. (
          (λ (i, small, at).
              let (q, inside, at_q, place) = false_place i small in
              let here : lit_at clause i ≡ l = get_or_default clause i no_lit l small ∙ at in
              let differs : q ≢ length T = λ e. absurd (omega (arith, inside, e)) in
              let there : Contains picked q = elim ((is.among q).1 (i, small, place, differs)) [
                | inl waits ↦ absurd (none q waits)
                | inr there ↦ there
              ] in
              subst (Contains (falses_at T picked)) (ap opposite at_q ∙ twice_opposite (lit_at clause i) ∙ here) (map_in (false_at T) picked q there)),
          (λ among.
              let (k, there, at) = in_map (false_at T) picked l among in
              let (i, small, place_k, differs) = (is.among k).0 (inr there) in
              let (q, inside, at_q, place) = false_place i small in
              let e : q ≡ k = sym place ∙ place_k in
              let here : lit_at clause i ≡ l = sym (twice_opposite (lit_at clause i)) ∙ ap opposite (sym at_q) ∙ ap (false_at T) e ∙ at in
              (i, small, get_or_default clause i l no_lit small ∙ here)),
        );
      }
