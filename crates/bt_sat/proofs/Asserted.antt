-- What is learnt from a conflict is asserted where the search jumps back.
use Rattle.std.proofs.Common.{◌≡◌, ℕ, ◌≤◌, ◌<◌, inl, inr, arith, List, length, get_or, sym, subst, refl, ap, ◌∙◌}
use Rattle.std.specs.Prelude.{Contains, take}
use Rattle.std.specs.List.{All}
use Rattle.std.proofs.lemmas.List.{get_or_default, get_or-map, length-map}
use Rattle.bt_cnf.specs.declared.literal.Lit.{Lit}
use Rattle.bt_cnf.specs.Truths.{IsTrueIn, IsFalseIn}
use Rattle.bt_cnf.specs.Units.{opposite}
use Rattle.bt_watch.specs.declared.search.Search.{Search}
use Rattle.bt_watch.specs.Watched.{no_lit}
use Rattle.bt_watch.specs.Levels.{start_of, IsOrdered, IsHeld, Backjumps}
use Rattle.bt_watch.specs.Reasons.{lit_at}
use Rattle.bt_sat.specs.inner.Analysing.{false_at, falses_at, IsLearnable}
use Rattle.bt_sat.specs.inner.Asserting.{HaveUniquePoint, IsAsserting, IsHinted, IsPrepared, IsAssertionLevel}
use Rattle.bt_cnf.proofs.Lists.{lt_or, all_of}
use Rattle.bt_watch.proofs.Backjumped.{apart_places, place_in_take}
use Rattle.bt_watch.proofs.Ending.{false_of, twice_opposite}
use Rattle.bt_watch.proofs.Keeping.{not_both}
use Rattle.bt_watch.proofs.Reasoning.{lit_in}
use Rattle.bt_watch.proofs.Leveled
use Rattle.bt_sat.proofs.Deriving.{before_place, in_map, nil_or}

-- places of which the first is alone at its level
module _ (all : List (List Lit)) (old new : Search) (picked : List ℕ) (level : ℕ) (ordered : IsOrdered all old) (unique : HaveUniquePoint old picked)
    (at : IsAssertionLevel old.starts.items picked level) (back : Backjumps level old new) (held : 0 < length old.starts.items → All (IsHeld old) all) where
  inside : (i : ℕ) → i < length picked → get_or picked i 0 < length old.assignment.trail.items
  inside i small = unique.within (get_or picked i 0) (i, small, get_or_default picked i (get_or picked i 0) 0 small)

  named : (i : ℕ) → i < length picked → lit_at (falses_at old.assignment.trail.items picked) i ≡ false_at old.assignment.trail.items (get_or picked i 0)
  named i small = get_or-map (false_at old.assignment.trail.items) picked i 0 no_lit small

  count_lits : length (falses_at old.assignment.trail.items picked) ≡ length picked
  count_lits = length-map picked (false_at old.assignment.trail.items)

  start_is : (j : ℕ) → j < length old.starts.items → start_of old j ≡ get_or old.starts.items j 0
  start_is j small = get_or_default old.starts.items j (length old.assignment.trail.items) 0 small

  -- the search jumps back to a level before that of the first place
  order : 0 < length picked → level ≤ unique.level
  order some = elim (lt_or 1 (length picked)) [
    | inl many ↦
        let is = at.many many in
        elim (lt_or unique.level level) [
          | inl less ↦
              let low = is.before unique.level less in
              let high = unique.rest 1 (omega arith) many in
              absurd (omega (arith, low, high, start_is unique.level (unique.known some)))
          | inr fine ↦ fine
        ]
    | inr one ↦ omega (arith, at.one one)
  ]

  known : 0 < length picked → level < length old.starts.items
  known some = omega (arith, order some, unique.known some)

  -- the variable of the first place is unset
  unset : 0 < length picked → (m : Lit) → m.var ≡ (lit_at old.assignment.trail.items (get_or picked 0 0)).var → Contains new.assignment.trail.items m → ⊥
  unset some m same (q, small, is) =
      let fits = Leveled.size all old new level ordered back in
      let within = Leveled.start_within old ordered.levels level in
      let at_q : lit_at old.assignment.trail.items q ≡ m = sym (Leveled.lit_same all old new level ordered back q small) ∙ get_or_default new.assignment.trail.items q no_lit m small ∙ is in
      let one : q ≡ get_or picked 0 0 = apart_places old.assignment ordered.reasoned.placed q (get_or picked 0 0) (omega (arith, small, fits, within)) (inside 0 some) (ap (λ (x : Lit). x.var) at_q ∙ same) in
      let rises = Leveled.start_rises old ordered.levels level unique.level (order some) in
      omega (arith, small, fits, one, rises, unique.first some)

  -- a literal that was true before the level is true still
  true_still : (k : ℕ) → k < start_of old level → k < length old.assignment.trail.items → IsTrueIn new.assignment.values (lit_at old.assignment.trail.items k)
  true_still k low small =
      back.forgets.truths.true_in (lit_at old.assignment.trail.items k)
      (subst (λ ts. Contains ts (lit_at old.assignment.trail.items k)) (sym back.forgets.trail) (place_in_take (start_of old level) old.assignment.trail.items k no_lit low small))

  -- the places behind the first are before the level
  lower : (i : ℕ) → 0 < i → i < length picked → get_or picked i 0 < start_of old level
  lower i after small =
      let is = at.many (omega (arith, after, small)) in
      let high = is.after level (omega arith) (known (omega (arith, small))) in
      let first : get_or picked i 0 ≤ get_or picked 1 0 = elim (lt_or 1 i) [
        | inl later ↦ omega (arith, unique.descend 1 i later small)
        | inr same ↦
            let e : i ≡ 1 = omega (arith, same, after) in
            subst (λ n. get_or picked n 0 ≤ get_or picked 1 0) (sym e) (omega arith)
      ] in
      omega (arith, first, high, start_is level (known (omega (arith, small))))

  pub asserts : 0 < length picked → IsAsserting all new (falses_at old.assignment.trail.items picked)
  asserts some =
      let T = old.assignment.trail.items in
      let first = named 0 some in
      record {
        ready = record {
          ordered = Leveled.back_ordered all old new level ordered back;
          held = λ k d small. Leveled.back_held all old new level ordered back (get_or all k d) (held (omega (arith, known some)) k d small);
          propagates = Leveled.back_propagated all old new level ordered back (known some);
        };
        some = omega (arith, some, count_lits);
        below = subst (λ n. All (λ (l : Lit). l.var < n) (falses_at T picked)) (sym back.forgets.variables) below_vars;
        not_true = λ is.
            let true_l : IsTrueIn new.assignment.values (false_at T (get_or picked 0 0)) = subst (IsTrueIn new.assignment.values) first is in
            unset some (false_at T (get_or picked 0 0)) refl (back.forgets.truths.in_trail (false_at T (get_or picked 0 0)) true_l);
        not_false = λ is.
            let false_l : IsFalseIn new.assignment.values (false_at T (get_or picked 0 0)) = subst (IsFalseIn new.assignment.values) first is in
            unset some (opposite (false_at T (get_or picked 0 0))) refl (back.forgets.truths.in_trail (opposite (false_at T (get_or picked 0 0))) false_l);
        others = λ i after small.
            let fits : i < length picked = omega (arith, small, count_lits) in
            subst (IsFalseIn new.assignment.values) (sym (named i fits))
            (false_of new.assignment.values (lit_at T (get_or picked i 0)) (true_still (get_or picked i 0) (lower i after fits) (inside i fits)));
        second = λ many j small among.
            let fits : 1 < length picked = omega (arith, many, count_lits) in
            let count = Leveled.count all old new level ordered back in
            let is = at.many fits in
            let there : Contains (take (start_of old j) T) (lit_at T (get_or picked 1 0)) =
            subst (Contains (take (start_of old j) T)) (ap opposite (named 1 fits) ∙ twice_opposite (lit_at T (get_or picked 1 0)))
            (subst (λ front. Contains front (opposite (lit_at (falses_at T picked) 1))) (Leveled.front_same all old new level ordered back j small) among) in
            let (q, low, small_q, at_q) = before_place T (start_of old j) (lit_at T (get_or picked 1 0)) there in
            let one : q ≡ get_or picked 1 0 = apart_places old.assignment ordered.reasoned.placed q (get_or picked 1 0) small_q (inside 1 fits) (ap (λ (x : Lit). x.var) at_q) in
            let before = is.before j (omega (arith, small, count)) in
            omega (arith, low, one, before, start_is j (omega (arith, small, count)));
        alone = λ one.
            let none : level ≡ 0 = at.one (omega (arith, one, count_lits)) in
            omega (arith, none, Leveled.count all old new level ordered back);
      }
    where
      below_vars : All (λ (l : Lit). l.var < length old.assignment.values) (falses_at old.assignment.trail.items picked)
      below_vars = all_of (λ (l : Lit). l.var < length old.assignment.values) (falses_at old.assignment.trail.items picked) (λ l among.
          let (k, there, is) = in_map (false_at old.assignment.trail.items) picked l among in
          subst (λ (x : Lit). x.var < length old.assignment.values) is (ordered.whole.truths.below k no_lit (unique.within k there)))

-- so are those that are learnt
cut_of : (all : List (List Lit)) (s : Search) (picked hints : List ℕ) → IsLearnable all s picked hints → HaveUniquePoint s picked
cut_of all s picked hints learn = record {
  within = learn.within;
  descend = learn.descend;
  level = learn.level;
  known = learn.known;
  first = learn.first;
  rest = learn.rest;
}

module _ (all : List (List Lit)) (old new : Search) (picked hints : List ℕ) (level : ℕ) (ordered : IsOrdered all old) (learn : IsLearnable all old picked hints)
    (at : IsAssertionLevel old.starts.items picked level) (back : Backjumps level old new) (held : 0 < length old.starts.items → All (IsHeld old) all) where
  pub hinted : IsHinted all (length old.assignment.values) (falses_at old.assignment.trail.items picked) hints
  hinted = record {
    below = all_of (λ (l : Lit). l.var < length old.assignment.values) (falses_at old.assignment.trail.items picked) (λ l among.
        let (k, there, is) = in_map (false_at old.assignment.trail.items) picked l among in
        subst (λ (x : Lit). x.var < length old.assignment.values) is (ordered.whole.truths.below k no_lit (learn.within k there)));
    signs = λ l one other.
        let T = old.assignment.trail.items in
        let truths = ordered.whole.truths in
        let (k, there, is) = in_map (false_at T) picked l one in
        let (j, also, at_j) = in_map (false_at T) picked (opposite l) other in
        let true_k : IsTrueIn old.assignment.values (lit_at T k) = truths.true_in (lit_at T k) (lit_in T k (learn.within k there)) in
        let true_j : IsTrueIn old.assignment.values (lit_at T j) = truths.true_in (lit_at T j) (lit_in T j (learn.within j also)) in
        let k_is : lit_at T k ≡ opposite l = sym (twice_opposite (lit_at T k)) ∙ ap opposite is in
        let j_is : lit_at T j ≡ l = sym (twice_opposite (lit_at T j)) ∙ ap opposite at_j ∙ twice_opposite l in
        not_both old.assignment.values l (subst (IsTrueIn old.assignment.values) j_is true_j) (subst (IsTrueIn old.assignment.values) k_is true_k);
    numbers = learn.numbers;
    units = learn.units;
  }

  pub prepared : IsPrepared all (length old.assignment.values) new (falses_at old.assignment.trail.items picked) hints
  prepared = record {
    variables = back.forgets.variables;
    hinted = hinted;
    asserts = elim (nil_or picked) [ inl none ↦ inl (ap (falses_at old.assignment.trail.items) none) | inr some ↦ inr (asserts all old new picked level ordered (cut_of all old picked hints learn) at back held some) ];
  }
