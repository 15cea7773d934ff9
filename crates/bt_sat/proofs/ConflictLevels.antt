-- The level of a conflict.
use Rattle.std.proofs.Common.{◌≡◌, ℕ, ◌≤◌, ◌<◌, ◌+◌, ◌-◌, inl, inr, arith, List, length, get_or, sym, subst, refl, Some}
use Rattle.std.specs.Prelude.{Contains}
use Rattle.std.proofs.lemmas.List.{get_or_default}
use Rattle.bt_watch.specs.declared.search.Search.{Search}
use Rattle.bt_watch.specs.Levels.{start_of, IsLevelOf}
use Rattle.bt_watch.specs.Agendas.{IsGreatest, Reaches}
use Rattle.bt_sat.specs.inner.Analysing.{IsTopLevel, IsConflictLevel}
use Rattle.bt_cnf.proofs.Lists.{lt_or, past}

module _ (s : Search) where
  -- the start of a level, which has one
  pub start_at : (level d : ℕ) → level < length s.starts.items → start_of s level ≡ get_or s.starts.items level d
  start_at level d small = get_or_default s.starts.items level (length s.assignment.trail.items) d small

  -- how many levels begin at the greatest place or before it
  pub top_level : (agenda : List ℕ) (place level : ℕ) → ((k : ℕ) → Contains agenda k → k < length s.assignment.trail.items) → IsGreatest agenda (Some place) → IsLevelOf s.starts.items place level
      → IsTopLevel s agenda level
  top_level agenda place level inside greatest is = record {
    within = is.within;
    under = λ k among. elim (lt_or level (length s.starts.items)) [
      | inl small ↦
          let high = is.after level (omega arith) small in
          omega (arith, high, start_at level 0 small, greatest.1 k among)
      | inr none ↦ subst (λ n. k < n) (sym (past s.starts.items level (length s.assignment.trail.items) none)) (inside k among)
    ];
    reached = λ some.
        let small : level - 1 < length s.starts.items = omega (arith, some, is.within) in
        let low = is.before (level - 1) (omega (arith, some)) in
        (place, greatest.0, omega (arith, low, start_at (level - 1) 0 small));
  }

  -- so that is the level of a conflict
  pub cut_low : (agenda : List ℕ) (level root : ℕ) → IsTopLevel s agenda level → level ≤ 0 → root ≡ start_of s 0 → IsConflictLevel s agenda (record { root = root; current = root })
  cut_low agenda level root top none is =
      let zero_level : level ≡ 0 = omega (arith, none) in
      record { root = is; cuts = inl (record { none = refl; under = λ k among. subst (λ n. k < start_of s n) zero_level (top.under k among) }) }

  pub cut_high : (agenda : List ℕ) (level root current : ℕ) → IsTopLevel s agenda level → 0 < level → root ≡ start_of s 0 → current ≡ start_of s (level - 1)
      → IsConflictLevel s agenda (record { root = root; current = current })
  cut_high agenda level root current top some is at =
      let next : level - 1 + 1 ≡ level = omega (arith, some) in
      record {
        root = is;
        cuts = inr (record {
          level = level - 1;
          within = omega (arith, some, top.within);
          current = at;
          under = λ k among. subst (λ n. k < start_of s n) (sym next) (top.under k among);
          none = λ e. subst (Reaches agenda) (sym at) (top.reached some);
          first = λ more. absurd (omega (arith, more));
          rest = λ i after small. absurd (omega (arith, small));
          left = λ more. absurd (omega (arith, more));
        });
      }
