-- After clauses over which propagation meets a false clause, only the empty step is fresh.
use Rattle.std.proofs.Common.{◌≡◌, ◌⊎◌, inl, inr, Bool, true, false, not, List, [], ◌∷◌, ℕ, sym, subst, refl, ◌∙◌}
use Rattle.std.specs.Prelude.{Contains}
use Rattle.std.specs.List.{All}
use Rattle.std.proofs.lemmas.List.Elements.{All-cons, All-contains, All-nil}
use Rattle.std.proofs.lemmas.Bool.{false≢true}
use Rattle.bt_cnf.specs.Meeting.{IsTrueUnder, MeetsClause}
use Rattle.bt_cnf.specs.declared.literal.Lit.{Lit}
use Rattle.bt_log.specs.Logs.{Lemma, Learnt}
use Rattle.bt_cnf.specs.Units.{opposite}
use Rattle.bt_watch.specs.Propagation.{IsFalseClause, MeetsFalse, Reaches, begins, goes_on}
use Rattle.bt_sat.specs.Laws.{OnlyEmptyAfterConflict}
use Rattle.bt_cnf.proofs.Lists.{contains_here, contains_or, contains_there, all_of}

-- what is reached has these literals false, and perhaps more
record ReachesAll (clauses : List (List Lit)) (begun falses : List Lit) : Type 0 where
  reached : List Lit
  by : Reaches clauses begun reached
  all : All (Contains reached) falses

-- a clause whose literals are all false or this one is false where this one is
false_with : (more clause : List Lit) (falses : List Lit) (l : Lit) → All (Contains more) falses → All (λ m. (m ≡ l) ⊎ Contains falses m) clause → Contains more l → IsFalseClause more clause
false_with more clause falses l all others false_l =
    all_of (Contains more) clause (λ m among. elim (All-contains (λ x. (x ≡ l) ⊎ Contains falses x) clause m others among) [
      | inl same ↦ subst (Contains more) (sym same) false_l
      | inr before ↦ All-contains (Contains more) falses m all before
    ])

-- propagation that begins with more false literals comes to a false clause, or at least as far
reaches_more : (clauses : List (List Lit)) (begun falses : List Lit) → Reaches clauses [] falses → MeetsFalse clauses begun ⊎ ReachesAll clauses begun falses
reaches_more clauses begun _ begins = inr (record { reached = begun; by = begins; all = All-nil (Contains begun) })
reaches_more clauses begun _ (goes_on falses clause l before among unit) =
    elim (reaches_more clauses begun falses before) [
      | inl met ↦ inl met
      | inr so_far ↦ elim (contains_or so_far.reached l) [
        | inl false_l ↦ inl (record { falses = so_far.reached; reached = so_far.by; clause = clause; among = among; is_false = false_with so_far.reached clause falses l so_far.all unit.others false_l })
        | inr unset ↦ elim (contains_or so_far.reached (opposite l)) [
          | inl made ↦ inr (record { reached = so_far.reached; by = so_far.by; all = All-cons (Contains so_far.reached) (opposite l) falses made so_far.all })
          | inr not_made ↦
              let longer = opposite l ∷ so_far.reached in
              inr (record {
                reached = longer;
                by = goes_on so_far.reached clause l so_far.by among (record {
                  among = unit.among;
                  unset = unset;
                  not_true = not_made;
                  others = all_of (λ m. (m ≡ l) ⊎ Contains so_far.reached m) clause (λ m inside. elim (All-contains (λ x. (x ≡ l) ⊎ Contains falses x) clause m unit.others inside) [
                    | inl same ↦ inl same
                    | inr false_m ↦ inr (All-contains (Contains so_far.reached) falses m so_far.all false_m)
                  ]);
                });
                all = All-cons (Contains longer) (opposite l) falses (contains_here (opposite l) (opposite l) so_far.reached refl)
                    (all_of (Contains longer) falses (λ m inside. contains_there (opposite l) m so_far.reached (All-contains (Contains so_far.reached) falses m so_far.all inside)));
              })
        ]
      ]
    ]

-- so it meets a false clause where propagation begun with nothing does
meets_more : (clauses : List (List Lit)) (begun : List Lit) → MeetsFalse clauses [] → MeetsFalse clauses begun
meets_more clauses begun met =
    elim (reaches_more clauses begun met.falses met.reached) [
      | inl found ↦ found
      | inr so_far ↦ record {
        falses = so_far.reached;
        reached = so_far.by;
        clause = met.clause;
        among = met.among;
        is_false = all_of (Contains so_far.reached) met.clause (λ m inside. All-contains (Contains so_far.reached) met.falses m so_far.all (All-contains (Contains met.falses) met.clause m met.is_false inside));
      }
    ]

module _ (assignment : ℕ → Bool) where
  NotTrue : Lit → Type 0
  NotTrue l = IsTrueUnder assignment l → ⊥

  -- where all clauses are met, no false literal is true
  none_true : (clauses : List (List Lit)) (falses : List Lit) → All (MeetsClause assignment) clauses → Reaches clauses [] falses → All NotTrue falses
  unfolding NotTrue
  none_true clauses _ all begins = All-nil NotTrue
  none_true clauses _ all (goes_on falses clause l before among unit) =
      let earlier = none_true clauses falses all before in
      let met = All-contains (MeetsClause assignment) clauses clause all among in
      let true_l : IsTrueUnder assignment l =
      elim (subst (λ m. (m ≡ l) ⊎ Contains falses m) met.3 (unit.others met.0 met.1 met.2)) [
        | inl same ↦ subst (IsTrueUnder assignment) same met.4
        | inr false_m ↦ absurd (All-contains NotTrue falses met.1 earlier false_m met.4)
      ] in
      All-cons NotTrue (opposite l) falses (λ both. not_both l.positive (sym true_l ∙ both)) earlier
    where
      not_both : (b : Bool) → b ≡ not b → ⊥
      not_both true e = false≢true (sym e)
      not_both false e = false≢true e

  not_met : (clauses : List (List Lit)) → All (MeetsClause assignment) clauses → MeetsFalse clauses [] → ⊥
  unfolding NotTrue
  not_met clauses all found =
      let met = All-contains (MeetsClause assignment) clauses found.clause all found.among in
      All-contains NotTrue found.falses met.1 (none_true clauses found.falses all found.reached)
      (All-contains (Contains found.falses) found.clause met.1 found.is_false (met.0, met.2, met.3)) met.4

pub only_empty_after_conflict : OnlyEmptyAfterConflict
only_empty_after_conflict clauses (Lemma lits weights) found fresh = absurd (not_met fresh.assignment clauses fresh.meets found)
only_empty_after_conflict clauses (Learnt lits hints) found fresh =
    elim fresh [
      | inl none ↦ none
      | inr opens ↦ absurd (opens.1.no_false (meets_more clauses opens.1.others found))
    ]
