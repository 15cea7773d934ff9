-- A state in which ends don't share meets a formula with a level: its level is the greater of two flows.
use Rattle.std.proofs.Common.{◌≡◌, ℕ, ◌<◌, ◌≤◌, ◌+◌, ◌*◌, ◌-◌, ◌==◌, ◌⊎◌, inl, inr, Bool, true, false, ℤ, ◌<ℤ◌, List, [], ◌∷◌, ◌++◌, length, get_or, cond, ltb, ap, sym, ◌∙◌, refl, subst, arith, zero, suc, length-append}
use Rattle.std.specs.List.{AllByRecursion, flat_map, range_with_len}
use Rattle.std.proofs.lemmas.Int.{ints}
use Rattle.std.proofs.lemmas.Bool.{lt-ltb, le-ltb, cases_eq, eq-eqb, eqb-true}
use Rattle.std.proofs.lemmas.Option.{slice_get_within}
use Rattle.bt_frac.specs.Ratio.{Ratio}
use Rattle.bt_frac.specs.Rows.{RowParts}
use Rattle.bt_frac.specs.Values.{RowHolds}
use Rattle.bt_net.specs.declared.network.Edge.{Edge}
use Rattle.bt_net.specs.Network.{Network, IsNetwork}
use Rattle.bt_flow.specs.declared.ports.End.{End}
use Rattle.bt_flow.specs.declared.ports.End.TheVariants.{Input, Output}
use Rattle.bt_flow.specs.declared.property.Property.TheVariants.{Fair}
use Rattle.bt_flow.specs.Ports.{plays, role_of}
use Rattle.bt_flow.specs.States.{Flows, IsStateOf, flow_at, backed_at}
use Rattle.bt_flow.specs.Steady.{HasEdge, IsSteady}
use Rattle.bt_flow.specs.Properties.{IsAdmissible}
use Rattle.bt_flow.specs.inner.Shares.{Shares, limit_at}
use Rattle.bt_cnf.specs.declared.literal.Lit.{Lit}
use Rattle.bt_cnf.specs.Formulas.{FormulaParts, LitsBelow, IsFormula}
use Rattle.bt_cnf.specs.Meeting.{MeetsClause, Meets}
use Rattle.bt_flow_formula.specs.declared.level.LevelRow.TheVariants.{Below, Short, Reached}
use Rattle.bt_flow_formula.specs.Families.{family_clauses, families}
use Rattle.bt_flow_formula.specs.Numbering.{rows_in, atoms_from, formula_of}
use Rattle.bt_flow_formula.specs.FlowFormula.{flow_clauses, variable_of}
use Rattle.bt_flow_formula.specs.Laws.{IsMetWith}
use Rattle.bt_flow_formula.specs.Levels.{level_column, end_count, end_edge, limit_column, level_row, level_rows, some_of, implies, each_implies, level_clauses, with_level}
use Rattle.bt_flow_formula.proofs.Numbers.{all_from, all_to}
use Rattle.bt_flow_formula.proofs.RowValues as rows
use Rattle.bt_flow_formula.proofs.Withins.{each-append, each-map, each-range}
use Rattle.bt_flow_formula.proofs.Orders.{at_most_or}
use Rattle.bt_flow_formula.proofs.Named.{flow_named}
use Rattle.bt_flow_formula.proofs.FlowRows.{flow_rows}
use Rattle.bt_flow_formula.proofs.Formulas.{numbered_is_formula}
use Rattle.bt_flow_formula.proofs.Admitted.{column_of, flow_column, load_column_is, room_column_is, True, families_true}
use Rattle.bt_flow_formula.proofs.TrueClaims.{true_claims_meet}
use Rattle.bt_flow_formula.proofs.Leveled.{atoms_all, to_none, whole, some_met, end_is, edge_of_end}

-- ---- an assignment that is changed past the variables of a formula

bool_or : (b : Bool) → (b ≡ true) ⊎ (b ≡ false)
bool_or true = inl refl
bool_or false = inr refl

one_of : (a b c : Bool) → cond a true (cond b true c) ≡ true → (a ≡ true) ⊎ ((b ≡ true) ⊎ (c ≡ true))
one_of true b c e = inl refl
one_of false true c e = inr (inl refl)
one_of false false c e = inr (inr e)

clause_same : (f g : ℕ → Bool) (vars : ℕ) → ((v : ℕ) → v < vars → g v ≡ f v) → (lits : List Lit) → LitsBelow vars lits → MeetsClause f lits → MeetsClause g lits
clause_same f g vars same lits below (k, l, less, e, p) =
    (k, l, less, e, same l.var (subst (λ x. x.var < vars) e (below k l less)) ∙ p)

atoms_below : (m end : ℕ) (rows : List RowParts) → m + length rows ≤ end → AllByRecursion (λ a. a.0 < end) (atoms_from m rows)
atoms_below m end [] l = tt
atoms_below m end (row ∷ rows) l = (omega (arith, l), atoms_below (m + 1) end rows (omega (arith, l)))

past : (xs : List ℤ) (k : ℕ) (d : ℤ) → length xs ≤ k → get_or xs k d ≡ d
past [] zero d l = refl
past [] (suc k) d l = refl
past (x ∷ xs) zero d l = absurd (omega (arith, l))
past (x ∷ xs) (suc k) d l = past xs k d (omega (arith, l))

-- ---- a search among numbers

search_for : (P : ℕ → Type 0) → ((k : ℕ) → P k ⊎ (P k → ⊥)) → (c : ℕ) → ((k : ℕ) × (k < c) × P k) ⊎ ((k : ℕ) → k < c → P k → ⊥)
search_for P decide zero = inr (λ k l p. omega (arith, l))
search_for P decide (suc c) =
    elim (search_for P decide c) [
      | inl found ↦ inl (found.0, (let l = found.1 in omega (arith, l)), found.2)
      | inr none ↦ elim (decide c) [
        | inl p ↦ inl (c, omega arith, p)
        | inr not ↦ inr (λ k l p. elim (at_or_below k c l) [ inl e ↦ not (subst P e p) | inr m ↦ none k m p ])
      ]
    ]
  where
    at_or_below : (k c : ℕ) → k < suc c → (k ≡ c) ⊎ (k < c)
    at_or_below k c l = elim (cases_eq k c) [ inl e ↦ inl e | inr o ↦ inr (omega (arith, l, o)) ]

-- an end is short and carries less than another
pub record IsUnfair (n : Network) (end : End) (s : Flows) : Type 0 where
  pub low : ℕ
  pub high : ℕ
  pub low_is : low < end_count n end
  pub high_is : high < end_count n end
  pub short : flow_at s (end_edge n end low) <ℤ limit_at end s low
  pub less : flow_at s (end_edge n end low) <ℤ flow_at s (end_edge n end high)

less_or_not : (x y : ℤ) → (x <ℤ y) ⊎ (x <ℤ y → ⊥)
less_or_not x y = elim (at_most_or y x) [ inl l ↦ inr (λ h. omega (arith, ints, l, h)) | inr g ↦ inl g ]

-- one end is short and carries less than another
abbrev IsLower : Network → End → Flows → ℕ → ℕ → Type 0
IsLower n end s i j = (flow_at s (end_edge n end i) <ℤ limit_at end s i) × (flow_at s (end_edge n end i) <ℤ flow_at s (end_edge n end j))

-- it carries less than some other
abbrev IsLow : Network → End → Flows → ℕ → Type 0
IsLow n end s i = (j : ℕ) × (j < end_count n end) × IsLower n end s i j

pub unfair : (n : Network) → IsNetwork n → (end : End) (s : Flows) → (Shares n end s → ⊥) → IsUnfair n end s
unfair n is end s fails =
    elim (search_for (IsLow n end s) low_or (end_count n end)) [
      | inl found ↦ record { low = found.0; high = found.2.0; low_is = found.1; high_is = found.2.1; short = found.2.2.0; less = found.2.2.1 }
      | inr none ↦ absurd (fails (λ i j a b e f p q u v short.
          let x = edge_of_end n is end i a e p u in
          let y = edge_of_end n is end j b f q v in
          elim (at_most_or (flow_at s b) (flow_at s a)) [
            | inl l ↦ l
            | inr g ↦ absurd (none i x.0 (j, y.0, (subst (λ k. flow_at s k <ℤ limit_at end s i) x.1 short, subst (λ k. flow_at s k <ℤ flow_at s (end_edge n end j)) x.1 (subst (λ k. flow_at s a <ℤ flow_at s k) y.1 g))))
          ]))
    ]
  where
    pair_or : (i j : ℕ) → IsLower n end s i j ⊎ (IsLower n end s i j → ⊥)
    pair_or i j =
        elim (less_or_not (flow_at s (end_edge n end i)) (limit_at end s i)) [
          | inl x ↦ elim (less_or_not (flow_at s (end_edge n end i)) (flow_at s (end_edge n end j))) [ inl y ↦ inl (x, y) | inr o ↦ inr (λ z. o z.1) ]
          | inr o ↦ inr (λ z. o z.0)
        ]

    low_or : (i : ℕ) → IsLow n end s i ⊎ (IsLow n end s i → ⊥)
    low_or i = elim (search_for (IsLower n end s i) (pair_or i) (end_count n end)) [ inl found ↦ inl found | inr none ↦ inr (λ z. none z.0 z.1 z.2) ]

-- ---- the assignment and the values of such a state

module _ (n : Network) (is : IsNetwork n) (s : Flows) (state : IsStateOf n s) (admits : IsAdmissible n s) (steady : IsSteady n s) (end : End) (u : IsUnfair n end s) where
  abbrev level : ℤ
  level = flow_at s (end_edge n end u.high)

  abbrev pub values : ℕ → Ratio
  values = rows.over (column_of s level) s.denominator

  abbrev front : FormulaParts
  front = formula_of (variable_of n) (length n.edges) (flow_clauses n Fair)

  base : IsMetWith (variable_of n) (length n.edges) (flow_clauses n Fair) (backed_at s) values
  base =
      true_claims_meet (variable_of n) (length n.edges) (flow_clauses n Fair) (backed_at s) values (flow_named n is Fair)
      (each-append (True n is s state level steady) (flat_map (family_clauses n) families) [] (families_true n is s state level steady admits) tt)

  is_front : IsFormula front
  is_front = numbered_is_formula (variable_of n) (length n.edges) (flow_clauses n Fair) (flow_named n is Fair) (flow_rows n is Fair)

  -- behind the formula three variables are true: that the one end is below the level, that it is short, and that the
  -- other reaches the level
  picked : ℕ → Bool
  picked m = cond (m == u.low) true (cond (m == (end_count n end + u.low)) true (m == (2 * end_count n end + u.high)))

  pub assignment : ℕ → Bool
  assignment v = cond (ltb v front.vars) (base.assignment v) (picked (v - front.vars))

  before : (v : ℕ) → v < front.vars → assignment v ≡ base.assignment v
  unfolding assignment
  before v l = ap (λ t. cond t (base.assignment v) (picked (v - front.vars))) (lt-ltb v front.vars l)

  behind : (m : ℕ) → assignment (front.vars + m) ≡ picked m
  unfolding assignment
  behind m =
      let v = front.vars + m in
      ap (λ t. cond t (base.assignment v) (picked (v - front.vars))) (le-ltb v front.vars (omega arith)) ∙ ap picked (let e : front.vars + m - front.vars ≡ m = omega arith in e)

  picked_low : picked u.low ≡ true
  unfolding picked
  picked_low = ap (λ t. cond t true (cond (u.low == (end_count n end + u.low)) true (u.low == (2 * end_count n end + u.high)))) (eq-eqb u.low u.low refl)

  second : (b : Bool) → cond b true true ≡ true
  second true = refl
  second false = refl

  third : (a b : Bool) → cond a true (cond b true true) ≡ true
  third true b = refl
  third false true = refl
  third false false = refl

  picked_short : picked (end_count n end + u.low) ≡ true
  unfolding picked
  picked_short =
      let m = end_count n end + u.low in
      ap (λ t. cond (m == u.low) true (cond t true (m == (2 * end_count n end + u.high)))) (eq-eqb m m refl) ∙ second (m == u.low)

  picked_high : picked (2 * end_count n end + u.high) ≡ true
  unfolding picked
  picked_high =
      let m = 2 * end_count n end + u.high in
      ap (λ t. cond (m == u.low) true (cond (m == (end_count n end + u.low)) true t)) (eq-eqb m m refl) ∙ third (m == u.low) (m == (end_count n end + u.low))

  picked_is : (m : ℕ) → picked m ≡ true → (m ≡ u.low) ⊎ ((m ≡ end_count n end + u.low) ⊎ (m ≡ 2 * end_count n end + u.high))
  unfolding picked
  picked_is m e =
      elim (one_of (m == u.low) (m == (end_count n end + u.low)) (m == (2 * end_count n end + u.high)) e) [
        | inl x ↦ inl (eqb-true m u.low x)
        | inr y ↦ elim y [ inl x ↦ inr (inl (eqb-true m (end_count n end + u.low) x)) | inr x ↦ inr (inr (eqb-true m (2 * end_count n end + u.high) x)) ]
      ]

  -- which end a true variable behind the formula is about
  is_low : (k : ℕ) → k < end_count n end → assignment (front.vars + k) ≡ true → k ≡ u.low
  is_low k l t =
      let a = u.low_is in
      let b = u.high_is in
      elim (picked_is k (sym (behind k) ∙ t)) [ inl e ↦ e | inr x ↦ elim x [ inl e ↦ absurd (omega (arith, e, l)) | inr e ↦ absurd (omega (arith, e, l)) ] ]

  is_short : (k : ℕ) → k < end_count n end → assignment (front.vars + end_count n end + k) ≡ true → k ≡ u.low
  is_short k l t =
      let a = u.low_is in
      let same : front.vars + end_count n end + k ≡ front.vars + (end_count n end + k) = omega arith in
      elim (picked_is (end_count n end + k) (sym (behind (end_count n end + k)) ∙ ap assignment (sym same) ∙ t)) [
        | inl e ↦ absurd (omega (arith, e, a))
        | inr x ↦ elim x [ inl e ↦ omega (arith, e) | inr e ↦ absurd (omega (arith, e, l)) ]
      ]

  is_high : (k : ℕ) → k < end_count n end → assignment (front.vars + 2 * end_count n end + k) ≡ true → k ≡ u.high
  is_high k l t =
      let a = u.low_is in
      let same : front.vars + 2 * end_count n end + k ≡ front.vars + (2 * end_count n end + k) = omega arith in
      elim (picked_is (2 * end_count n end + k) (sym (behind (2 * end_count n end + k)) ∙ ap assignment (sym same) ∙ t)) [
        | inl e ↦ absurd (omega (arith, e, a))
        | inr x ↦ elim x [ inl e ↦ absurd (omega (arith, e, a)) | inr e ↦ omega (arith, e) ]
      ]

  -- ---- the rows of the three

  low_edge : (e : Edge) × HasEdge n (end_edge n end u.low) e × (plays (role_of end) u.low e ≡ true)
  low_edge = end_is n is end u.low u.low_is

  high_edge : (e : Edge) × HasEdge n (end_edge n end u.high) e × (plays (role_of end) u.high e ≡ true)
  high_edge = end_is n is end u.high u.high_is

  low_flow : column_of s level (end_edge n end u.low) ≡ flow_at s (end_edge n end u.low)
  low_flow = flow_column n is s state level (end_edge n end u.low) (slice_get_within n.edges (end_edge n end u.low) low_edge.0 low_edge.1)

  high_flow : column_of s level (end_edge n end u.high) ≡ flow_at s (end_edge n end u.high)
  high_flow = flow_column n is s state level (end_edge n end u.high) (slice_get_within n.edges (end_edge n end u.high) high_edge.0 high_edge.1)

  limit_is : (end : End) (k : ℕ) → k < end_count n end → column_of s level (limit_column n end k) ≡ limit_at end s k
  limit_is Input k l = load_column_is n is s state level k l
  limit_is Output k l = room_column_is n is s state level k l

  level_is : column_of s level (level_column n) ≡ level
  level_is =
      let f = state.flows in
      let g = state.loads in
      let h = state.rooms in
      let more = length-append s.flows s.loads in
      let most = length-append (s.flows ++ s.loads) s.rooms in
      past (s.flows ++ s.loads ++ s.rooms) (level_column n) level (omega (arith, f, g, h, more, most))

  low_row : RowHolds (level_row n end Below u.low) values
  low_row =
      let a = low_flow in
      let b = level_is in
      let l = u.less in
      rows.above_holds (column_of s level) s.denominator state.positive (level_column n) (end_edge n end u.low) (omega (arith, ints, a, b, l))

  short_row : RowHolds (level_row n end Short u.low) values
  short_row =
      let a = low_flow in
      let b = limit_is end u.low u.low_is in
      let l = u.short in
      rows.above_holds (column_of s level) s.denominator state.positive (limit_column n end u.low) (end_edge n end u.low) (omega (arith, ints, a, b, l))

  high_row : RowHolds (level_row n end Reached u.high) values
  high_row =
      let a = high_flow in
      let b = level_is in
      rows.not_below_holds (column_of s level) s.denominator state.positive (end_edge n end u.high) (level_column n) (omega (arith, ints, a, b))

  -- ---- the formula is met

  abbrev True_at : ℕ × RowParts → Type 0
  True_at x = assignment x.0 ≡ true → RowHolds x.1 values

  level_atoms : AllByRecursion True_at (atoms_from front.vars (level_rows n end))
  level_atoms =
      whole n end True_at front.vars
      (atoms_all True_at (level_row n end Below) front.vars 0 (end_count n end) (λ k l. to_none (level_row n end Below) front.vars k True_at (λ t.
      subst (λ j. RowHolds (level_row n end Below j) values) (sym (is_low k l t)) low_row)))
      (atoms_all True_at (level_row n end Short) (front.vars + end_count n end) 0 (end_count n end) (λ k l. to_none (level_row n end Short) (front.vars + end_count n end) k True_at (λ t.
      subst (λ j. RowHolds (level_row n end Short j) values) (sym (is_short k l t)) short_row)))
      (atoms_all True_at (level_row n end Reached) (front.vars + 2 * end_count n end) 0 (end_count n end) (λ k l. to_none (level_row n end Reached) (front.vars + 2 * end_count n end) k True_at (λ t.
      subst (λ j. RowHolds (level_row n end Reached j) values) (sym (is_high k l t)) high_row)))

  implied : (k : ℕ) → k < end_count n end → MeetsClause assignment (implies (front.vars + k) (front.vars + end_count n end + k))
  implied k l =
      elim (bool_or (assignment (front.vars + k))) [
        | inr unset ↦ (0, record { var = front.vars + k; positive = false }, (omega arith), refl, unset)
        | inl set ↦
            let same : front.vars + end_count n end + k ≡ front.vars + (end_count n end + u.low) = let e = is_low k l set in omega (arith, e) in
            (1, record { var = front.vars + end_count n end + k; positive = true }, (omega arith), refl, ap assignment same ∙ behind (end_count n end + u.low) ∙ picked_short)
      ]

  level_met : AllByRecursion (MeetsClause assignment) (level_clauses front.vars (end_count n end))
  level_met =
      let high : front.vars + 2 * end_count n end + u.high ≡ front.vars + (2 * end_count n end + u.high) = omega arith in (
        some_met assignment front.vars (end_count n end) u.low u.low_is (behind u.low ∙ picked_low),
        each-append (MeetsClause assignment) (each_implies front.vars (end_count n end)) (some_of (front.vars + 2 * end_count n end) (end_count n end) ∷ [])
            (each-map (MeetsClause assignment) (λ k. k < end_count n end) (λ k. implies (front.vars + k) (front.vars + end_count n end + k)) (range_with_len 0 (end_count n end))
            (each-range (λ k. k < end_count n end) 0 (end_count n end) (λ k l m. omega (arith, m))) (λ k l. implied k l))
            (some_met assignment (front.vars + 2 * end_count n end) (end_count n end) u.high u.high_is (ap assignment high ∙ behind (2 * end_count n end + u.high) ∙ picked_high), tt),
      )

  pub unfair_meets : Meets (with_level n end front) assignment values
  unfair_meets = record {
    clauses = all_from (MeetsClause assignment) (front.clauses ++ level_clauses front.vars (end_count n end))
        (each-append (MeetsClause assignment) front.clauses (level_clauses front.vars (end_count n end))
        (all_to (MeetsClause assignment) front.clauses (λ k d l. clause_same base.assignment assignment front.vars before (get_or front.clauses k d) (is_front.clauses k d l) (base.meets.clauses k d l)))
        level_met);
    atoms = all_from True_at (front.atoms ++ atoms_from front.vars (level_rows n end))
        (each-append True_at front.atoms (atoms_from front.vars (level_rows n end))
        (all_to True_at front.atoms (λ k d l t.
        let low = all_from (λ a. a.0 < front.vars) front.atoms (atoms_below (length n.edges) front.vars (rows_in (flow_clauses n Fair)) (omega arith)) k d l in
        base.meets.atoms k d l (sym (before (get_or front.atoms k d).0 low) ∙ t)))
        level_atoms);
  }

  pub begins : (a : ℕ) → a < length n.edges → assignment a ≡ backed_at s a
  begins a l = before a (omega (arith, l)) ∙ base.begins a l
