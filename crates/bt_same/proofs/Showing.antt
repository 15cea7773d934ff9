-- Each pair of states that shows a difference gives an assignment with values that meets the formula of the two
-- networks.
use Rattle.std.proofs.Common.{◌≡◌, ℕ, ◌<◌, ◌≤◌, ◌+◌, ◌-◌, ◌⊎◌, inl, inr, Bool, true, ℤ, pos, List, [], ◌∷◌, ◌++◌, length, map, get_or, cond, ltb, ap, sym, ◌∙◌, refl, subst, arith, append_assoc}
use Rattle.std.specs.List.{AllByRecursion, flat_map, range_with_len}
use Rattle.std.proofs.lemmas.Bool.{lt-ltb, le-ltb, cases_lt}
use Rattle.std.proofs.lemmas.List.{get_or-append-add, get_or_append_left}
use Rattle.bt_frac.specs.Ratio.{Ratio, IsOver}
use Rattle.bt_frac.specs.Rows.{RowParts}
use Rattle.bt_frac.specs.Values.{AreValues, RowHolds}
use Rattle.bt_net.specs.Network.{Network, IsNetwork}
use Rattle.bt_flow.specs.States.{Flows, flow_at, backed_at}
use Rattle.bt_cnf.specs.declared.literal.Lit.{Lit}
use Rattle.bt_cnf.specs.Formulas.{LitsBelow}
use Rattle.bt_cnf.specs.Meeting.{MeetsClause, Meets}
use Rattle.bt_flow.specs.EndEdges.{output_edge}
use Rattle.bt_flow_formula.specs.Properties.{differ}
use Rattle.bt_flow_formula.specs.Laws.{IsMetWith, HasTrue, values_of}
use Rattle.bt_flow_formula.specs.FlowFormula.{steady_clauses, steady_formula, variable_of}
use Rattle.bt_flow_formula.proofs.Numbers.{all_from, all_to}
use Rattle.bt_flow_formula.proofs.Withins.{each-append, at_range}
use Rattle.bt_flow_formula.proofs.Orders.{order}
use Rattle.bt_flow_formula.proofs.NetEdges.{output_is, edge_of_output}
use Rattle.bt_flow_formula.proofs.RowValues.{above_says}
use Rattle.bt_flow_formula.proofs.Formulas.{steady_is_formula}
use Rattle.bt_flow_formula.proofs.TrueClaims.{true_claims_meet}
use Rattle.bt_flow_formula.proofs.Named.{families_named}
use Rattle.bt_flow_formula.proofs.Admitted.{families_true}
use Rattle.std.proofs.lemmas.Option.{slice_get_within}
use Rattle.bt_same.specs.Sameness.{HaveEqualEnds, IsSteadyState, ShowsDifference}
use Rattle.bt_same.specs.SameFormula.{shifted, first_shift, second_columns, second_vars, moved_lits, moved_atoms, difference, difference_formula, same_formula}
use Rattle.bt_same.specs.Laws.{IsMetByBoth, ShowingMeets}
use Rattle.bt_same.proofs.Lists.{each_weaker}
use Rattle.bt_same.proofs.Moved.{near_is, far_is, clauses_forth, atoms_forth, ascending_below}
use Rattle.bt_same.proofs.Sides.{named}

-- a choice by whether a number is below another
when_less : {X : Type 0} (k n : ℕ) (x y : X) → k < n → cond (ltb k n) x y ≡ x
when_less k n x y l = ap (λ b. cond b x y) (lt-ltb k n l)

when_not : {X : Type 0} (k n : ℕ) (x y : X) → n ≤ k → cond (ltb k n) x y ≡ y
when_not k n x y l = ap (λ b. cond b x y) (le-ltb k n l)

-- a value behind the flows is a load or a room
end_value : (s : Flows) (edges k : ℕ) → length s.flows ≡ edges → values_of s (edges + k) ≡ record { over = get_or (s.loads ++ s.rooms) k (pos 0); under = s.denominator }
end_value s edges k e =
    ap {A = ℕ} {B = Ratio} (λ c. record { over = get_or (s.flows ++ s.loads ++ s.rooms) (c + k) (pos 0); under = s.denominator }) (sym e)
    ∙ ap {A = List ℤ} {B = Ratio} (λ l. record { over = get_or l (length s.flows + k) (pos 0); under = s.denominator }) (append_assoc s.flows s.loads s.rooms)
    ∙ ap {A = ℤ} {B = Ratio} (λ x. record { over = x; under = s.denominator }) (get_or-append-add s.flows (s.loads ++ s.rooms) k (pos 0))

flow_value : (s : Flows) (c : ℕ) → c < length s.flows → values_of s c ≡ record { over = flow_at s c; under = s.denominator }
flow_value s c l =
    ap {A = List ℤ} {B = Ratio} (λ l. record { over = get_or l c (pos 0); under = s.denominator }) (append_assoc s.flows s.loads s.rooms)
    ∙ ap {A = ℤ} {B = Ratio} (λ x. record { over = x; under = s.denominator }) (get_or_append_left s.flows (s.loads ++ s.rooms) (pos 0) c l)

steady_met : (n : Network) → IsNetwork n → (s : Flows) → IsSteadyState n s → IsMetWith (variable_of n) (length n.edges) (steady_clauses n) (backed_at s) (values_of s)
steady_met n is s steady =
    true_claims_meet (variable_of n) (length n.edges) (steady_clauses n) (backed_at s) (values_of s) (families_named n is) (families_true n is s steady.state (pos 0) steady.steady steady.admissible)

module _ (a b : Network) (s t : Flows) (first : IsNetwork a) (second : IsNetwork b) (ends : HaveEqualEnds a b) (shows : ShowsDifference a b s t) where
  abbrev m : ℕ
  m = length a.edges

  abbrev n : ℕ
  n = length b.edges

  abbrev vars_first : ℕ
  vars_first = (steady_formula a).vars

  abbrev vars_second : ℕ
  vars_second = (steady_formula b).vars

  abbrev base : ℕ
  base = vars_first + vars_second

  one : IsMetWith (variable_of a) m (steady_clauses a) (backed_at s) (values_of s)
  one = steady_met a first s shows.first

  other : IsMetWith (variable_of b) n (steady_clauses b) (backed_at t) (values_of t)
  other = steady_met b second t shows.second

  -- the values of both: the flows of the first, those of the second, and the loads and rooms of the first, which are
  -- those of the second
  abbrev v : ℕ → Ratio
  v c = cond (ltb c m) (values_of s c) (cond (ltb c (m + n)) (values_of t (c - m)) (values_of s (c - n)))

  -- the assignment of both, but for the atoms of the difference
  abbrev g : ℕ → Bool
  g x = cond (ltb x m) (one.assignment x) (cond (ltb x (m + n)) (other.assignment (x - m)) (cond (ltb x (vars_first + n)) (one.assignment (x - n)) (other.assignment (x - vars_first))))

  first_value : (c : ℕ) → v (shifted (first_shift a b) c) ≡ values_of s c
  first_value c =
      elim (cases_lt c m) [
        | inl l ↦
            ap v (near_is (first_shift a b) c l ∙ (let z : c + 0 ≡ c = omega arith in z)) ∙ when_less c m (values_of s c) (cond (ltb c (m + n)) (values_of t (c - m)) (values_of s (c - n))) l
        | inr l ↦
            ap v (far_is (first_shift a b) c l)
            ∙ when_not (c + n) m (values_of s (c + n)) (cond (ltb (c + n) (m + n)) (values_of t (c + n - m)) (values_of s (c + n - n))) (omega (arith, l))
            ∙ when_not (c + n) (m + n) (values_of t (c + n - m)) (values_of s (c + n - n)) (omega (arith, l)) ∙ ap (values_of s) (let z : c + n - n ≡ c = omega arith in z)
      ]

  ends_alike : (k : ℕ) → values_of s (m + k) ≡ values_of t (n + k)
  ends_alike k =
      end_value s m k shows.first.state.flows
      ∙ ap {A = List ℤ} {B = Ratio} (λ l. record { over = get_or (l ++ s.rooms) k (pos 0); under = s.denominator }) shows.fed.loads
      ∙ ap {A = List ℤ} {B = Ratio} (λ l. record { over = get_or (t.loads ++ l) k (pos 0); under = s.denominator }) shows.fed.rooms
      ∙ ap {A = ℕ} {B = Ratio} (λ d. record { over = get_or (t.loads ++ t.rooms) k (pos 0); under = d }) shows.fed.denominator ∙ sym (end_value t n k shows.second.state.flows)

  second_value : (c : ℕ) → v (shifted (second_columns a b) c) ≡ values_of t c
  second_value c =
      elim (cases_lt c n) [
        | inl l ↦
            ap v (near_is (second_columns a b) c l)
            ∙ when_not (c + m) m (values_of s (c + m)) (cond (ltb (c + m) (m + n)) (values_of t (c + m - m)) (values_of s (c + m - n))) (omega arith)
            ∙ when_less (c + m) (m + n) (values_of t (c + m - m)) (values_of s (c + m - n)) (omega (arith, l)) ∙ ap (values_of t) (let z : c + m - m ≡ c = omega arith in z)
        | inr l ↦
            ap v (far_is (second_columns a b) c l)
            ∙ when_not (c + m) m (values_of s (c + m)) (cond (ltb (c + m) (m + n)) (values_of t (c + m - m)) (values_of s (c + m - n))) (omega arith)
            ∙ when_not (c + m) (m + n) (values_of t (c + m - m)) (values_of s (c + m - n)) (omega (arith, l)) ∙ ap (values_of s) (let z : c + m - n ≡ m + (c - n) = omega (arith, l) in z)
            ∙ ends_alike (c - n) ∙ ap (values_of t) (let z : n + (c - n) ≡ c = omega (arith, l) in z)
      ]

  are_values : AreValues v
  are_values c =
      elim (cases_lt c m) [
        | inl l ↦ subst (λ r. 0 < r.under) (sym (when_less c m (values_of s c) (cond (ltb c (m + n)) (values_of t (c - m)) (values_of s (c - n))) l)) shows.first.state.positive
        | inr l ↦ subst (λ r. 0 < r.under) (sym (when_not c m (values_of s c) (cond (ltb c (m + n)) (values_of t (c - m)) (values_of s (c - n))) l)) (elim (cases_lt c (m + n)) [
          | inl k ↦ subst (λ r. 0 < r.under) (sym (when_less c (m + n) (values_of t (c - m)) (values_of s (c - n)) k)) shows.second.state.positive
          | inr k ↦ subst (λ r. 0 < r.under) (sym (when_not c (m + n) (values_of t (c - m)) (values_of s (c - n)) k)) shows.first.state.positive
        ])
      ]

  first_agrees : (x : ℕ) → x < vars_first → g (shifted (first_shift a b) x) ≡ one.assignment x
  first_agrees x below =
      elim (cases_lt x m) [
        | inl l ↦
            ap g (near_is (first_shift a b) x l ∙ (let z : x + 0 ≡ x = omega arith in z))
            ∙ when_less x m (one.assignment x) (cond (ltb x (m + n)) (other.assignment (x - m)) (cond (ltb x (vars_first + n)) (one.assignment (x - n)) (other.assignment (x - vars_first)))) l
        | inr l ↦
            let y : ℕ = x + n in
            ap g (far_is (first_shift a b) x l)
            ∙ when_not y m (one.assignment y) (cond (ltb y (m + n)) (other.assignment (y - m)) (cond (ltb y (vars_first + n)) (one.assignment (y - n)) (other.assignment (y - vars_first)))) (omega (arith, l))
            ∙ when_not y (m + n) (other.assignment (y - m)) (cond (ltb y (vars_first + n)) (one.assignment (y - n)) (other.assignment (y - vars_first))) (omega (arith, l))
            ∙ when_less y (vars_first + n) (one.assignment (y - n)) (other.assignment (y - vars_first)) (omega (arith, below)) ∙ ap one.assignment (let z : y - n ≡ x = omega arith in z)
      ]

  second_agrees : (x : ℕ) → x < vars_second → g (shifted (second_vars a b) x) ≡ other.assignment x
  second_agrees x below =
      elim (cases_lt x n) [
        | inl l ↦
            let y : ℕ = x + m in
            ap g (near_is (second_vars a b) x l)
            ∙ when_not y m (one.assignment y) (cond (ltb y (m + n)) (other.assignment (y - m)) (cond (ltb y (vars_first + n)) (one.assignment (y - n)) (other.assignment (y - vars_first)))) (omega arith)
            ∙ when_less y (m + n) (other.assignment (y - m)) (cond (ltb y (vars_first + n)) (one.assignment (y - n)) (other.assignment (y - vars_first))) (omega (arith, l))
            ∙ ap other.assignment (let z : y - m ≡ x = omega arith in z)
        | inr l ↦
            let y : ℕ = x + vars_first in
            ap g (far_is (second_vars a b) x l)
            ∙ when_not y m (one.assignment y) (cond (ltb y (m + n)) (other.assignment (y - m)) (cond (ltb y (vars_first + n)) (one.assignment (y - n)) (other.assignment (y - vars_first)))) (omega arith)
            ∙ when_not y (m + n) (other.assignment (y - m)) (cond (ltb y (vars_first + n)) (one.assignment (y - n)) (other.assignment (y - vars_first))) (omega (arith, l))
            ∙ when_not y (vars_first + n) (one.assignment (y - n)) (other.assignment (y - vars_first)) (omega (arith, l)) ∙ ap other.assignment (let z : y - vars_first ≡ x = omega arith in z)
      ]

  -- ---- of some output the flows differ

  first_at : (x : ℕ) → x < m → IsOver (v x) (flow_at s x) s.denominator
  first_at x l =
      let long = shows.first.state.flows in
      subst (λ r. IsOver r (flow_at s x) s.denominator)
      (sym (when_less x m (values_of s x) (cond (ltb x (m + n)) (values_of t (x - m)) (values_of s (x - n))) l ∙ flow_value s x (omega (arith, long, l)))) refl

  second_at : (y : ℕ) → y < n → IsOver (v (y + m)) (flow_at t y) s.denominator
  second_at y l =
      let long = shows.second.state.flows in
      subst (IsOver (v (y + m)) (flow_at t y)) (sym shows.fed.denominator) (subst (λ r. IsOver r (flow_at t y) t.denominator)
      (sym (ap v (sym (near_is (second_columns a b) y l)) ∙ second_value y ∙ flow_value t y (omega (arith, long, l)))) refl)

  abbrev Alike : ℕ → Type 0
  Alike o = o < a.outputs → flow_at s (output_edge a o) ≡ flow_at t (output_edge b o)

  differ_or : (os : List ℕ) → HasTrue g v (flat_map (λ o. differ (output_edge a o) (output_edge b o + m)) os) ⊎ AllByRecursion Alike os
  differ_or [] = inr tt
  differ_or (o ∷ os) =
      let x : ℕ = output_edge a o in
      let y : ℕ = output_edge b o in
      elim (cases_lt o a.outputs) [
        | inl l ↦
            let here = output_is a first o l in
            let there = output_is b second o (let z = ends.outputs in omega (arith, l, z)) in
            let at_x : (0 < (v x).under) × IsOver (v x) (flow_at s x) s.denominator = (are_values x, first_at x (slice_get_within a.edges x here.0 here.1)) in
            let at_y : (0 < (v (y + m)).under) × IsOver (v (y + m)) (flow_at t y) s.denominator = (are_values (y + m), second_at y (slice_get_within b.edges y there.0 there.1)) in
            let d = shows.first.state.positive in
            elim (order (flow_at t y) (flow_at s x)) [
              | inl less ↦ inl (inl ((above_says v s.denominator d x (y + m) (flow_at s x) (flow_at t y) at_x at_y).1 less))
              | inr rest ↦ elim rest [
                | inl same ↦ elim (differ_or os) [ inl h ↦ inl (inr (inr h)) | inr all ↦ inr (λ k. sym same, all) ]
                | inr more ↦ inl (inr (inl ((above_says v s.denominator d (y + m) x (flow_at t y) (flow_at s x) at_y at_x).1 more)))
              ]
            ]
        | inr l ↦ elim (differ_or os) [ inl h ↦ inl (inr (inr h)) | inr all ↦ inr (λ k. absurd (omega (arith, k, l)), all) ]
      ]

  differs : HasTrue g v (difference a b)
  differs =
      elim (differ_or (range_with_len 0 a.outputs)) [
        | inl h ↦ h
        | inr all ↦ absurd (shows.fails (λ o x y e f h k p q.
            let here = edge_of_output a first o x e h p in
            let there = edge_of_output b second o y f k q in
            ap (flow_at s) here.1 ∙ at_range Alike 0 a.outputs o all (omega arith) (let l = here.0 in omega (arith, l)) here.0 ∙ sym (ap (flow_at t) there.1)))
      ]

  last : IsMetWith (λ pair. 0) base (difference a b ∷ []) g v
  last = true_claims_meet (λ pair. 0) base (difference a b ∷ []) g v (named a b (λ pair. 0) base) (differs, tt)

  -- ---- the assignment of both, with the atoms of the difference

  first_is : (x : ℕ) → x < vars_first → last.assignment (shifted (first_shift a b) x) ≡ one.assignment x
  first_is x l =
      let edges : m ≤ vars_first = omega arith in
      let more : n ≤ vars_second = omega arith in
      let place : shifted (first_shift a b) x < base = elim (cases_lt x m) [
        | inl k ↦ let e = near_is (first_shift a b) x k in omega (arith, e, l)
        | inr k ↦ let e = far_is (first_shift a b) x k in omega (arith, e, l, more)
      ] in
      last.begins (shifted (first_shift a b) x) place ∙ first_agrees x l

  second_is : (x : ℕ) → x < vars_second → last.assignment (shifted (second_vars a b) x) ≡ other.assignment x
  second_is x l =
      let edges : m ≤ vars_first = omega arith in
      let place : shifted (second_vars a b) x < base = elim (cases_lt x n) [
        | inl k ↦ let e = near_is (second_vars a b) x k in omega (arith, e, l, edges)
        | inr k ↦ let e = far_is (second_vars a b) x k in omega (arith, e, l)
      ] in
      last.begins (shifted (second_vars a b) x) place ∙ second_agrees x l

  abbrev f : ℕ → Bool
  f = last.assignment

  abbrev Hold : ℕ × RowParts → Type 0
  Hold atom = f atom.0 ≡ true → RowHolds atom.1 v

  lits_of : (k : Network) → IsNetwork k → AllByRecursion (λ lits. AllByRecursion (λ l. l.var < (steady_formula k).vars) lits) (steady_formula k).clauses
  lits_of k is =
      each_weaker (LitsBelow (steady_formula k).vars) (λ lits. AllByRecursion (λ l. l.var < (steady_formula k).vars) lits) (steady_formula k).clauses
      (λ lits h. all_to (λ l. l.var < (steady_formula k).vars) lits h) (all_to (LitsBelow (steady_formula k).vars) (steady_formula k).clauses (steady_is_formula k is).clauses)

  atoms_of : (k : Network) → IsNetwork k → AllByRecursion (λ atom. atom.0 < (steady_formula k).vars) (steady_formula k).atoms
  atoms_of k is = ascending_below 0 (steady_formula k).vars (steady_formula k).atoms (steady_is_formula k is).atoms

  abbrev cs : List (List Lit)
  cs = map (moved_lits (first_shift a b)) (steady_formula a).clauses

  abbrev ds : List (List Lit)
  ds = map (moved_lits (second_vars a b)) (steady_formula b).clauses

  abbrev xs : List (ℕ × RowParts)
  xs = moved_atoms (first_shift a b) (first_shift a b) (steady_formula a).atoms

  abbrev ys : List (ℕ × RowParts)
  ys = moved_atoms (second_vars a b) (second_columns a b) (steady_formula b).atoms

  meets : Meets (same_formula a b) f v
  meets = record {
    clauses = all_from (MeetsClause f) (same_formula a b).clauses
        (each-append (MeetsClause f) (cs ++ ds) (difference_formula a b base).clauses (each-append (MeetsClause f) cs ds
        (clauses_forth (first_shift a b) vars_first f one.assignment first_is (steady_formula a).clauses (lits_of a first) (all_to (MeetsClause one.assignment) (steady_formula a).clauses one.meets.clauses))
        (clauses_forth (second_vars a b) vars_second f other.assignment second_is (steady_formula b).clauses (lits_of b second) (all_to (MeetsClause other.assignment) (steady_formula b).clauses other.meets.clauses)))
        (all_to (MeetsClause f) (difference_formula a b base).clauses last.meets.clauses));
    atoms = all_from Hold (same_formula a b).atoms
        (each-append Hold (xs ++ ys) (difference_formula a b base).atoms (each-append Hold xs ys
        (atoms_forth (first_shift a b) vars_first f one.assignment first_is (first_shift a b) v (values_of s) first_value (steady_formula a).atoms (atoms_of a first)
        (all_to (λ atom. one.assignment atom.0 ≡ true → RowHolds atom.1 (values_of s)) (steady_formula a).atoms one.meets.atoms))
        (atoms_forth (second_vars a b) vars_second f other.assignment second_is (second_columns a b) v (values_of t) second_value (steady_formula b).atoms (atoms_of b second)
        (all_to (λ atom. other.assignment atom.0 ≡ true → RowHolds atom.1 (values_of t)) (steady_formula b).atoms other.meets.atoms)))
        (all_to Hold (difference_formula a b base).atoms last.meets.atoms));
  }

  pub met : IsMetByBoth a b s t
  met = record {
    assignment = f;
    values = v;
    are_values = are_values;
    meets = meets;
    first_marks = λ k l.
        let edges : m ≤ vars_first = omega arith in
        ap f (sym (near_is (first_shift a b) k l ∙ (let z : k + 0 ≡ k = omega arith in z))) ∙ first_is k (omega (arith, l, edges)) ∙ one.begins k l;
    second_marks = λ k l.
        let edges : n ≤ vars_second = omega arith in
        ap f (sym (near_is (second_vars a b) k l)) ∙ second_is k (omega (arith, l, edges)) ∙ other.begins k l;
    first_values = first_value;
    second_values = second_value;
  }

pub showing_meets : ShowingMeets
showing_meets a b s t first second ends shows = met a b s t first second ends shows
