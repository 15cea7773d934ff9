-- Two states of an assignment that meets the formula of two networks show a difference.
use Rattle.std.proofs.Common.{◌≡◌, ℕ, ◌<◌, ◌+◌, inl, inr, Bool, true, ℤ, pos, List, [], ◌∷◌, ◌++◌, length, map, sym, ◌∙◌, refl, subst, arith}
use Rattle.std.specs.List.{AllByRecursion, flat_map, range_with_len}
use Rattle.std.proofs.lemmas.Int.{ints}
use Rattle.bt_frac.specs.Ratio.{Ratio, IsOver}
use Rattle.bt_frac.specs.Rows.{RowParts}
use Rattle.bt_frac.specs.Values.{AreValues, RowHolds}
use Rattle.bt_frac.proofs.Over.{over_same}
use Rattle.bt_net.specs.Network.{Network, IsNetwork}
use Rattle.bt_flow.specs.States.{Flows, flow_at, load_at, room_at}
use Rattle.bt_cnf.specs.declared.literal.Lit.{Lit}
use Rattle.bt_cnf.specs.Meeting.{MeetsClause, Meets}
use Rattle.bt_flow.specs.EndEdges.{output_edge, load_column, room_column}
use Rattle.bt_flow_formula.specs.Properties.{differ}
use Rattle.bt_flow_formula.specs.Laws.{HasTrue}
use Rattle.bt_flow_formula.specs.FlowFormula.{steady_formula}
use Rattle.bt_flow_formula.specs.Solutions.{HasValues}
use Rattle.bt_flow_formula.proofs.Numbers.{all_from, all_to}
use Rattle.bt_flow_formula.proofs.Withins.{each-left, each-right, each-range}
use Rattle.bt_flow_formula.proofs.NetEdges.{output_is}
use Rattle.bt_flow_formula.proofs.RowValues.{above_says}
use Rattle.bt_flow_formula.proofs.Claimed.{met_claims}
use Rattle.bt_flow_formula.proofs.Solved.{meeting_is_steady}
use Rattle.std.proofs.lemmas.Option.{slice_get_within}
use Rattle.bt_same.specs.Sameness.{HaveEqualEnds, AreFedAlike, GiveAlike, ShowsDifference}
use Rattle.bt_same.specs.SameFormula.{shifted, first_shift, second_columns, second_vars, moved_lits, moved_atoms, difference, difference_formula, same_formula}
use Rattle.bt_same.specs.Laws.{MeetingShows}
use Rattle.bt_same.proofs.Lists.{same_items}
use Rattle.bt_same.proofs.Moved.{near_is, far_is, meets_back}
use Rattle.bt_same.proofs.Sides.{named}

-- a fraction is one whole number over a denominator
pub one_over : (r : Ratio) (x y : ℤ) (d e : ℕ) → 0 < d → 0 < r.under → d ≡ e → IsOver r x d → IsOver r y e → x ≡ y
one_over r x y d e some under same h k = (over_same r r x y d some under under h (subst (IsOver r y) (sym same) k)).0 refl

module _ (a b : Network) (f : ℕ → Bool) (v : ℕ → Ratio) (met : Meets (same_formula a b) f v) where
  abbrev Hold : ℕ × RowParts → Type 0
  Hold atom = f atom.0 ≡ true → RowHolds atom.1 v

  abbrev base : ℕ
  base = (steady_formula a).vars + (steady_formula b).vars

  abbrev cs : List (List Lit)
  cs = map (moved_lits (first_shift a b)) (steady_formula a).clauses

  abbrev ds : List (List Lit)
  ds = map (moved_lits (second_vars a b)) (steady_formula b).clauses

  abbrev xs : List (ℕ × RowParts)
  xs = moved_atoms (first_shift a b) (first_shift a b) (steady_formula a).atoms

  abbrev ys : List (ℕ × RowParts)
  ys = moved_atoms (second_vars a b) (second_columns a b) (steady_formula b).atoms

  clauses : AllByRecursion (MeetsClause f) (cs ++ ds ++ (difference_formula a b base).clauses)
  clauses = all_to (MeetsClause f) (same_formula a b).clauses met.clauses

  atoms : AllByRecursion Hold (xs ++ ys ++ (difference_formula a b base).atoms)
  atoms = all_to Hold (same_formula a b).atoms met.atoms

  pub first_meets : Meets (steady_formula a) (λ x. f (shifted (first_shift a b) x)) (λ c. v (shifted (first_shift a b) c))
  first_meets =
      meets_back (first_shift a b) f (λ x. f (shifted (first_shift a b) x)) (λ x. refl) (first_shift a b) v (λ c. v (shifted (first_shift a b) c)) (λ c. refl) (steady_formula a)
      (each-left (MeetsClause f) cs ds (each-left (MeetsClause f) (cs ++ ds) (difference_formula a b base).clauses clauses)) (each-left Hold xs ys (each-left Hold (xs ++ ys) (difference_formula a b base).atoms atoms))

  pub second_meets : Meets (steady_formula b) (λ x. f (shifted (second_vars a b) x)) (λ c. v (shifted (second_columns a b) c))
  second_meets =
      meets_back (second_vars a b) f (λ x. f (shifted (second_vars a b) x)) (λ x. refl) (second_columns a b) v (λ c. v (shifted (second_columns a b) c)) (λ c. refl) (steady_formula b)
      (each-right (MeetsClause f) cs ds (each-left (MeetsClause f) (cs ++ ds) (difference_formula a b base).clauses clauses))
      (each-right Hold xs ys (each-left Hold (xs ++ ys) (difference_formula a b base).atoms atoms))

  difference_meets : Meets (difference_formula a b base) f v
  difference_meets = record {
    clauses = all_from (MeetsClause f) (difference_formula a b base).clauses
        (each-right (MeetsClause f) (cs ++ ds) (difference_formula a b base).clauses clauses);
    atoms = all_from Hold (difference_formula a b base).atoms
        (each-right Hold (xs ++ ys) (difference_formula a b base).atoms atoms);
  }

  pub some_differ : HasTrue f v (difference a b)
  some_differ = (met_claims (λ pair. 0) base (difference a b ∷ []) f v (named a b (λ pair. 0) base) difference_meets).0

module _ (a b : Network) (f : ℕ → Bool) (v : ℕ → Ratio) (s t : Flows) (first : IsNetwork a) (second : IsNetwork b) (ends : HaveEqualEnds a b) (some : AreValues v) (same : s.denominator ≡ t.denominator)
    (of_first : HasValues a s (λ x. f (shifted (first_shift a b) x)) (λ c. v (shifted (first_shift a b) c)))
    (of_second : HasValues b t (λ x. f (shifted (second_vars a b) x)) (λ c. v (shifted (second_columns a b) c))) where
  load_place : (i : ℕ) → shifted (second_columns a b) (load_column b i) ≡ shifted (first_shift a b) (load_column a i)
  load_place i =
      let e = far_is (second_columns a b) (load_column b i) (omega arith) in
      let h = far_is (first_shift a b) (load_column a i) (omega arith) in
      omega (arith, e, h)

  room_place : (o : ℕ) → shifted (second_columns a b) (room_column b o) ≡ shifted (first_shift a b) (room_column a o)
  room_place o =
      let e = far_is (second_columns a b) (room_column b o) (omega arith) in
      let h = far_is (first_shift a b) (room_column a o) (omega arith) in
      let z = ends.inputs in
      omega (arith, e, h, z)

  fed : AreFedAlike s t
  fed = record {
    denominator = same;
    loads =
        let m = of_first.state.loads in
        let k = of_second.state.loads in
        let z = ends.inputs in
        same_items (pos 0) s.loads t.loads (omega (arith, m, k, z)) (λ i l.
        one_over (v (shifted (first_shift a b) (load_column a i))) (load_at s i) (load_at t i) s.denominator t.denominator of_first.state.positive (some (shifted (first_shift a b) (load_column a i))) same
        (of_first.loads i (omega (arith, l, m)))
        (subst (λ c. IsOver (v c) (load_at t i) t.denominator) (load_place i) (of_second.loads i (omega (arith, l, m, z)))));
    rooms =
        let m = of_first.state.rooms in
        let k = of_second.state.rooms in
        let z = ends.outputs in
        same_items (pos 0) s.rooms t.rooms (omega (arith, m, k, z)) (λ o l.
        one_over (v (shifted (first_shift a b) (room_column a o))) (room_at s o) (room_at t o) s.denominator t.denominator of_first.state.positive (some (shifted (first_shift a b) (room_column a o))) same
        (of_first.rooms o (omega (arith, l, m)))
        (subst (λ c. IsOver (v c) (room_at t o) t.denominator) (room_place o) (of_second.rooms o (omega (arith, l, m, z)))));
  }

  first_at : (x : ℕ) → x < length a.edges → IsOver (v x) (flow_at s x) s.denominator
  first_at x l =
      subst (λ c. IsOver (v c) (flow_at s x) s.denominator) (near_is (first_shift a b) x l ∙ (let z : x + 0 ≡ x = omega arith in z)) (of_first.flows x l)

  second_at : (y : ℕ) → y < length b.edges → IsOver (v (y + length a.edges)) (flow_at t y) s.denominator
  second_at y l =
      subst (IsOver (v (y + length a.edges)) (flow_at t y)) (sym same)
      (subst (λ c. IsOver (v c) (flow_at t y) t.denominator) (near_is (second_columns a b) y l) (of_second.flows y l))

  -- of equal flows none is above the other
  none_differ : (os : List ℕ) → AllByRecursion (λ o. o < a.outputs) os → GiveAlike a b s t
      → HasTrue f v (flat_map (λ o. differ (output_edge a o) (output_edge b o + length a.edges)) os) → ⊥
  none_differ [] l alike said = said
  none_differ (o ∷ os) l alike (inl more) =
      let one = output_is a first o l.0 in
      let other = output_is b second o (let m = l.0 in let z = ends.outputs in omega (arith, m, z)) in
      let x : ℕ = output_edge a o in
      let y : ℕ = output_edge b o in
      let e = alike o x y one.0 other.0 one.1 other.1 one.2 other.2 in
      let above = (above_says v s.denominator of_first.state.positive x (y + length a.edges) (flow_at s x) (flow_at t y)
      (some x, first_at x (slice_get_within a.edges x one.0 one.1)) (some (y + length a.edges), second_at y (slice_get_within b.edges y other.0 other.1))).0 more in
      omega (arith, ints, e, above)
  none_differ (o ∷ os) l alike (inr (inl more)) =
      let one = output_is a first o l.0 in
      let other = output_is b second o (let m = l.0 in let z = ends.outputs in omega (arith, m, z)) in
      let x : ℕ = output_edge a o in
      let y : ℕ = output_edge b o in
      let e = alike o x y one.0 other.0 one.1 other.1 one.2 other.2 in
      let above = (above_says v s.denominator of_first.state.positive (y + length a.edges) x (flow_at t y) (flow_at s x)
      (some (y + length a.edges), second_at y (slice_get_within b.edges y other.0 other.1)) (some x, first_at x (slice_get_within a.edges x one.0 one.1))).0 more in
      omega (arith, ints, e, above)
  none_differ (o ∷ os) l alike (inr (inr rest)) = none_differ os l.1 alike rest

  pub shows : Meets (same_formula a b) f v → ShowsDifference a b s t
  shows met =
      let one = meeting_is_steady a (λ x. f (shifted (first_shift a b) x)) (λ c. v (shifted (first_shift a b) c)) s first (λ c. some (shifted (first_shift a b) c)) (first_meets a b f v met) of_first in
      let other = meeting_is_steady b (λ x. f (shifted (second_vars a b) x)) (λ c. v (shifted (second_columns a b) c)) t second (λ c. some (shifted (second_columns a b) c)) (second_meets a b f v met) of_second in
      record {
        first = record { state = of_first.state; admissible = one.0; steady = one.1 };
        second = record { state = of_second.state; admissible = other.0; steady = other.1 };
        fed = fed;
        fails = λ alike.
            none_differ (range_with_len 0 a.outputs) (each-range (λ o. o < a.outputs) 0 a.outputs (λ o l m. omega (arith, m))) alike (some_differ a b f v met);
      }

pub meeting_shows : MeetingShows
meeting_shows a b f v s t first second ends some met same of_first of_second = shows a b f v s t first second ends some same of_first of_second met
