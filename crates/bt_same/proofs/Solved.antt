-- The pair of states of an assignment that meets the formula of two networks shows a difference.
use Rattle.std.proofs.Common.{◌≡◌, ℕ, ◌<◌, ◌≤◌, ◌+◌, Bool, false, List, [], ◌∷◌, length, map, get_or, ap, sym, ◌∙◌, refl, subst, arith, zero, suc}
use Rattle.std.specs.List.{All, AllByRecursion, range_with_len}
use Rattle.std.proofs.lemmas.List.FromFn.{get_or-map-range_with_len}
use Rattle.bt_frac.specs.Ratio.{Ratio, IsLowest}
use Rattle.bt_frac.specs.Values.{AreValues, value_in, nothing}
use Rattle.bt_net.specs.Network.{Network, IsNetwork}
use Rattle.bt_flow.specs.States.{Flows, Fractions, AreLowest, Fits, StandsFor}
use Rattle.bt_cnf.specs.Assignments.{truth_in}
use Rattle.bt_flow.specs.EndEdges.{load_column, room_column}
use Rattle.bt_flow_formula.specs.Solutions.{HasValues, state_at}
use Rattle.bt_flow_formula.proofs.Numbers.{all_to}
use Rattle.bt_flow_formula.proofs.States.{fits, has_values}
use Rattle.bt_same.specs.Sameness.{HaveEqualEnds}
use Rattle.bt_same.specs.SameFormula.{shifted, first_shift, second_columns, second_vars}
use Rattle.bt_same.specs.Solutions.{ShowsWhereMet}
use Rattle.bt_same.proofs.Moved.{near_is}
use Rattle.bt_same.proofs.Meeting.{meeting_shows}
use Rattle.bt_same.proofs.Pairs.{some_both}

positive_at : (values : List Ratio) → AllByRecursion IsLowest values → (column : ℕ) → 0 < (get_or values column nothing).under
positive_at [] h zero = omega arith
positive_at [] h (suc column) = omega arith
positive_at (value ∷ values) h zero = h.0.positive
positive_at (value ∷ values) h (suc column) = positive_at values h.1 column

-- functions that agree on a range
range_same : {X : Type 0} (f g : ℕ → X) (a n : ℕ) → ((k : ℕ) → a ≤ k → k < a + n → f k ≡ g k) → map f (range_with_len a n) ≡ map g (range_with_len a n)
range_same f g a zero h = refl
range_same f g a (suc n) h =
    ap (λ x. x ∷ map f (range_with_len (a + 1) n)) (h a (omega arith) (omega arith))
    ∙ ap (λ l. g a ∷ l) (range_same f g (a + 1) n (λ k l m. h k (omega (arith, l)) (omega (arith, m))))

same_state : (flows one : List Ratio) (backed two : List Bool) (loads three rooms four : List Ratio) → flows ≡ one → backed ≡ two → loads ≡ three → rooms ≡ four
    → let x : Fractions = record { flows = flows; backed = backed; loads = loads; rooms = rooms } in
    let y : Fractions = record { flows = one; backed = two; loads = three; rooms = four } in x ≡ y
same_state flows one backed two loads three rooms four p q r s =
    ap {A = List Ratio} {B = Fractions} (λ l. record { flows = l; backed = backed; loads = loads; rooms = rooms }) p
    ∙ ap {A = List Bool} {B = Fractions} (λ l. record { flows = one; backed = l; loads = loads; rooms = rooms }) q
    ∙ ap {A = List Ratio} {B = Fractions} (λ l. record { flows = one; backed = two; loads = l; rooms = rooms }) r
    ∙ ap {A = List Ratio} {B = Fractions} (λ l. record { flows = one; backed = two; loads = three; rooms = l }) s

-- the state of the first columns and variables of a network is that of all
pub part_is : (n : Network) (mark : ℕ → Bool) (v : ℕ → Ratio) (marks : List Bool) (values : List Ratio) → marks ≡ map mark (range_with_len 0 (length n.edges))
    → values ≡ map v (range_with_len 0 (length n.edges + n.inputs + n.outputs)) → state_at n (truth_in marks) (value_in values) ≡ state_at n mark v
part_is n mark v marks values p q =
    let count : ℕ = length n.edges + n.inputs + n.outputs in
    let value : (c : ℕ) → c < count → value_in values c ≡ v c = λ c l.
    ap (λ xs. get_or xs c nothing) q ∙ get_or-map-range_with_len v 0 count c c nothing l (let z : 0 + c ≡ c = omega arith in z) in
    let truth : (k : ℕ) → k < length n.edges → truth_in marks k ≡ mark k = λ k l.
    ap (λ xs. get_or xs k false) p ∙ get_or-map-range_with_len mark 0 (length n.edges) k k false l (let z : 0 + k ≡ k = omega arith in z) in
    same_state (map (value_in values) (range_with_len 0 (length n.edges))) (map v (range_with_len 0 (length n.edges)))
    (map (truth_in marks) (range_with_len 0 (length n.edges))) (map mark (range_with_len 0 (length n.edges)))
    (map (value_in values) (range_with_len (load_column n 0) n.inputs)) (map v (range_with_len (load_column n 0) n.inputs))
    (map (value_in values) (range_with_len (room_column n 0) n.outputs)) (map v (range_with_len (room_column n 0) n.outputs))
    (range_same (value_in values) v 0 (length n.edges) (λ c l m. value c (omega (arith, m))))
    (range_same (truth_in marks) mark 0 (length n.edges) (λ k l m. truth k (omega (arith, m))))
    (range_same (value_in values) v (load_column n 0) n.inputs (λ c l m. value c (omega (arith, m))))
    (range_same (value_in values) v (room_column n 0) n.outputs (λ c l m. value c (omega (arith, m))))

module _ (a b : Network) (first : IsNetwork a) (second : IsNetwork b) (ends : HaveEqualEnds a b) (truths : List Bool) (values : List Ratio) (low : All IsLowest values) where
  abbrev f : ℕ → Bool
  f = truth_in truths

  abbrev v : ℕ → Ratio
  v = value_in values

  abbrev one : Fractions
  one = state_at a (λ k. f (shifted (first_shift a b) k)) (λ c. v (shifted (first_shift a b) c))

  abbrev other : Fractions
  other = state_at b (λ k. f (shifted (second_columns a b) k)) (λ c. v (shifted (second_columns a b) c))

  are_values : AreValues v
  are_values = positive_at values (all_to IsLowest values low)

  -- marks go as flows do
  marked : (t : Flows) → HasValues b t (λ k. f (shifted (second_columns a b) k)) (λ c. v (shifted (second_columns a b) c))
      → HasValues b t (λ k. f (shifted (second_vars a b) k)) (λ c. v (shifted (second_columns a b) c))
  marked t has = record {
    state = has.state;
    marks = λ k l. has.marks k l ∙ ap f (near_is (second_columns a b) k l ∙ sym (near_is (second_vars a b) k l));
    flows = has.flows;
    loads = has.loads;
    rooms = has.rooms;
  }

  pub pair_shows : (x y : Fractions) → x ≡ one → y ≡ other → AreLowest x → AreLowest y → ShowsWhereMet a b f v x y
  pair_shows x y p q low_x low_y met = record {
    some = some_both a b x y low_x low_y
        (subst (Fits a) (sym p) (fits a (λ k. f (shifted (first_shift a b) k)) (λ c. v (shifted (first_shift a b) c))))
        (subst (Fits b) (sym q) (fits b (λ k. f (shifted (second_columns a b) k)) (λ c. v (shifted (second_columns a b) c))));
    each = λ s t both.
        meeting_shows a b f v s t first second ends are_values met both.denominator
        (has_values a (λ k. f (shifted (first_shift a b) k)) (λ c. v (shifted (first_shift a b) c)) s (subst (λ z. StandsFor a z s) p both.first))
        (marked t (has_values b (λ k. f (shifted (second_columns a b) k)) (λ c. v (shifted (second_columns a b) c)) t (subst (λ z. StandsFor b z t) q both.second)));
  }
