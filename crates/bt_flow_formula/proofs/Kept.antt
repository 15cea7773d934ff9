-- The variables that are kept for the pairs of a network are theirs, and the clauses of the families are of
-- variables that stand before them.
use Rattle.std.proofs.Common.{◌≡◌, ℕ, ◌<◌, ◌≤◌, ◌+◌, ◌*◌, Bool, true, false, Option, Some, None, List, [], ◌∷◌, ◌++◌, length, map, get_or, cond, ltb, ap, sym, ◌∙◌, refl, arith, zero, suc, append-nil, length-append}
use Rattle.std.specs.List.{AllByRecursion, flat_map, range_with_len}
use Rattle.std.proofs.lemmas.Grind.{flat_map-append}
use Rattle.std.proofs.lemmas.List.FromFn.{get_or-map-range_with_len}
use Rattle.bt_cnf.specs.Formulas.{FormulaParts}
use Rattle.bt_cnf.specs.declared.literal.Lit.{Lit}
use Rattle.bt_net.specs.Network.{Network, IsNetwork}
use Rattle.bt_flow.specs.declared.property.Property.{Property}
use Rattle.bt_flow_formula.specs.declared.state_literal.Side.{Side}
use Rattle.bt_flow_formula.specs.declared.state_literal.Side.TheVariants.{Out, In}
use Rattle.bt_flow_formula.specs.declared.state_literal.Pair.{Pair}
use Rattle.bt_flow_formula.specs.declared.state_literal.Pair.TheVariants.{Even, Empty, Full, Loaded, Filled}
use Rattle.bt_flow_formula.specs.declared.state_literal.StateLiteral.{StateLiteral}
use Rattle.bt_flow_formula.specs.declared.state_literal.StateLiteral.TheVariants.{Mark, Says, First}
use Rattle.bt_flow_formula.specs.declared.clause_family.ClauseFamily.{ClauseFamily}
use Rattle.bt_flow_formula.specs.declared.clause_family.ClauseFamily.TheVariants as of
use Rattle.bt_flow_formula.specs.declared.variables.PairVars.{PairVars}
use Rattle.bt_flow_formula.specs.Columns.{edges_at, preferred_at}
use Rattle.bt_flow_formula.specs.Pairs.{pair_clause, side_pairs, pairs_at}
use Rattle.bt_flow_formula.specs.Families.{clauses_at, places, family_clauses, bounds, laws, families}
use Rattle.bt_flow_formula.specs.Properties.{unequal_clause, differ}
use Rattle.bt_flow_formula.specs.Numbering.{mentioned, rows_in, literals_from, clauses_from, atoms_from, formula_of}
use Rattle.bt_flow_formula.specs.FlowFormula.{steady_clauses, steady_formula, flow_clauses, clauses_till, lower_first, variable_of}
use Rattle.bt_flow_formula.specs.inner.Variables.{at_in, side_rows, side_starts, vars_till, AreVariables}
use Rattle.bt_flow_formula.specs.inner.Within.{IsWithin, AreWithin}
use Rattle.bt_flow_formula.proofs.Numbers.{named_within}
use Rattle.bt_arena.proofs.Loops.{place_more}
use Rattle.bt_flow_formula.proofs.Withins.{each-append, each-left, each-right, each-flat_map, each-map, each_any}
use Rattle.bt_flow_formula.proofs.Named.{IsPair, IsOf, AreOf, nameless, pair_stands, all_of, flow_of}

-- ---- how many rows clauses mention

rows-append : (xs ys : List (List StateLiteral)) → length (rows_in (xs ++ ys)) ≡ length (rows_in xs) + length (rows_in ys)
rows-append xs ys = ap length (flat_map-append (flat_map mentioned) xs ys) ∙ length-append (rows_in xs) (rows_in ys)

-- so many at each place
rows_each : (f : ℕ → List (List StateLiteral)) (r a m : ℕ) → ((k : ℕ) → length (rows_in (f k)) ≡ r) → length (rows_in (flat_map f (range_with_len a m))) ≡ r * m
rows_each f r a zero h = grind arith
rows_each f r a (suc m) h =
    let one = h a in
    let rest = rows_each f r (a + 1) m h in
    let both = rows-append (f a) (flat_map f (range_with_len (a + 1) m)) in
    let times : r * suc m ≡ r + r * m = grind arith in
    omega (arith, one, rest, both, times)

rows_few : (f : ℕ → List (List StateLiteral)) (r a m : ℕ) → ((k : ℕ) → length (rows_in (f k)) ≤ r) → length (rows_in (flat_map f (range_with_len a m))) ≤ r * m
rows_few f r a zero h = grind arith
rows_few f r a (suc m) h =
    let one = h a in
    let rest = rows_few f r (a + 1) m h in
    let both = rows-append (f a) (flat_map f (range_with_len (a + 1) m)) in
    let times : r * suc m ≡ r + r * m = grind arith in
    omega (arith, one, rest, both, times)

-- a place more of a side of the splitters
pub side_more : (n : Network) (side : Side) (k : ℕ) → side_rows n side (k + 1) ≡ side_rows n side k + length (rows_in (map pair_clause (pairs_at n side k)))
side_more n side k =
    let f : ℕ → List (List StateLiteral) = λ j. map pair_clause (pairs_at n side j) in
    let front = flat_map f (range_with_len 0 k) in
    ap (λ c. length (rows_in c)) (sym (place_more f [] front (front ++ f k) k refl refl)) ∙ rows-append front (f k)

pairs_at_most : (o : Option ℕ) (side : Side) (k : ℕ) (edges : List ℕ) → length (rows_in (map pair_clause (side_pairs o side k edges))) ≤ 4
pairs_at_most None side k [] = omega arith
pairs_at_most None side k (a ∷ []) = omega arith
pairs_at_most None side k (a ∷ b ∷ []) = omega arith
pairs_at_most None side k (a ∷ b ∷ c ∷ edges) = omega arith
pairs_at_most (Some x) side k [] = omega arith
pairs_at_most (Some x) side k (a ∷ []) = omega arith
pairs_at_most (Some x) side k (a ∷ b ∷ []) = omega arith
pairs_at_most (Some x) side k (a ∷ b ∷ c ∷ edges) = omega arith

pub side_few : (n : Network) (side : Side) (k : ℕ) → side_rows n side k ≤ 4 * k
side_few n side k = rows_few (λ j. map pair_clause (pairs_at n side j)) 4 0 k (λ j. pairs_at_most (preferred_at n side j) side j (edges_at n side j))

-- the variable of a splitter's first pair at a side
side_start : (n : Network) (side : Side) (first k : ℕ) → k ≤ n.splitters → get_or (side_starts n side first) k 0 ≡ first + side_rows n side k
side_start n side first k l = get_or-map-range_with_len (λ j. first + side_rows n side j) 0 (n.splitters + 1) k k 0 (omega (arith, l)) (let z : 0 + k ≡ k = omega arith in z)

-- and of the side that comes after the last
pub last_start : (n : Network) (side : Side) (first start k : ℕ) (now starts : List ℕ) → start ≡ get_or now k 0 → now ≡ starts → starts ≡ side_starts n side first → k ≡ n.splitters
    → start ≡ first + side_rows n side n.splitters
last_start n side first start k now starts e f g same =
    e ∙ ap (λ xs. get_or xs k 0) (f ∙ g) ∙ side_start n side first k (omega (arith, same)) ∙ ap (λ j. first + side_rows n side j) same

-- ---- how many variables stand before a family

module _ (n : Network) where
  till_rows : (before : List ClauseFamily) (f : ClauseFamily) (k : ℕ)
      → length (rows_in (clauses_till n before f k)) ≡ length (rows_in (flat_map (family_clauses n) before)) + length (rows_in (flat_map (clauses_at n f) (range_with_len 0 k)))
  till_rows before f k = rows-append (flat_map (family_clauses n) before) (flat_map (clauses_at n f) (range_with_len 0 k))

  vars_more : (before : List ClauseFamily) (f g : ClauseFamily) → vars_till n (before ++ f ∷ []) g ≡ vars_till n before f + length (rows_in (family_clauses n f))
  vars_more before f g =
      let this = till_rows before f 0 in
      let next = till_rows (before ++ f ∷ []) g 0 in
      let split = ap (λ c. length (rows_in c)) (flat_map-append (family_clauses n) before (f ∷ [])) ∙ rows-append (flat_map (family_clauses n) before) (family_clauses n f ++ [])
      ∙ ap (λ c. length (rows_in (flat_map (family_clauses n) before)) + length (rows_in c)) (append-nil (family_clauses n f)) in
      omega (arith, this, next, split)

  pub first_vars : vars_till n bounds of.OutPairs ≡ 3 * length n.edges + 2 * n.inputs + 2 * n.outputs + n.splitters
  first_vars =
      let till = till_rows bounds of.OutPairs 0 in
      let flows = rows_each (clauses_at n of.Flows) 2 0 (length n.edges) (λ k. refl) in
      let loads = rows_each (clauses_at n of.Loads) 2 0 n.inputs (λ k. refl) in
      let rooms = rows_each (clauses_at n of.Rooms) 2 0 n.outputs (λ k. refl) in
      let conserve = rows_each (clauses_at n of.Conserve) 1 0 n.splitters (λ k. refl) in
      let a = rows-append (family_clauses n of.Flows) (family_clauses n of.Loads ++ (family_clauses n of.Rooms ++ (family_clauses n of.Conserve ++ []))) in
      let b = rows-append (family_clauses n of.Loads) (family_clauses n of.Rooms ++ (family_clauses n of.Conserve ++ [])) in
      let c = rows-append (family_clauses n of.Rooms) (family_clauses n of.Conserve ++ []) in
      let d = rows-append (family_clauses n of.Conserve) [] in
      omega (arith, till, flows, loads, rooms, conserve, a, b, c, d)

  pub into_vars : vars_till n (bounds ++ of.OutPairs ∷ []) of.InPairs ≡ vars_till n bounds of.OutPairs + side_rows n Out n.splitters
  into_vars = vars_more bounds of.OutPairs of.InPairs

  pub full_vars : vars_till n (bounds ++ of.OutPairs ∷ of.InPairs ∷ []) of.FullPairs ≡ vars_till n (bounds ++ of.OutPairs ∷ []) of.InPairs + side_rows n In n.splitters
  full_vars = vars_more (bounds ++ of.OutPairs ∷ []) of.InPairs of.FullPairs

  pub loaded_vars : vars_till n (bounds ++ of.OutPairs ∷ of.InPairs ∷ of.FullPairs ∷ []) of.LoadPairs ≡ vars_till n (bounds ++ of.OutPairs ∷ of.InPairs ∷ []) of.FullPairs + 2 * length n.edges
  loaded_vars =
      let rows = rows_each (clauses_at n of.FullPairs) 2 0 (length n.edges) (λ k. refl) in
      let more = vars_more (bounds ++ of.OutPairs ∷ of.InPairs ∷ []) of.FullPairs of.LoadPairs in
      omega (arith, rows, more)

  pub filled_vars : vars_till n (bounds ++ of.OutPairs ∷ of.InPairs ∷ of.FullPairs ∷ of.LoadPairs ∷ []) of.RoomPairs
      ≡ vars_till n (bounds ++ of.OutPairs ∷ of.InPairs ∷ of.FullPairs ∷ []) of.LoadPairs + 2 * n.inputs
  filled_vars =
      let rows = rows_each (clauses_at n of.LoadPairs) 2 0 n.inputs (λ k. refl) in
      let more = vars_more (bounds ++ of.OutPairs ∷ of.InPairs ∷ of.FullPairs ∷ []) of.LoadPairs of.RoomPairs in
      omega (arith, rows, more)

  -- so what is kept from the first variable on is right
  pub kept_all : (v : PairVars) (first into : ℕ) → first ≡ 3 * length n.edges + 2 * n.inputs + 2 * n.outputs + n.splitters → v.out.items ≡ side_starts n Out first
      → into ≡ first + side_rows n Out n.splitters → v.into.items ≡ side_starts n In into → v.full ≡ into + side_rows n In n.splitters
      → v.loaded ≡ v.full + 2 * length n.edges → v.filled ≡ v.loaded + 2 * n.inputs → AreVariables n v
  kept_all v first into start out second enter third loads rooms =
      let is_first = first_vars in
      let is_into = into_vars in
      let is_full = full_vars in
      let is_loaded = loaded_vars in
      let is_filled = filled_vars in
      let a : first ≡ vars_till n bounds of.OutPairs = omega (arith, start, is_first) in
      let b : into ≡ vars_till n (bounds ++ of.OutPairs ∷ []) of.InPairs = omega (arith, a, second, is_into) in
      let d : v.full ≡ vars_till n (bounds ++ of.OutPairs ∷ of.InPairs ∷ []) of.FullPairs = omega (arith, b, third, is_full) in
      let e : v.loaded ≡ vars_till n (bounds ++ of.OutPairs ∷ of.InPairs ∷ of.FullPairs ∷ []) of.LoadPairs = omega (arith, d, loads, is_loaded) in
      let f : v.filled ≡ vars_till n (bounds ++ of.OutPairs ∷ of.InPairs ∷ of.FullPairs ∷ of.LoadPairs ∷ []) of.RoomPairs = omega (arith, e, rooms, is_filled) in
      record { out = out ∙ ap (side_starts n Out) a; into = enter ∙ ap (side_starts n In) b; full = d; loaded = e; filled = f }

  -- ---- the variable that is kept for a pair

  lower_rows : (lower : Pair) (t : Bool) → length (rows_in (cond t [] (pair_clause lower ∷ []))) ≡ cond t 0 2
  lower_rows lower true = refl
  lower_rows lower false = refl

  module _ (v : PairVars) (kept : AreVariables n v) where
    even_kept : (side : Side) (k a b start first : ℕ) (before : List ClauseFamily) (f : ClauseFamily) → k < n.splitters → start ≡ first + side_rows n side k → first ≡ vars_till n before f
        → length (rows_in (flat_map (clauses_at n f) (range_with_len 0 k))) ≡ side_rows n side k
        → start + cond (ltb a b) 0 2 ≡ length n.edges + length (rows_in (clauses_till n before f k ++ lower_first (Even side k b a) a b))
    even_kept side k a b start first before f l e g same =
        let none = till_rows before f 0 in
        let till = till_rows before f k in
        let lower = lower_rows (Even side k b a) (ltb a b) in
        let both = rows-append (clauses_till n before f k) (lower_first (Even side k b a) a b) in
        omega (arith, e, g, same, none, till, lower, both)

    empty_kept : (side : Side) (k start first : ℕ) (before : List ClauseFamily) (f : ClauseFamily) → start ≡ first + side_rows n side k → first ≡ vars_till n before f
        → length (rows_in (flat_map (clauses_at n f) (range_with_len 0 k))) ≡ side_rows n side k
        → start ≡ length n.edges + length (rows_in (clauses_till n before f k))
    empty_kept side k start first before f e g same =
        let none = till_rows before f 0 in
        let till = till_rows before f k in
        omega (arith, e, g, same, none, till)

    each_kept : (start k : ℕ) (before : List ClauseFamily) (f : ClauseFamily) → start ≡ vars_till n before f → ((j : ℕ) → length (rows_in (clauses_at n f j)) ≡ 2)
        → start + 2 * k ≡ length n.edges + length (rows_in (clauses_till n before f k))
    each_kept start k before f e h =
        let rows = rows_each (clauses_at n f) 2 0 k h in
        let none = till_rows before f 0 in
        let till = till_rows before f k in
        omega (arith, e, rows, none, till)

    pub pair_kept : (pair : Pair) → IsPair n pair → at_in v pair ≡ variable_of n pair
    pair_kept (Even Out k a b) h =
        let l = h.0 in
        let first : ℕ = vars_till n bounds of.OutPairs in
        even_kept Out k a b (get_or v.out.items k 0) first bounds of.OutPairs l (ap (λ xs. get_or xs k 0) kept.out ∙ side_start n Out first k (omega (arith, l))) refl refl
    pair_kept (Even In k a b) h =
        let l = h.0 in
        let before = bounds ++ of.OutPairs ∷ [] in
        let first : ℕ = vars_till n before of.InPairs in
        even_kept In k a b (get_or v.into.items k 0) first before of.InPairs l (ap (λ xs. get_or xs k 0) kept.into ∙ side_start n In first k (omega (arith, l))) refl refl
    pair_kept (Empty Out k a) h =
        let l = h.0 in
        empty_kept Out k (get_or v.out.items k 0) (vars_till n bounds of.OutPairs) bounds of.OutPairs (ap (λ xs. get_or xs k 0) kept.out ∙ side_start n Out (vars_till n bounds of.OutPairs) k (omega (arith, l))) refl refl
    pair_kept (Empty In k a) h =
        let l = h.0 in
        let before = bounds ++ of.OutPairs ∷ [] in
        let first : ℕ = vars_till n before of.InPairs in
        empty_kept In k (get_or v.into.items k 0) first before of.InPairs (ap (λ xs. get_or xs k 0) kept.into ∙ side_start n In first k (omega (arith, l))) refl refl
    pair_kept (Full a cap) h = each_kept v.full a (bounds ++ of.OutPairs ∷ of.InPairs ∷ []) of.FullPairs kept.full (λ j. refl)
    pair_kept (Loaded i a column) h = each_kept v.loaded i (bounds ++ of.OutPairs ∷ of.InPairs ∷ of.FullPairs ∷ []) of.LoadPairs kept.loaded (λ j. refl)
    pair_kept (Filled o a column) h = each_kept v.filled o (bounds ++ of.OutPairs ∷ of.InPairs ∷ of.FullPairs ∷ of.LoadPairs ∷ []) of.RoomPairs kept.filled (λ j. refl)

    -- ---- the claims are of variables that stand before

    claim_within : (vars : ℕ) → length n.edges + length (rows_in (flat_map (family_clauses n) nameless)) ≤ vars → (claim : StateLiteral) → IsOf n claim → IsWithin (at_in v) vars claim
    claim_within vars l (Mark a backed) h = omega (arith, h, l)
    claim_within vars l (Says row) h = tt
    claim_within vars l (First pair) h =
        let same = pair_kept pair h in
        let below : variable_of n pair < vars = named_within (variable_of n) (length n.edges) vars (rows_in (flat_map (family_clauses n) nameless)) l (First pair) (pair_stands n pair h) in
        omega (arith, same, below)

    claims_within : (vars : ℕ) → length n.edges + length (rows_in (flat_map (family_clauses n) nameless)) ≤ vars → (claims : List StateLiteral) → AllByRecursion (IsOf n) claims
        → AllByRecursion (IsWithin (at_in v) vars) claims
    claims_within vars l [] h = tt
    claims_within vars l (claim ∷ claims) h = (claim_within vars l claim h.0, claims_within vars l claims h.1)

    clauses_within : (vars : ℕ) → length n.edges + length (rows_in (flat_map (family_clauses n) nameless)) ≤ vars → (clauses : List (List StateLiteral)) → AreOf n clauses
        → AreWithin (at_in v) vars clauses
    clauses_within vars l [] h = tt
    clauses_within vars l (claims ∷ clauses) h = (claims_within vars l claims h.0, clauses_within vars l clauses h.1)

    pub laws_within : IsNetwork n → (vars : ℕ) → length n.edges + length (rows_in (flat_map (family_clauses n) nameless)) ≤ vars → AreWithin (at_in v) vars (flat_map (family_clauses n) laws)
    laws_within is vars l = clauses_within vars l (flat_map (family_clauses n) laws) (all_of n is laws)

    -- ---- so the literals are those of the formula

    literals_kept : (m : ℕ) (claims : List StateLiteral) → AllByRecursion (IsOf n) claims → literals_from (at_in v) m claims ≡ literals_from (variable_of n) m claims
    literals_kept m [] h = refl
    literals_kept m (Mark a b ∷ claims) h = ap (λ l. record { var = a; positive = b } ∷ l) (literals_kept m claims h.1)
    literals_kept m (Says row ∷ claims) h = ap (λ l. record { var = m; positive = true } ∷ l) (literals_kept (m + 1) claims h.1)
    literals_kept m (First pair ∷ claims) h =
        ap {A = ℕ} {B = List Lit} (λ k. record { var = k; positive = true } ∷ literals_from (at_in v) m claims) (pair_kept pair h.0)
        ∙ ap (λ l. record { var = variable_of n pair; positive = true } ∷ l) (literals_kept m claims h.1)

    clauses_kept : (m : ℕ) (clauses : List (List StateLiteral)) → AreOf n clauses → clauses_from (at_in v) m clauses ≡ clauses_from (variable_of n) m clauses
    clauses_kept m [] h = refl
    clauses_kept m (claims ∷ clauses) h =
        ap (λ l. l ∷ clauses_from (at_in v) (m + length (flat_map mentioned claims)) clauses) (literals_kept m claims h.0)
        ∙ ap (λ l. literals_from (variable_of n) m claims ∷ l) (clauses_kept (m + length (flat_map mentioned claims)) clauses h.1)

    pub formula_kept : IsNetwork n → (p : Property) → formula_of (at_in v) (length n.edges) (flow_clauses n p) ≡ formula_of (variable_of n) (length n.edges) (flow_clauses n p)
    formula_kept is p =
        ap {A = List (List Lit)} {B = FormulaParts}
        (λ l. record { vars = length n.edges + length (rows_in (flow_clauses n p)); clauses = l; atoms = atoms_from (length n.edges) (rows_in (flow_clauses n p)) })
        (clauses_kept (length n.edges) (flow_clauses n p) (flow_of n is p))

    pub steady_kept : IsNetwork n → formula_of (at_in v) (length n.edges) (steady_clauses n) ≡ steady_formula n
    steady_kept is =
        ap {A = List (List Lit)} {B = FormulaParts}
        (λ l. record { vars = length n.edges + length (rows_in (steady_clauses n)); clauses = l; atoms = atoms_from (length n.edges) (rows_in (steady_clauses n)) })
        (clauses_kept (length n.edges) (steady_clauses n) (all_of n is families))

-- ---- clauses of rows alone

unnamed : (at : Pair → ℕ) (vars : ℕ) (pairs : List Pair) → AreWithin at vars (map pair_clause pairs)
unnamed at vars pairs = each-map _ (λ x. Unit {0}) pair_clause pairs (each_any pairs) (λ pair t. (tt, (tt, tt)))

module _ (at : Pair → ℕ) (vars : ℕ) where
  pub unequal_within : (edges : List ℕ) → AllByRecursion (IsWithin at vars) (unequal_clause edges)
  unequal_within [] = tt
  unequal_within (first ∷ others) = each-flat_map _ (λ x. Unit {0}) (differ first) others (each_any others) (λ b t. (tt, (tt, tt)))

  at_each : (n : Network) (f : ClauseFamily) → ((k : ℕ) → AreWithin at vars (clauses_at n f k)) → AreWithin at vars (family_clauses n f)
  at_each n f h = each-flat_map _ (λ x. Unit {0}) (clauses_at n f) (range_with_len 0 (places n f)) (each_any (range_with_len 0 (places n f))) (λ k t. h k)

  pub nameless_within : (n : Network) → AreWithin at vars (flat_map (family_clauses n) nameless)
  nameless_within n =
      each-append _ (family_clauses n of.Flows) _ (at_each n of.Flows (λ k. ((tt, tt), ((tt, tt), tt))))
      (each-append _ (family_clauses n of.Loads) _ (at_each n of.Loads (λ k. ((tt, tt), ((tt, tt), tt))))
      (each-append _ (family_clauses n of.Rooms) _ (at_each n of.Rooms (λ k. ((tt, tt), ((tt, tt), tt))))
      (each-append _ (family_clauses n of.Conserve) _ (at_each n of.Conserve (λ k. ((tt, tt), tt)))
      (each-append _ (family_clauses n of.OutPairs) _ (at_each n of.OutPairs (λ k. unnamed at vars (pairs_at n Out k)))
      (each-append _ (family_clauses n of.InPairs) _ (at_each n of.InPairs (λ k. unnamed at vars (pairs_at n In k)))
      (each-append _ (family_clauses n of.FullPairs) _ (at_each n of.FullPairs (λ k. ((tt, (tt, tt)), tt)))
      (each-append _ (family_clauses n of.LoadPairs) _ (at_each n of.LoadPairs (λ k. ((tt, (tt, tt)), tt)))
      (each-append _ (family_clauses n of.RoomPairs) [] (at_each n of.RoomPairs (λ k. ((tt, (tt, tt)), tt))) tt))))))))

-- ---- one of the clauses that loops add

pub within_at : {X : Type 0} (at : Pair → ℕ) (vars : ℕ) (f : X → List (List StateLiteral)) (xs : List X) (i : ℕ) (d : X) → i < length xs → AreWithin at vars (flat_map f xs) → AreWithin at vars (f (get_or xs i d))
within_at at vars f [] i d l h = absurd (omega arith)
within_at at vars f (x ∷ xs) zero d l h = each-left (AllByRecursion (IsWithin at vars)) (f x) (flat_map f xs) h
within_at at vars f (x ∷ xs) (suc i) d l h = within_at at vars f xs i d (omega arith) (each-right (AllByRecursion (IsWithin at vars)) (f x) (flat_map f xs) h)

pub clause_at : {X : Type 0} (at : Pair → ℕ) (vars : ℕ) (f : X → List StateLiteral) (xs : List X) (i : ℕ) (d : X) → i < length xs → AreWithin at vars (map f xs) → AllByRecursion (IsWithin at vars) (f (get_or xs i d))
clause_at at vars f [] i d l h = absurd (omega arith)
clause_at at vars f (x ∷ xs) zero d l h = h.0
clause_at at vars f (x ∷ xs) (suc i) d l h = clause_at at vars f xs i d (omega arith) h.1
