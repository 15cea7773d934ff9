-- A step has one right judgement.
use Rattle.std.proofs.Common.{◌≡◌, ℕ, zero, suc, ◌+◌, ◌≤◌, ◌-◌, ◌⊎◌, List, [], ◌∷◌, map, length, true, false, Bool, Contains, Result, Ok, Err, refl, sym, ◌∙◌, ap, inl, inr, arith}
use Rattle.std.specs.List.{zip}
use Rattle.bt_frac.specs.Ratio.{Ratio}
use Rattle.bt_frac.specs.Rows.{RowParts}
use Rattle.bt_farkas.specs.Farkas.{IsFarkas}
use Rattle.bt_farkas.specs.declared.wide.WideAt.{WideAt}
use Rattle.bt_farkas.proofs.FarkasLemmas.{one_farkas}
use Rattle.bt_cnf.specs.Formulas.{FormulaParts, IsFormula, AscendBelow}
use Rattle.bt_cnf.specs.declared.literal.Lit.{Lit}
use Rattle.bt_log.specs.Units.{UnitsRefute}
use Rattle.bt_cnf.specs.Units.{clause_at}
use Rattle.bt_cert.specs.StepLines.{WrittenStep, Lemma, Learnt, lit_of}
use Rattle.bt_cert.specs.inner.Judgements.{Judgement, Valid, Fails, IsWideAt, IsJudged}
use Rattle.bt_cert.specs.Judging.{Negate, MayWeighRows, AreLearntLits, AreHints}
use Rattle.bt_extend.specs.declared.written.WrittenLit.{WrittenLit}
use Rattle.bt_cert.specs.declared.fault.Cause.TheVariants as cause

-- the first item or a later one
first_or_later : {A : Type 0} (a : A) (xs : List A) (x : A) → Contains (a ∷ xs) x → (a ≡ x) ⊎ Contains xs x
first_or_later a xs x (zero, inside, e) = inl e
first_or_later a xs x (suc k, inside, e) = inr (k, omega arith, e)

-- the variables of atoms ascend from the least one on
atom_above : (least end : ℕ) (atoms : List (ℕ × RowParts)) → AscendBelow least end (map (λ a. a.0) atoms) → (v : ℕ) (row : RowParts) → Contains atoms (v, row) → least ≤ v
atom_above least end [] up v row c = absurd (omega (arith, c.1))
atom_above least end (a ∷ atoms) up v row c = elim (first_or_later a atoms (v, row) c) [
  | inl e ↦ omega (arith, up.0, ap (λ p. p.0) e)
  | inr later ↦ omega (arith, up.0, atom_above (a.0 + 1) end atoms up.2 v row later)
]

same_row : (least end : ℕ) (a : ℕ × RowParts) (atoms : List (ℕ × RowParts)) → AscendBelow least end (map (λ x. x.0) (a ∷ atoms)) → (v : ℕ) (row other : RowParts)
    → (Contains atoms (v, row) → Contains atoms (v, other) → row ≡ other)
    → (a ≡ (v, row)) ⊎ Contains atoms (v, row) → (a ≡ (v, other)) ⊎ Contains atoms (v, other) → row ≡ other
same_row least end a atoms up v row other more (inl e) (inl e') = ap (λ p. p.1) (sym e ∙ e')
same_row least end a atoms up v row other more (inl e) (inr later) = absurd (omega (arith, ap (λ p. p.0) e, atom_above (a.0 + 1) end atoms up.2 v other later))
same_row least end a atoms up v row other more (inr later) (inl e) = absurd (omega (arith, ap (λ p. p.0) e, atom_above (a.0 + 1) end atoms up.2 v row later))
same_row least end a atoms up v row other more (inr later) (inr later') = more later later'

-- a variable has one row
atom_same : (least end : ℕ) (atoms : List (ℕ × RowParts)) → AscendBelow least end (map (λ a. a.0) atoms) → (v : ℕ) (row other : RowParts)
    → Contains atoms (v, row) → Contains atoms (v, other) → row ≡ other
atom_same least end [] up v row other c d = absurd (omega (arith, c.1))
atom_same least end (a ∷ atoms) up v row other c d =
    same_row least end a atoms up v row other (λ later later'. atom_same (a.0 + 1) end atoms up.2 v row other later later') (first_or_later a atoms (v, row) c) (first_or_later a atoms (v, other) d)

-- literals negate one list of rows
pub rows_same : (f : FormulaParts) → IsFormula f → (lits : List Lit) (rows others : List RowParts) → Negate f lits rows → Negate f lits others → rows ≡ others
rows_same f formula [] [] [] h k = refl
rows_same f formula [] [] (s ∷ others) h k = absurd k
rows_same f formula [] (r ∷ rows) others h k = absurd h
rows_same f formula (l ∷ lits) [] others h k = absurd h
rows_same f formula (l ∷ lits) (r ∷ rows) [] h k = absurd k
rows_same f formula (l ∷ lits) (r ∷ rows) (s ∷ others) h k =
    let first : r ≡ s = atom_same 0 f.vars f.atoms formula.atoms l.var r s h.0.1 k.0.1 in
    let more : rows ≡ others = rows_same f formula lits rows others h.1 k.1 in
    cc

pub as_many : (f : FormulaParts) (lits : List Lit) (rows : List RowParts) → Negate f lits rows → length lits ≡ length rows
as_many f [] [] h = refl
as_many f [] (r ∷ rows) h = absurd h
as_many f (l ∷ lits) [] h = absurd h
as_many f (l ∷ lits) (r ∷ rows) h = ap suc (as_many f lits rows h.1)

-- what the answer of a sum says of a lemma
judgement_of : Result Bool WideAt → Judgement
judgement_of (Ok true) = Valid
judgement_of (Ok false) = Fails cause.Sum
judgement_of (Err at) = IsWideAt at

-- the judgement of a lemma whose literals negate atoms of these rows
data Weighing (rows : List RowParts) (weights : List Ratio) (j : Judgement) : Type 0 where
  Unweighed : (MayWeighRows rows weights → ⊥) → j ≡ Fails cause.Weight → Weighing rows weights j
  Weighed : MayWeighRows rows weights → (r : Result Bool WideAt) → IsFarkas (zip rows weights) r → j ≡ judgement_of r → Weighing rows weights j

-- the judgement of a lemma
data Naming (f : FormulaParts) (lits : List Lit) (weights : List Ratio) (j : Judgement) : Type 0 where
  Unnamed : ((rows : List RowParts) → Negate f lits rows → ⊥) → j ≡ Fails cause.Literal → Naming f lits weights j
  Named : (rows : List RowParts) → Negate f lits rows → Weighing rows weights j → Naming f lits weights j

lemma_naming : (f : FormulaParts) (clauses : List (List Lit)) (lits : List WrittenLit) (weights : List Ratio) (j : Judgement)
    → IsJudged f clauses (Lemma lits weights) j → Naming f (map lit_of lits) weights j
unfolding judgement_of
lemma_naming f clauses lits weights Valid h =
    let v = h.0 in
    let w : MayWeighRows v.rows weights = record { counted = v.counted ∙ as_many f (map lit_of lits) v.rows v.negated; weights_fit = v.false_sum.weights } in
    Named v.rows v.negated (Weighed w (Ok true)
    ((λ may row place wide. h.1 (record { rows = v.rows; negated = v.negated; weighed = w }) row place wide), ((λ yes. v.false_sum), (λ s. refl))) refl)
lemma_naming f clauses lits weights (Fails cause.Literal) h = Unnamed h refl
lemma_naming f clauses lits weights (Fails cause.Weight) h = Named h.0 h.1 (Unweighed h.2 refl)
lemma_naming f clauses lits weights (Fails cause.Sum) h = Named h.0.rows h.0.negated (Weighed h.0.weighed (Ok false) h.1 refl)
lemma_naming f clauses lits weights (Fails cause.Hint) h = absurd h
lemma_naming f clauses lits weights (Fails cause.Unit) h = absurd h
lemma_naming f clauses lits weights (IsWideAt at) h = Named h.0.rows h.0.negated (Weighed h.0.weighed (Err at) (h.0.weighed.weights_fit, h.1) refl)

one_weighing : (rows : List RowParts) (weights : List Ratio) (a b : Judgement) → Weighing rows weights a → Weighing rows weights b → a ≡ b
one_weighing rows weights a b (Unweighed isnt e) (Unweighed isnt' e') = e ∙ sym e'
one_weighing rows weights a b (Unweighed isnt e) (Weighed w r h e') = absurd (isnt w)
one_weighing rows weights a b (Weighed w r h e) (Unweighed isnt e') = absurd (isnt w)
one_weighing rows weights a b (Weighed w r h e) (Weighed w' r' h' e') = e ∙ ap judgement_of (one_farkas (zip rows weights) r r' h h') ∙ sym e'

one_naming : (f : FormulaParts) → IsFormula f → (lits : List Lit) (weights : List Ratio) (a b : Judgement) → Naming f lits weights a → Naming f lits weights b → a ≡ b
one_naming f formula lits weights a b (Unnamed isnt e) (Unnamed isnt' e') = e ∙ sym e'
one_naming f formula lits weights a b (Unnamed isnt e) (Named rows h w) = absurd (isnt rows h)
one_naming f formula lits weights a b (Named rows h w) (Unnamed isnt e) = absurd (isnt rows h)
one_naming f formula lits weights a b (Named rows h w) (Named rows' h' w') =
    one_weighing rows weights a b w (rw (← rows_same f formula lits rows rows' h h') at w')

-- the judgement of a learnt clause
data Hinting (f : FormulaParts) (clauses : List (List Lit)) (lits : List Lit) (hints : List ℕ) (j : Judgement) : Type 0 where
  WrongLits : (AreLearntLits f lits → ⊥) → j ≡ Fails cause.Literal → Hinting f clauses lits hints j
  WrongHints : AreLearntLits f lits → (AreHints clauses hints → ⊥) → j ≡ Fails cause.Hint → Hinting f clauses lits hints j
  WrongUnits : AreLearntLits f lits → AreHints clauses hints → (UnitsRefute lits (map (clause_at clauses) hints) → ⊥) → j ≡ Fails cause.Unit → Hinting f clauses lits hints j
  Right : AreLearntLits f lits → AreHints clauses hints → UnitsRefute lits (map (clause_at clauses) hints) → j ≡ Valid → Hinting f clauses lits hints j

learnt_hinting : (f : FormulaParts) (clauses : List (List Lit)) (lits : List WrittenLit) (hints : List ℕ) (j : Judgement)
    → IsJudged f clauses (Learnt lits hints) j → Hinting f clauses (map lit_of lits) (map (λ hint. hint - 1) hints) j
learnt_hinting f clauses lits hints Valid h = Right (record { variables = h.0.variables; signs = h.0.signs }) h.0.numbers h.0.units refl
learnt_hinting f clauses lits hints (Fails cause.Literal) h = WrongLits h refl
learnt_hinting f clauses lits hints (Fails cause.Weight) h = absurd h
learnt_hinting f clauses lits hints (Fails cause.Sum) h = absurd h
learnt_hinting f clauses lits hints (Fails cause.Hint) h = WrongHints h.0 h.1 refl
learnt_hinting f clauses lits hints (Fails cause.Unit) h = WrongUnits h.0 h.1 h.2 refl
learnt_hinting f clauses lits hints (IsWideAt at) h = absurd h

one_hinting : (f : FormulaParts) (clauses : List (List Lit)) (lits : List Lit) (hints : List ℕ) (a b : Judgement)
    → Hinting f clauses lits hints a → Hinting f clauses lits hints b → a ≡ b
one_hinting f clauses lits hints a b (WrongLits isnt e) (WrongLits isnt' e') = e ∙ sym e'
one_hinting f clauses lits hints a b (WrongLits isnt e) (WrongHints h isnt' e') = absurd (isnt h)
one_hinting f clauses lits hints a b (WrongLits isnt e) (WrongUnits h k isnt' e') = absurd (isnt h)
one_hinting f clauses lits hints a b (WrongLits isnt e) (Right h k u e') = absurd (isnt h)
one_hinting f clauses lits hints a b (WrongHints h isnt e) (WrongLits isnt' e') = absurd (isnt' h)
one_hinting f clauses lits hints a b (WrongHints h isnt e) (WrongHints h' isnt' e') = e ∙ sym e'
one_hinting f clauses lits hints a b (WrongHints h isnt e) (WrongUnits h' k isnt' e') = absurd (isnt k)
one_hinting f clauses lits hints a b (WrongHints h isnt e) (Right h' k u e') = absurd (isnt k)
one_hinting f clauses lits hints a b (WrongUnits h k isnt e) (WrongLits isnt' e') = absurd (isnt' h)
one_hinting f clauses lits hints a b (WrongUnits h k isnt e) (WrongHints h' isnt' e') = absurd (isnt' k)
one_hinting f clauses lits hints a b (WrongUnits h k isnt e) (WrongUnits h' k' isnt' e') = e ∙ sym e'
one_hinting f clauses lits hints a b (WrongUnits h k isnt e) (Right h' k' u e') = absurd (isnt u)
one_hinting f clauses lits hints a b (Right h k u e) (WrongLits isnt' e') = absurd (isnt' h)
one_hinting f clauses lits hints a b (Right h k u e) (WrongHints h' isnt' e') = absurd (isnt' k)
one_hinting f clauses lits hints a b (Right h k u e) (WrongUnits h' k' isnt' e') = absurd (isnt' u)
one_hinting f clauses lits hints a b (Right h k u e) (Right h' k' u' e') = e ∙ sym e'

-- a step has one right judgement
pub one_judgement : (f : FormulaParts) → IsFormula f → (clauses : List (List Lit)) (step : WrittenStep) (a b : Judgement)
    → IsJudged f clauses step a → IsJudged f clauses step b → a ≡ b
one_judgement f formula clauses (Lemma lits weights) a b p q =
    one_naming f formula (map lit_of lits) weights a b (lemma_naming f clauses lits weights a p) (lemma_naming f clauses lits weights b q)
one_judgement f formula clauses (Learnt lits hints) a b p q =
    one_hinting f clauses (map lit_of lits) (map (λ hint. hint - 1) hints) a b (learnt_hinting f clauses lits hints a p) (learnt_hinting f clauses lits hints b q)
