-- The one answer to whether a row holds.
use Rattle.std.proofs.Common.{◌≡◌, ℕ, ◌<◌, ◌+◌, List, [], ◌∷◌, ◌++◌, length, get_or, take, drop, Bool, true, false, IsTrue, ◌↔◌, Ok, Err, ap, sym, ◌∙◌, refl, subst, take-append-drop}
use Rattle.std.specs.List.{All}
use Rattle.std.proofs.lemmas.Bool.{false≢true}
use Rattle.std.proofs.lemmas.List.{take_more, map_push, get_or_default}
use Rattle.bt_text.specs.Answers.{HasOneAnswer}
use Rattle.bt_frac.specs.Ratio.{Ratio}
use Rattle.bt_frac.specs.Rows.{RowParts}
use Rattle.bt_frac.specs.Values.{nothing, value_in, valued, sum_of_products, Stands, RowHolds}
use Rattle.bt_frac.proofs.RowColumns.{left_from}
use Rattle.bt_farkas.specs.Evaluation.{IsWideColumn, IsEvaluation}
use Rattle.bt_farkas.specs.RunningSums.{RunsTo, AddsProduct, IsWideStep}
use Rattle.bt_farkas.specs.declared.wide.WideAt.{WideAt}
use Rattle.bt_farkas.proofs.RunLemmas.{runs_through, runs_more, runs_reach}
use Rattle.bt_farkas.proofs.SameNumbers.{stands_same}

-- two tests of one fact agree
pub same_test : (P : Type 0) (a b : Bool) → (IsTrue a ↔ P) → (IsTrue b ↔ P) → a ≡ b
same_test P true true p q = refl
same_test P true false p q = absurd (false≢true (q.1 (p.0 refl)))
same_test P false true p q = absurd (false≢true (p.1 (q.0 refl)))
same_test P false false p q = refl

valued_split : (values : ℕ → Ratio) (front : List (ℕ × Ratio)) (column : ℕ) (coefficient : Ratio) (rest : List (ℕ × Ratio))
    → valued values (front ++ (column, coefficient) ∷ rest) ≡ valued values front ++ (coefficient, values column) ∷ valued values rest
valued_split values [] column coefficient rest = refl
valued_split values (t ∷ front) column coefficient rest = ap (λ ps. (t.1, values t.0) ∷ ps) (valued_split values front column coefficient rest)

-- two splits of a list: they are the same, or the second goes on past the first, or the first past the second
data Splits {X : Type 0} (front : List X) (x : X) (front' : List X) (y : X) : Type 0 where
  same : x ≡ y → Splits front x front' y
  later : (more : List X) → front' ≡ front ++ x ∷ more → Splits front x front' y
  earlier : (more : List X) → front ≡ front' ++ y ∷ more → Splits front x front' y

splits_more : {X : Type 0} (z : X) (front : List X) (x : X) (front' : List X) (y : X) → Splits front x front' y → Splits (z ∷ front) x (z ∷ front') y
splits_more z front x front' y (same e) = same e
splits_more z front x front' y (later more e) = later more (ap (λ xs. z ∷ xs) e)
splits_more z front x front' y (earlier more e) = earlier more (ap (λ xs. z ∷ xs) e)

splits : {X : Type 0} (front : List X) (x : X) (rest : List X) (front' : List X) (y : X) (rest' : List X) → front ++ x ∷ rest ≡ front' ++ y ∷ rest' → Splits front x front' y
splits [] x rest [] y rest' e = same cc
splits [] x rest (z ∷ front') y rest' e = later front' (let first : z ≡ x = cc in ap (λ w. w ∷ front') first)
splits (z ∷ front) x rest [] y rest' e = earlier front (let first : z ≡ y = cc in ap (λ w. w ∷ front) first)
splits (z ∷ front) x rest (w ∷ front') y rest' e =
    let first : z ≡ w = cc in
    let others : front ++ x ∷ rest ≡ front' ++ y ∷ rest' = cc in
    subst (λ u. Splits (z ∷ front) x (u ∷ front') y) first (splits_more z front x front' y (splits front x rest front' y rest' others))

-- a sum that runs through the columns before one isn't wide at any of them
passed : (values : ℕ → Ratio) (front more : List (ℕ × Ratio)) (column : ℕ) (coefficient t u : Ratio) → RunsTo nothing (valued values (front ++ (column, coefficient) ∷ more)) t
    → RunsTo nothing (valued values front) u → IsWideStep u (coefficient, values column) → ⊥
passed values front more column coefficient t u runs less wide =
    runs_through nothing u t (valued values front) (coefficient, values column) (valued values more)
    (subst (λ ps. RunsTo nothing ps t) (valued_split values front column coefficient more) runs) less wide

same_column : (terms : List (ℕ × Ratio)) (values : ℕ → Ratio) (a b : ℕ) → (v : IsWideColumn terms values a) → (w : IsWideColumn terms values b)
    → Splits v.front (a, v.coefficient) w.front (b, w.coefficient) → a ≡ b
same_column terms values a b v w (same e) = ap (λ t. t.0) e
same_column terms values a b v w (later more e) =
    absurd (passed values v.front more a v.coefficient w.sum v.sum (subst (λ ts. RunsTo nothing (valued values ts) w.sum) e w.runs) v.runs v.wide)
same_column terms values a b v w (earlier more e) =
    absurd (passed values w.front more b w.coefficient v.sum w.sum (subst (λ ts. RunsTo nothing (valued values ts) v.sum) e v.runs) w.runs w.wide)

not_both : (row : RowParts) (values : List Ratio) (holds : Bool) (at : WideAt) → IsEvaluation row values (Ok holds) → IsEvaluation row values (Err at) → ⊥
not_both row values holds at p q =
    let w = q.1 in
    passed (value_in values) w.front w.rest at.column w.coefficient p.0.0 w.sum (subst (λ ts. RunsTo nothing (valued (value_in values) ts) p.0.0) w.split p.0.1) w.runs w.wide

same_place : (a b : WideAt) → a.row ≡ b.row → a.column ≡ b.column → a ≡ b
same_place a b e f = ap (λ r. record { row = r; column = a.column }) e ∙ ap (λ c. record { row = b.row; column = c }) f

-- two right answers are equal
pub one_evaluation : (row : RowParts) (values : List Ratio) → HasOneAnswer (IsEvaluation row values)
one_evaluation row values (Ok a) (Ok b) p q = ap Ok (same_test (RowHolds row (value_in values)) a b p.1 q.1)
one_evaluation row values (Ok a) (Err b) p q = absurd (not_both row values a b p q)
one_evaluation row values (Err a) (Ok b) p q = absurd (not_both row values b a q p)
one_evaluation row values (Err a) (Err b) p q =
    ap Err (same_place a b (p.0 ∙ sym q.0)
    (same_column row.terms (value_in values) a.column b.column p.1 q.1
    (splits p.1.front (a.column, p.1.coefficient) p.1.rest q.1.front (b.column, q.1.coefficient) q.1.rest (sym p.1.split ∙ q.1.split))))

-- the sum is wide at a place of the terms
pub wide_column : (terms : List (ℕ × Ratio)) (values : ℕ → Ratio) (i : ℕ) (term : ℕ × Ratio) (value sum : Ratio) → i < length terms → term ≡ get_or terms i term → value ≡ values term.0
    → RunsTo nothing (valued values (take i terms)) sum → IsWideStep sum (term.1, value) → IsWideColumn terms values term.0
wide_column terms values i term value sum inside is value_is runs wide = record {
  front = take i terms;
  coefficient = term.1;
  rest = drop (i + 1) terms;
  split = sym (take-append-drop i terms) ∙ ap (λ xs. take i terms ++ xs) (left_from terms i term inside is);
  sum = sum;
  runs = runs;
  wide = subst (λ v. IsWideStep sum (term.1, v)) value_is wide;
}

-- one more term of the sum
pub valued_more : (terms : List (ℕ × Ratio)) (values : ℕ → Ratio) (i : ℕ) (term : ℕ × Ratio) (value sum next : Ratio) → i < length terms → term ≡ get_or terms i term → value ≡ values term.0
    → RunsTo nothing (valued values (take i terms)) sum → AddsProduct sum (term.1, value) next → RunsTo nothing (valued values (take (i + 1) terms)) next
valued_more terms values i term value sum next inside is value_is runs adds =
    let more : valued values (take (i + 1) terms) ≡ valued values (take i terms) ++ (term.1, values term.0) ∷ [] =
    ap (valued values) (take_more terms i term inside ∙ ap (λ t. take i terms ++ t ∷ []) (sym is)) ∙ map_push (λ t. (t.1, values t.0)) (take i terms) term in
    subst (λ ps. RunsTo nothing ps next) (sym more)
    (runs_more nothing sum next (valued values (take i terms)) (term.1, values term.0) runs (subst (λ v. AddsProduct sum (term.1, v) next) value_is adds))

-- the answer where all terms were added
pub evaluated : (row : RowParts) (values : List Ratio) (sum : Ratio) (holds : Bool) → RunsTo nothing (valued (value_in values) row.terms) sum
    → (IsTrue holds ↔ Stands row.relation sum row.bound) → IsEvaluation row values (Ok holds)
evaluated row values sum holds runs told =
    let reach = runs_reach sum (valued (value_in values) row.terms) runs in
    let both = stands_same row.relation row.bound sum (sum_of_products (valued (value_in values) row.terms)) reach.end_some reach.sum_some reach.same in
    ((sum, runs), (λ h. both.0 (told.0 h), λ h. told.1 (both.1 h)))

-- the value that was read of a list is the column's
pub value_is : (terms : List (ℕ × Ratio)) (values : List Ratio) (i : ℕ) (term : ℕ × Ratio) (value : Ratio) → All (λ t. t.0 < length values) terms → i < length terms
    → term ≡ get_or terms i term → value ≡ get_or values term.0 value → value ≡ value_in values term.0
value_is terms values i term value all inside is read =
    let below : term.0 < length values = subst (λ t. t.0 < length values) (sym is) (all i term inside) in
    read ∙ get_or_default values term.0 value nothing below
