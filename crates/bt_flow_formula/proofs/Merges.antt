-- The terms of a splitter's in edges and out edges, merged, are those of all edges in their order.
use Rattle.std.proofs.Common.{◌≡◌, ℕ, ◌<◌, ◌≤◌, ◌+◌, Bool, true, false, List, [], ◌∷◌, ◌++◌, length, map, cond, ap, sym, ◌∙◌, refl, arith, ltb, take, drop, ◌-◌, ◌⊎◌, inl, inr, append-nil}
use Rattle.std.specs.List.{AllByRecursion}
use Rattle.std.proofs.lemmas.Bool.{lt-ltb, le-ltb}
use Rattle.std.proofs.lemmas.List.{take_all, drop_all, length-drop}
use Rattle.bt_frac.specs.Ratio.{Ratio}
use Rattle.bt_net.specs.declared.network.Edge.{Edge}
use Rattle.bt_net.specs.Network.{leaves, enters}
use Rattle.bt_flow.specs.Ports.{numbers_where}
use Rattle.bt_flow_formula.specs.Columns.{plus, minus, in_less_out}
use Rattle.bt_flow_formula.specs.inner.Merging.{merged, merged_from}

-- numbers are above a number
abbrev pub AreAbove : ℕ → List ℕ → Type 0
AreAbove m numbers = AllByRecursion (λ x. m < x) numbers

merged_none : (xs : List ℕ) → merged xs [] ≡ map plus xs
merged_none [] = refl
merged_none (x ∷ xs) = refl

-- a column that is added and is below all that are subtracted comes first
merged_first : (x : ℕ) (xs ys : List ℕ) → AreAbove x ys → merged (x ∷ xs) ys ≡ plus x ∷ merged xs ys
merged_first x xs [] h = ap (λ l. plus x ∷ l) (sym (merged_none xs))
merged_first x xs (y ∷ ys) h =
    let below : ltb x y ≡ true = lt-ltb x y h.0 in
    ap (λ b. cond b (plus x ∷ merged xs (y ∷ ys)) (cond (ltb y x) (minus y ∷ merged_from x xs (merged xs) ys) (merged xs ys))) below

-- a column that is subtracted and is below all that are added comes first
merged_second : (y : ℕ) (xs ys : List ℕ) → AreAbove y xs → merged xs (y ∷ ys) ≡ minus y ∷ merged xs ys
merged_second y [] ys h = refl
merged_second y (x ∷ xs) ys h =
    let below : ltb y x ≡ true = lt-ltb y x h.0 in
    let above : ltb x y ≡ false = le-ltb x y (omega (arith, h.0)) in
    ap (λ b. cond b (plus x ∷ merged xs (y ∷ ys)) (cond (ltb y x) (minus y ∷ merged_from x xs (merged xs) ys) (merged xs ys))) above
    ∙ ap (λ b. cond b (minus y ∷ merged_from x xs (merged xs) ys) (merged xs ys)) below

-- a column that is both is left out
merged_both : (m : ℕ) (xs ys : List ℕ) → merged (m ∷ xs) (m ∷ ys) ≡ merged xs ys
merged_both m xs ys =
    let same : ltb m m ≡ false = le-ltb m m (omega arith) in
    ap (λ b. cond b (plus m ∷ merged xs (m ∷ ys)) (cond (ltb m m) (minus m ∷ merged_from m xs (merged xs) ys) (merged xs ys))) same
    ∙ ap (λ b. cond b (minus m ∷ merged_from m xs (merged xs) ys) (merged xs ys)) same

-- the numbers of edges are above the number before the first
numbers_above : (p : Edge → Bool) (m k : ℕ) (es : List Edge) → k < m → AreAbove k (numbers_where p m es)
numbers_above p m k [] l = tt
numbers_above p m k (e ∷ es) l = elim (p e) as (λ b. AreAbove k (cond b (m ∷ numbers_where p (m + 1) es) (numbers_where p (m + 1) es))) [
  | true ↦ (l, numbers_above p (m + 1) k es (omega arith))
  | false ↦ numbers_above p (m + 1) k es (omega arith)
]

one_edge : (b c : Bool) (m : ℕ) (xs ys : List ℕ) (terms : List (ℕ × Ratio)) → AreAbove m xs → AreAbove m ys → merged xs ys ≡ terms
    → merged (cond b (m ∷ xs) xs) (cond c (m ∷ ys) ys) ≡ cond b (cond c [] (plus m ∷ [])) (cond c (minus m ∷ []) []) ++ terms
one_edge true true m xs ys terms h g e = merged_both m xs ys ∙ e
one_edge true false m xs ys terms h g e = merged_first m xs ys g ∙ ap (λ l. plus m ∷ l) e
one_edge false true m xs ys terms h g e = merged_second m xs ys h ∙ ap (λ l. minus m ∷ l) e
one_edge false false m xs ys terms h g e = e

-- the in edges and out edges of a splitter, merged
pub merged_edges : (k m : ℕ) (es : List Edge) → merged (numbers_where (enters k) m es) (numbers_where (leaves k) m es) ≡ in_less_out k m es
merged_edges k m [] = refl
merged_edges k m (e ∷ es) =
    one_edge (enters k e) (leaves k e) m (numbers_where (enters k) (m + 1) es) (numbers_where (leaves k) (m + 1) es) (in_less_out k (m + 1) es)
    (numbers_above (enters k) (m + 1) m es (omega arith)) (numbers_above (leaves k) (m + 1) m es (omega arith)) (merged_edges k (m + 1) es)

-- all of what is left of a list
pub rest_is : (xs : List ℕ) (left i : ℕ) → length (take (length xs - left) (drop left xs)) ≤ i → take i (take (length xs - left) (drop left xs)) ≡ drop left xs
rest_is xs left i l =
    let long : length (drop left xs) ≤ length xs - left = omega (arith, length-drop left xs) in
    take_all i (take (length xs - left) (drop left xs)) l ∙ take_all (length xs - left) (drop left xs) long

-- where one list is used up, what is left of both comes last
pub merge_end : (xs ys : List ℕ) (left right : ℕ) (t u v : List (ℕ × Ratio)) → t ++ merged (drop left xs) (drop right ys) ≡ merged xs ys
    → (length xs ≤ left) ⊎ (length ys ≤ right) → u ≡ t ++ map plus (drop left xs) → v ≡ u ++ map minus (drop right ys) → v ≡ merged xs ys
merge_end xs ys left right t u v h used e g =
    elim used [
      | inl l ↦
          let none : drop left xs ≡ [] = drop_all left xs l in
          let same : u ≡ t = e ∙ ap (λ x. t ++ map plus x) none ∙ append-nil t in
          g ∙ ap (λ x. x ++ map minus (drop right ys)) same ∙ sym (ap (λ x. t ++ merged x (drop right ys)) none) ∙ h
      | inr l ↦
          let none : drop right ys ≡ [] = drop_all right ys l in
          g ∙ ap (λ x. u ++ map minus x) none ∙ append-nil u ∙ e ∙ ap (λ x. t ++ x) (sym (merged_none (drop left xs))) ∙ sym (ap (λ x. t ++ merged (drop left xs) x) none) ∙ h
    ]
