-- The edges at a side of a splitter, the one that it prefers there, and the one beside that.
use Rattle.std.proofs.Common.{◌≡◌, ◌≢◌, ℕ, ◌<◌, ◌≤◌, ◌+◌, ◌==◌, ◌⊎◌, inl, inr, Bool, true, false, Some, None, List, [], ◌∷◌, cond, ap, sym, ◌∙◌, refl, arith}
use Rattle.std.specs.List.{AllByRecursion}
use Rattle.std.proofs.lemmas.Bool.Decides.{eqb_tells}
use Rattle.bt_net.specs.declared.network.Edge.{Edge}
use Rattle.bt_net.specs.Network.{Network, IsNetwork, take_of, merges_any, leaves, enters}
use Rattle.bt_flow.specs.Ports.{numbers_where}
use Rattle.bt_flow_formula.specs.declared.state_literal.Side.{Side}
use Rattle.bt_flow_formula.specs.declared.state_literal.Side.TheVariants.{Out, In}
use Rattle.bt_flow_formula.specs.Columns.{edges_at, unless_any, preferred_at}
use Rattle.bt_flow_formula.specs.Pairs.{beside, even_pairs, side_pairs, pairs_at}
use Rattle.bt_flow_formula.proofs.NetEdges.{IsEdgeWith, edges_with}

-- whether an edge is at a side of a splitter
abbrev pub at_side : Side → ℕ → Edge → Bool
at_side Out k = leaves k
at_side In k = enters k

-- what holds of all edges holds of those that are left
pub left_all : (P : ℕ → Type 0) (any : Bool) (edges : List ℕ) → AllByRecursion P edges → AllByRecursion P (unless_any any edges)
left_all P true edges all = tt
left_all P false edges all = all

-- two that are left are all
two_left : (any : Bool) (edges : List ℕ) (a b : ℕ) → unless_any any edges ≡ a ∷ b ∷ [] → edges ≡ a ∷ b ∷ []
two_left true edges a b e = absurd (cc)
two_left false edges a b e = e

-- a splitter that prefers an in edge may not prefer any
pub even_where_named : (n : Network) → IsNetwork n → (k a : ℕ) → take_of n k ≡ Some a → merges_any n k ≡ false
even_where_named n is k a some = by (merges_any n k) refl
  where
    by : (any : Bool) → merges_any n k ≡ any → merges_any n k ≡ false
    by true any = absurd (let none : take_of n k ≡ None = is.prioritised.one_of_both k any in cc)
    by false even = even

pub side_edges : (n : Network) (side : Side) (k : ℕ) → AllByRecursion (IsEdgeWith n (at_side side k)) (edges_at n side k)
side_edges n Out k = edges_with n (at_side Out k)
side_edges n In k = left_all (IsEdgeWith n (at_side In k)) (merges_any n k) (numbers_where (at_side In k) 0 n.edges) (edges_with n (at_side In k))

-- the numbers of edges ascend

not_lower : (p : Edge → Bool) (m : ℕ) (es : List Edge) → AllByRecursion (λ x. m ≤ x) (numbers_where p m es)
not_lower p m [] = tt
not_lower p m (e ∷ es) =
    let rest = each_higher m (m + 1) (omega arith) (numbers_where p (m + 1) es) (not_lower p (m + 1) es) in
    elim (p e) as (λ b. AllByRecursion (λ x. m ≤ x) (cond b (m ∷ numbers_where p (m + 1) es) (numbers_where p (m + 1) es))) [ true ↦ (omega arith, rest) | false ↦ rest ]
  where
    each_higher : (m k : ℕ) → m ≤ k → (xs : List ℕ) → AllByRecursion (λ x. k ≤ x) xs → AllByRecursion (λ x. m ≤ x) xs
    each_higher m k l [] h = tt
    each_higher m k l (x ∷ xs) h = ((let g = h.0 in omega (arith, g, l)), each_higher m k l xs h.1)

ascend_by : (t : Bool) (m a b : ℕ) (numbers rest : List ℕ) → AllByRecursion (λ x. m + 1 ≤ x) numbers → (numbers ≡ a ∷ b ∷ rest → a < b) → cond t (m ∷ numbers) numbers ≡ a ∷ b ∷ rest → a < b
ascend_by true m a b [] rest h again e = absurd (cc)
ascend_by true m a b (x ∷ numbers) rest h again e =
    let first : m ≡ a = cc in
    let second : x ≡ b = cc in
    let l = h.0 in
    omega (arith, first, second, l)
ascend_by false m a b numbers rest h again e = again e

pub ascend : (p : Edge → Bool) (m a b : ℕ) (rest : List ℕ) (es : List Edge) → numbers_where p m es ≡ a ∷ b ∷ rest → a < b
ascend p m a b rest [] e = absurd (cc)
ascend p m a b rest (x ∷ es) e = ascend_by (p x) m a b (numbers_where p (m + 1) es) rest (not_lower p (m + 1) es) (ascend p (m + 1) a b rest es) e

-- the two edges at a side ascend
pub side_ascends : (n : Network) (side : Side) (k a b : ℕ) → edges_at n side k ≡ a ∷ b ∷ [] → a < b
side_ascends n Out k a b e = ascend (at_side Out k) 0 a b [] n.edges e
side_ascends n In k a b e = ascend (at_side In k) 0 a b [] n.edges (two_left (merges_any n k) (numbers_where (at_side In k) 0 n.edges) a b e)

-- the preferred edge is one of the edges there
pub preferred_is : (n : Network) → IsNetwork n → (side : Side) (k x : ℕ) → preferred_at n side k ≡ Some x → IsEdgeWith n (at_side side k) x
preferred_is n is Out k x e = is.prioritised.gives k x e
preferred_is n is In k x e = is.prioritised.takes k x e

either : (P : ℕ → Type 0) (t : Bool) (a b : ℕ) → P a → P b → P (cond t b a)
either P true a b p q = q
either P false a b p q = p

-- the edge beside another is one of the two, and is another one
pub beside_edge : (P : ℕ → Type 0) (x a b : ℕ) → P a → P b → P (beside x a b)
beside_edge P x a b p q = either P (x == a) a b p q

pub beside_apart : (x a b : ℕ) → a < b → beside x a b ≢ x
beside_apart x a b l = elim (eqb_tells x a) [
  | inl same ↦
      let is_b : beside x a b ≡ b = ap (λ t. cond t b a) same.0 in
      let is_a : x ≡ a = same.1 in
      λ e. absurd (omega (arith, is_b, is_a, e, l))
  | inr apart ↦
      let is_a : beside x a b ≡ a = ap (λ t. cond t b a) apart.0 in
      λ e. apart.1 (sym e ∙ is_a)
]

-- and of two edges the other one
pub beside_other : (x y a b : ℕ) → (x ≡ a) ⊎ (x ≡ b) → (y ≡ a) ⊎ (y ≡ b) → y ≢ x → beside x a b ≡ y
beside_other x y a b p q o = elim (eqb_tells x a) [
  | inl same ↦ ap (λ t. cond t b a) same.0 ∙ elim q [ inl e ↦ absurd (o (e ∙ sym same.1)) | inr e ↦ sym e ]
  | inr apart ↦ ap (λ t. cond t b a) apart.0 ∙ elim q [ inl e ↦ sym e | inr e ↦ absurd (elim p [ inl f ↦ apart.1 f | inr f ↦ o (e ∙ sym f) ]) ]
]

-- where none is preferred, the pairs are those of each with the other
pub even_at : (n : Network) (side : Side) (k : ℕ) → preferred_at n side k ≡ None → pairs_at n side k ≡ even_pairs side k (edges_at n side k)
even_at n side k none = ap (λ o. side_pairs o side k (edges_at n side k)) none
