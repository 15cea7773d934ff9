-- The columns of rows ascend.
use Rattle.std.proofs.Common.{ℕ, ◌<◌, ◌≤◌, ◌+◌, ◌-◌, ◌^◌, Bool, true, false, List, [], ◌∷◌, ◌++◌, length, map, cond, arith, zero, suc}
use Rattle.std.specs.List.{range_with_len}
use Rattle.bt_frac.specs.Ratio.{Ratio}
use Rattle.bt_frac.specs.Columns.{AreColumnsFrom}
use Rattle.bt_frac.specs.Rows.{columns_of}
use Rattle.bt_net.specs.declared.network.Edge.{Edge}
use Rattle.bt_net.specs.Network.{leaves, enters}
use Rattle.bt_flow.specs.Ports.{numbers_where}
use Rattle.bt_flow_formula.specs.Columns.{plus, minus, in_less_out}

earlier : (m n : ℕ) (columns : List ℕ) → m ≤ n → AreColumnsFrom n columns → AreColumnsFrom m columns
earlier m n [] l h = tt
earlier m n (c ∷ cs) l h = (let a = h.0 in omega (arith, a, l), h.1, h.2)

one_edge : (b c : Bool) (m : ℕ) (terms : List (ℕ × Ratio)) → m < 2 ^ 64 - 1 → AreColumnsFrom (m + 1) (columns_of terms)
    → AreColumnsFrom m (columns_of (cond b (cond c [] (plus m ∷ [])) (cond c (minus m ∷ []) []) ++ terms))
one_edge true true m terms l h = earlier m (m + 1) (columns_of terms) (omega arith) h
one_edge true false m terms l h = (let e : m ≤ m = omega arith in e, l, h)
one_edge false true m terms l h = (let e : m ≤ m = omega arith in e, l, h)
one_edge false false m terms l h = earlier m (m + 1) (columns_of terms) (omega arith) h

-- the columns of a splitter's flows
pub splitter_columns : (k m : ℕ) (es : List Edge) → m + length es < 2 ^ 64 → AreColumnsFrom m (columns_of (in_less_out k m es))
splitter_columns k m [] l = tt
splitter_columns k m (e ∷ es) l =
    one_edge (enters k e) (leaves k e) m (in_less_out k (m + 1) es) (omega arith) (splitter_columns k (m + 1) es (omega arith))

counted_columns : (least first count : ℕ) → least ≤ first → first + count < 2 ^ 64 → AreColumnsFrom least (columns_of (map plus (range_with_len first count)))
counted_columns least first zero l few = tt
counted_columns least first (suc count) l few = (l, omega arith, counted_columns (first + 1) (first + 1) count (omega arith) (omega arith))

-- the columns of edges and then of so many more
pub output_columns : (p : Edge → Bool) (m : ℕ) (es : List Edge) (first count : ℕ) → m + length es ≤ first → first + count < 2 ^ 64
    → AreColumnsFrom m (columns_of (map minus (numbers_where p m es) ++ map plus (range_with_len first count)))
output_columns p m [] first count l few = counted_columns m first count (omega arith) few
output_columns p m (e ∷ es) first count l few =
    let again = output_columns p (m + 1) es first count (omega arith) few in
    elim (p e) as (λ b. AreColumnsFrom m (columns_of (map minus (cond b (m ∷ numbers_where p (m + 1) es) (numbers_where p (m + 1) es)) ++ map plus (range_with_len first count)))) [
      | true ↦ (let z : m ≤ m = omega arith in z, omega arith, again)
      | false ↦ earlier m (m + 1) _ (omega arith) again
    ]
