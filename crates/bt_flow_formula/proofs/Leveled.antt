-- A formula with a level: it is met exactly where an end that is short is below a value that another end reaches.
use Rattle.std.proofs.Common.{◌≡◌, ℕ, ◌<◌, ◌+◌, ◌*◌, Bool, true, pos, ◌*ℤ◌, [], ◌∷◌, ◌++◌, length, map, ap, sym, ◌∙◌, refl, subst, arith, zero, suc, length-append}
use Rattle.std.specs.List.{AllByRecursion, range_with_len}
use Rattle.std.proofs.lemmas.Int.{ints}
use Rattle.std.proofs.lemmas.Bool.{false≢true}
use Rattle.std.proofs.lemmas.List.FromFn.{length-map-range_with_len, get_or-map-range_with_len}
use Rattle.std.proofs.lemmas.Option.{slice_get_within}
use Rattle.bt_frac.specs.Ratio.{Ratio, IsOver}
use Rattle.bt_frac.specs.Rows.{RowParts}
use Rattle.bt_frac.specs.Values.{AreValues, RowHolds}
use Rattle.bt_frac.proofs.Order.{mul_le}
use Rattle.bt_frac.proofs.Over.{over_scaled, under_positive}
use Rattle.bt_net.specs.declared.network.Edge.{Edge}
use Rattle.bt_net.specs.Network.{Network, IsNetwork}
use Rattle.bt_flow.specs.declared.ports.End.{End}
use Rattle.bt_flow.specs.declared.ports.End.TheVariants.{Input, Output}
use Rattle.bt_flow.specs.Ports.{plays, role_of}
use Rattle.bt_flow.specs.States.{Flows, flow_at}
use Rattle.bt_flow.specs.Steady.{HasEdge}
use Rattle.bt_flow.specs.inner.Shares.{Shares, limit_at}
use Rattle.bt_cnf.specs.declared.literal.Lit.{Lit}
use Rattle.bt_cnf.specs.Formulas.{FormulaParts}
use Rattle.bt_cnf.specs.Meeting.{IsTrueUnder, MeetsClause, Meets}
use Rattle.bt_flow_formula.specs.declared.level.LevelRow.{LevelRow}
use Rattle.bt_flow_formula.specs.declared.level.LevelRow.TheVariants.{Below, Short, Reached}
use Rattle.bt_flow_formula.specs.Numbering.{atoms_from}
use Rattle.bt_flow_formula.specs.Levels.{level_column, end_count, end_edge, limit_column, level_row, end_rows, level_rows, some_of, implies, each_implies, level_clauses, with_level}
use Rattle.bt_flow_formula.specs.Solutions.{HasValues}
use Rattle.bt_flow_formula.proofs.Numbers.{all_from, all_to, atoms-append}
use Rattle.bt_flow_formula.proofs.NetEdges.{input_is, output_is, edge_of_input, edge_of_output}
use Rattle.bt_flow_formula.proofs.RowValues.{above_says, not_below_says}
use Rattle.bt_flow_formula.proofs.Withins.{each-append, each-left, each-right, in_range}

-- ---- rows of ends and their variables

-- atoms of rows that numbers from 0 on give, one by one
pub atoms_all : (P : ℕ × RowParts → Type 0) (f : ℕ → RowParts) (m a c : ℕ) → ((k : ℕ) → k < c → P (m + k, f (a + k))) → AllByRecursion P (atoms_from m (map f (range_with_len a c)))
atoms_all P f m a zero h = tt
atoms_all P f m a (suc c) h = (
  subst P (let p : m + 0 ≡ m = omega arith in let q : a + 0 ≡ a = omega arith in ap (λ x. (x, f (a + 0))) p ∙ ap (λ x. (m, f x)) q) (h 0 (omega arith)),
  atoms_all P f (m + 1) (a + 1) c (λ k l.
      subst P (let p : m + suc k ≡ m + 1 + k = omega arith in let q : a + suc k ≡ a + 1 + k = omega arith in ap (λ x. (x, f (a + suc k))) p ∙ ap (λ x. (m + 1 + k, f x)) q) (h (suc k) (omega (arith, l)))),
)

atoms_at : (P : ℕ × RowParts → Type 0) (f : ℕ → RowParts) (m a c k : ℕ) → AllByRecursion P (atoms_from m (map f (range_with_len a c))) → k < c → P (m + k, f (a + k))
atoms_at P f m a zero k h l = absurd (omega (arith, l))
atoms_at P f m a (suc c) zero h l =
    subst P (let p : m ≡ m + 0 = omega arith in let q : a ≡ a + 0 = omega arith in ap (λ x. (x, f a)) p ∙ ap (λ x. (m + 0, f x)) q) h.0
atoms_at P f m a (suc c) (suc k) h l =
    subst P (let p : m + 1 + k ≡ m + suc k = omega arith in let q : a + 1 + k ≡ a + suc k = omega arith in ap (λ x. (x, f (a + 1 + k))) p ∙ ap (λ x. (m + suc k, f x)) q)
    (atoms_at P f (m + 1) (a + 1) c k h.1 (omega (arith, l)))

from_none : (f : ℕ → RowParts) (m k : ℕ) (P : ℕ × RowParts → Type 0) → P (m + k, f (0 + k)) → P (m + k, f k)
from_none f m k P h = subst (λ j. P (m + k, f j)) (let e : 0 + k ≡ k = omega arith in e) h

pub to_none : (f : ℕ → RowParts) (m k : ℕ) (P : ℕ × RowParts → Type 0) → P (m + k, f k) → P (m + k, f (0 + k))
to_none f m k P h = subst (λ j. P (m + k, f j)) (let e : k ≡ 0 + k = omega arith in e) h

module _ (n : Network) (end : End) where
  pub rows_count : (row : LevelRow) → length (end_rows n end row) ≡ end_count n end
  rows_count row = length-map-range_with_len (level_row n end row) 0 (end_count n end)

  pub level_count : length (level_rows n end) ≡ 3 * end_count n end
  level_count =
      let a = rows_count Below in
      let b = rows_count Short in
      let c = rows_count Reached in
      let x = length-append (end_rows n end Below ++ end_rows n end Short) (end_rows n end Reached) in
      let y = length-append (end_rows n end Below) (end_rows n end Short) in
      omega (arith, a, b, c, x, y)

  -- the atoms of a level, in three parts
  parts : (P : ℕ × RowParts → Type 0) (m : ℕ) → AllByRecursion P (atoms_from m (level_rows n end))
      → AllByRecursion P (atoms_from m (end_rows n end Below)) × AllByRecursion P (atoms_from (m + end_count n end) (end_rows n end Short))
      × AllByRecursion P (atoms_from (m + 2 * end_count n end) (end_rows n end Reached))
  parts P m h =
      let b = end_rows n end Below in
      let s = end_rows n end Short in
      let r = end_rows n end Reached in
      let cb = rows_count Below in
      let cs = rows_count Short in
      let both = length-append b s in
      let whole = subst (AllByRecursion P) (atoms-append m (b ++ s) r) h in
      let front = subst (AllByRecursion P) (atoms-append m b s) (each-left P (atoms_from m (b ++ s)) (atoms_from (m + length (b ++ s)) r) whole) in
      let back = each-right P (atoms_from m (b ++ s)) (atoms_from (m + length (b ++ s)) r) whole in (
        each-left P (atoms_from m b) (atoms_from (m + length b) s) front,
        subst (λ x. AllByRecursion P (atoms_from x s)) (let e : m + length b ≡ m + end_count n end = omega (arith, cb) in e) (each-right P (atoms_from m b) (atoms_from (m + length b) s) front),
        subst (λ x. AllByRecursion P (atoms_from x r)) (let e : m + length (b ++ s) ≡ m + 2 * end_count n end = omega (arith, cb, cs, both) in e) back,
      )

  pub whole : (P : ℕ × RowParts → Type 0) (m : ℕ) → AllByRecursion P (atoms_from m (end_rows n end Below)) → AllByRecursion P (atoms_from (m + end_count n end) (end_rows n end Short))
      → AllByRecursion P (atoms_from (m + 2 * end_count n end) (end_rows n end Reached)) → AllByRecursion P (atoms_from m (level_rows n end))
  whole P m below short reached =
      let b = end_rows n end Below in
      let s = end_rows n end Short in
      let r = end_rows n end Reached in
      let cb = rows_count Below in
      let cs = rows_count Short in
      let both = length-append b s in
      let front = subst (AllByRecursion P) (sym (atoms-append m b s))
      (each-append P (atoms_from m b) (atoms_from (m + length b) s) below (subst (λ x. AllByRecursion P (atoms_from x s)) (let e : m + end_count n end ≡ m + length b = omega (arith, cb) in e) short)) in
      subst (AllByRecursion P) (sym (atoms-append m (b ++ s) r))
      (each-append P (atoms_from m (b ++ s)) (atoms_from (m + length (b ++ s)) r) front
      (subst (λ x. AllByRecursion P (atoms_from x r)) (let e : m + 2 * end_count n end ≡ m + length (b ++ s) = omega (arith, cb, cs, both) in e) reached))

-- ---- clauses of variables

-- the literal of a variable after a first one
abbrev true_at : ℕ → ℕ → Lit
true_at first k = record { var = first + k; positive = true }

-- of so many variables one is true
some_true : (a : ℕ → Bool) (first count : ℕ) → MeetsClause a (some_of first count) → (k : ℕ) × (k < count) × (a (first + k) ≡ true)
some_true a first count h =
    let long = length-map-range_with_len (true_at first) 0 count in
    let l = h.2 in
    let less : h.0 < count = omega (arith, long, l) in
    let lit : Lit = record { var = first + h.0; positive = true } in
    let same : h.1 ≡ lit = sym h.3 ∙ get_or-map-range_with_len (true_at first) 0 count h.0 h.0 h.1 less (let e : 0 + h.0 ≡ h.0 = omega arith in e) in
    (h.0, less, subst (IsTrueUnder a) same h.4)

pub some_met : (a : ℕ → Bool) (first count k : ℕ) → k < count → a (first + k) ≡ true → MeetsClause a (some_of first count)
some_met a first count k l t =
    let long = length-map-range_with_len (true_at first) 0 count in
    let lit : Lit = record { var = first + k; positive = true } in
    (k, lit, (omega (arith, long, l)), get_or-map-range_with_len (true_at first) 0 count k k lit l (let e : 0 + k ≡ k = omega arith in e), t)

follows : (a : ℕ → Bool) (x y : ℕ) → MeetsClause a (implies x y) → a x ≡ true → a y ≡ true
follows a x y (zero, d, l, e, p) t = absurd (false≢true (sym (subst (IsTrueUnder a) (sym e) p) ∙ t))
follows a x y (suc zero, d, l, e, p) t = subst (IsTrueUnder a) (sym e) p
follows a x y (suc (suc k), d, l, e, p) t = absurd (omega (arith, l))

-- ---- what meets a formula with a level

module _ (n : Network) (end : End) (f : FormulaParts) (a : ℕ → Bool) (v : ℕ → Ratio) where
  pub base_met : Meets (with_level n end f) a v → Meets f a v
  base_met h = record {
    clauses = all_from (MeetsClause a) f.clauses (each-left (MeetsClause a) f.clauses (level_clauses f.vars (end_count n end)) (all_to (MeetsClause a) (f.clauses ++ level_clauses f.vars (end_count n end)) h.clauses));
    atoms = all_from (λ x. a x.0 ≡ true → RowHolds x.1 v) f.atoms
        (each-left (λ x. a x.0 ≡ true → RowHolds x.1 v) f.atoms (atoms_from f.vars (level_rows n end)) (all_to (λ x. a x.0 ≡ true → RowHolds x.1 v) (f.atoms ++ atoms_from f.vars (level_rows n end)) h.atoms));
  }

  -- an end is below the level and short, and an end reaches it
  pub record IsBelow : Type 0 where
    pub low : ℕ
    pub high : ℕ
    pub low_is : low < end_count n end
    pub high_is : high < end_count n end
    pub below : RowHolds (level_row n end Below low) v
    pub short : RowHolds (level_row n end Short low) v
    pub reached : RowHolds (level_row n end Reached high) v

  pub level_met : Meets (with_level n end f) a v → IsBelow
  level_met h =
      let m = f.vars in
      let count = end_count n end in
      let clauses = each-right (MeetsClause a) f.clauses (level_clauses m count) (all_to (MeetsClause a) (f.clauses ++ level_clauses m count) h.clauses) in
      let P : ℕ × RowParts → Type 0 = λ x. a x.0 ≡ true → RowHolds x.1 v in
      let rows = parts n end P m (each-right P f.atoms (atoms_from m (level_rows n end)) (all_to P (f.atoms ++ atoms_from m (level_rows n end)) h.atoms)) in
      let low = some_true a m count clauses.0 in
      let each = each-left (MeetsClause a) (each_implies m count) (some_of (m + 2 * count) count ∷ []) clauses.1 in
      let last = each-right (MeetsClause a) (each_implies m count) (some_of (m + 2 * count) count ∷ []) clauses.1 in
      let high = some_true a (m + 2 * count) count last.0 in
      let also = follows a (m + low.0) (m + count + low.0) (in_range (MeetsClause a) (λ k. implies (m + k) (m + count + k)) 0 count low.0 each (omega arith) (let l = low.1 in omega (arith, l))) low.2 in
      record {
        low = low.0;
        high = high.0;
        low_is = low.1;
        high_is = high.1;
        below = from_none (level_row n end Below) m low.0 P (atoms_at P (level_row n end Below) m 0 count low.0 rows.0 low.1) low.2;
        short = from_none (level_row n end Short) (m + count) low.0 P (atoms_at P (level_row n end Short) (m + count) 0 count low.0 rows.1 low.1) also;
        reached = from_none (level_row n end Reached) (m + 2 * count) high.0 P (atoms_at P (level_row n end Reached) (m + 2 * count) 0 count high.0 rows.2 high.1) high.2;
      }

-- ---- ends and their edges

pub end_is : (n : Network) → IsNetwork n → (end : End) (k : ℕ) → k < end_count n end → (e : Edge) × HasEdge n (end_edge n end k) e × (plays (role_of end) k e ≡ true)
end_is n is Input k l = input_is n is k l
end_is n is Output k l = output_is n is k l

pub edge_of_end : (n : Network) → IsNetwork n → (end : End) (k a : ℕ) (e : Edge) → HasEdge n a e → plays (role_of end) k e ≡ true → (k < end_count n end) × (a ≡ end_edge n end k)
edge_of_end n is Input k a e h t = edge_of_input n is k a e h t
edge_of_end n is Output k a e h t = edge_of_output n is k a e h t

-- ---- so ends don't share

module _ (n : Network) (is : IsNetwork n) (end : End) (a : ℕ → Bool) (v : ℕ → Ratio) (s : Flows) (some : AreValues v) (has : HasValues n s a v) where
  limit_over : (end : End) (k : ℕ) → k < end_count n end → IsOver (v (limit_column n end k)) (limit_at end s k) s.denominator
  limit_over Input k l = has.loads k l
  limit_over Output k l = has.rooms k l

  -- a flow and the level over one denominator
  level_under : ℕ
  level_under = (v (level_column n)).under

  both : ℕ
  both = level_under * s.denominator

  both_some : 0 < both
  unfolding level_under both
  both_some = under_positive level_under s.denominator (some (level_column n)) has.state.positive

  flow_over : (b : ℕ) → b < length n.edges → IsOver (v b) (flow_at s b *ℤ pos level_under) both
  unfolding level_under both
  flow_over b l = over_scaled (v b) (flow_at s b) s.denominator level_under (has.flows b l)

  level_over : IsOver (v (level_column n)) ((v (level_column n)).over *ℤ pos s.denominator) both
  unfolding level_under both
  level_over =
      let r = v (level_column n) in
      let swapped : s.denominator * r.under ≡ r.under * s.denominator = grind arith in
      subst (λ d. IsOver r (r.over *ℤ pos s.denominator) d) swapped (over_scaled r r.over r.under s.denominator refl)

  pub level_fails : (f : FormulaParts) → IsBelow n end f a v → Shares n end s → ⊥
  level_fails f b shares =
      let low = end_is n is end b.low b.low_is in
      let high = end_is n is end b.high b.high_is in
      let i = end_edge n end b.low in
      let j = end_edge n end b.high in
      let li = slice_get_within n.edges i low.0 low.1 in
      let lj = slice_get_within n.edges j high.0 high.1 in
      let level : (0 < (v (level_column n)).under) × IsOver (v (level_column n)) ((v (level_column n)).over *ℤ pos s.denominator) both = (some (level_column n), level_over) in
      let under = (above_says v both both_some (level_column n) i ((v (level_column n)).over *ℤ pos s.denominator) (flow_at s i *ℤ pos level_under) level (some i, flow_over i li)).0 b.below in
      let over = (not_below_says v both both_some j (level_column n) (flow_at s j *ℤ pos level_under) ((v (level_column n)).over *ℤ pos s.denominator) (some j, flow_over j lj) level).0 b.reached in
      let short = (above_says v s.denominator has.state.positive (limit_column n end b.low) i (limit_at end s b.low) (flow_at s i) (some (limit_column n end b.low), limit_over end b.low b.low_is) (some i, has.flows i li)).0 b.short in
      let kept = mul_le (flow_at s j) (flow_at s i) level_under (shares b.low b.high i j low.0 high.0 low.1 high.1 low.2 high.2 short) in
      omega (arith, ints, under, over, kept)
