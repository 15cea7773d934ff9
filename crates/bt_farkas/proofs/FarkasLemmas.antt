-- The one answer to whether a weighted sum of rows is false.
use Rattle.std.proofs.Common.{◌≡◌, ℕ, ◌<◌, ◌≤◌, ◌+◌, arith, List, [], ◌∷◌, length, get_or, take, zero, suc, ℤ, Option, None, Some, IfSome, IfNone, Bool, true, IsTrue, ◌↔◌, Ok, Err, ◌⊎◌, inl, inr, pos, ◌<ℤ◌, map, ap, sym, ◌∙◌, refl, subst}
use Rattle.std.specs.Prelude.{Contains}
use Rattle.std.specs.List.{All, Any}
use Rattle.std.specs.declared.result.Result.{Result}
use Rattle.std.proofs.lemmas.List.{take_all}
use Rattle.std.proofs.lemmas.List.Elements.{All-contains, All-head, All-tail}
use Rattle.bt_text.specs.Answers.{HasOneAnswer}
use Rattle.bt_frac.specs.Ratio.{Ratio}
use Rattle.bt_frac.specs.Rows.{RowParts, columns_in, end_of}
use Rattle.bt_frac.specs.Values.{nothing, sum_of_products}
use Rattle.bt_farkas.specs.Farkas.{IsWidePlace, ComesFirst, IsFirstWide, IsFarkas, IsSumJudged}
use Rattle.bt_farkas.specs.FalseSums.{MayWeigh, IsStrict, IsFalseBound, Cancels, IsFalseSum}
use Rattle.bt_farkas.specs.RunningSums.{RunsTo}
use Rattle.bt_farkas.specs.WeightedRows.{pairs_at, number_of}
use Rattle.bt_farkas.specs.inner.Totals.{IsTotal, IsLeastFrom, IsFirstColumn, AreColumnsBelow, AreColumns, IsAfterColumn}
use Rattle.bt_farkas.specs.declared.places.Place.{Place}
use Rattle.bt_farkas.specs.declared.places.Place.TheVariants.{Column, Bound}
use Rattle.bt_farkas.specs.declared.columns.Columns.{Columns}
use Rattle.bt_farkas.specs.declared.wide.SumFault.TheVariants.{Wide, Memory}
use Rattle.bt_farkas.specs.declared.wide.WideAt.{WideAt}
use Rattle.bt_farkas.proofs.EvalLemmas.{same_test}
use Rattle.bt_farkas.proofs.PlaceLemmas.{unwide_by_run, unwide_before, row_within, wide_named, no_pairs}
use Rattle.bt_farkas.proofs.RunLemmas.{runs_reach}
use Rattle.bt_farkas.proofs.SameNumbers.{zero_same, above_same}

split_lt : (m n : ℕ) → (m < n) ⊎ (n ≤ m)
split_lt m n = grind arith

split_order : (m n : ℕ) → (m < n) ⊎ ((m ≡ n) ⊎ (n < m))
split_order m n = grind arith

-- two places that each come before or with the other are one
both_first : (a b m n : ℕ) → ComesFirst a b m n → ComesFirst m n a b → (a ≡ m) × (b ≡ n)
both_first a b m n (inl p) (inl q) = absurd (omega arith)
both_first a b m n (inl p) (inr q) = absurd (omega (arith, q.0))
both_first a b m n (inr p) (inl q) = absurd (omega (arith, p.0))
both_first a b m n (inr p) (inr q) = (p.0, let l = p.1 in let m = q.1 in omega arith)

same_place : (a b : WideAt) → a.row ≡ b.row → a.column ≡ b.column → a ≡ b
same_place a b e f = ap (λ r. record { row = r; column = a.column }) e ∙ ap (λ c. record { row = b.row; column = c }) f

one_first : (sum : List (RowParts × Ratio)) (a b : WideAt) → IsFirstWide sum a → IsFirstWide sum b → a ≡ b
one_first sum a b p q =
    let both = both_first a.row a.column b.row b.column
    (subst (λ n. ComesFirst a.row a.column b.row n) (sym q.column) (p.first b.row q.place q.wide))
    (subst (λ n. ComesFirst b.row b.column a.row n) (sym p.column) (q.first a.row p.place p.wide)) in
    same_place a b both.0 both.1

-- two right answers are equal
pub one_farkas : (sum : List (RowParts × Ratio)) → HasOneAnswer (IsFarkas sum)
one_farkas sum (Ok a) (Ok b) p q = ap Ok (same_test (IsFalseSum sum) a b p.1 q.1)
one_farkas sum (Ok a) (Err b) p q = absurd (p.0 q.0 b.row q.1.place q.1.wide)
one_farkas sum (Err a) (Ok b) p q = absurd (q.0 p.0 a.row p.1.place p.1.wide)
one_farkas sum (Err a) (Err b) p q = ap Err (one_first sum a b p.1 q.1)

-- the same of a call that takes memory
pub one_sum_judged : (sum : List (RowParts × Ratio)) → HasOneAnswer (IsSumJudged sum)
one_sum_judged sum (Ok a) (Ok b) p q = let e = one_farkas sum (Ok a) (Ok b) p q in let f : a ≡ b = cc in ap Ok f
one_sum_judged sum (Ok a) (Err (Wide b)) p q = let e = one_farkas sum (Ok a) (Err b) p q in cc
one_sum_judged sum (Ok a) (Err Memory) p q = absurd q
one_sum_judged sum (Err (Wide a)) (Ok b) p q = let e = one_farkas sum (Err a) (Ok b) p q in cc
one_sum_judged sum (Err (Wide a)) (Err (Wide b)) p q = let e = one_farkas sum (Err a) (Err b) p q in let f : a ≡ b = cc in ap (λ at. Err (Wide at)) f
one_sum_judged sum (Err (Wide a)) (Err Memory) p q = absurd q
one_sum_judged sum (Err Memory) b p q = absurd p

-- an end above all columns, and one more than one of them, is their end
above_all : (columns : List ℕ) (end : ℕ) → All (λ c. c < end) columns → end_of columns ≤ end
above_all [] end all = omega arith
above_all (c ∷ columns) end all =
    let first : c < end = All-head (λ x. x < end) c columns all in
    let rest = above_all columns end (All-tail (λ x. x < end) c columns all) in
    omega (arith, first, rest)

pub below_end : (columns : List ℕ) (k d : ℕ) → k < length columns → get_or columns k d < end_of columns
below_end [] k d inside = absurd (omega (arith, inside))
below_end (c ∷ columns) zero d inside = omega arith
below_end (c ∷ columns) (suc k) d inside = let rest = below_end columns k d (omega (arith, inside)) in omega (arith, rest)

end_is : (columns : List ℕ) (end : ℕ) → All (λ c. c < end) columns → (end ≡ 0) ⊎ ((c : ℕ) × Contains columns c × (end ≡ c + 1)) → end ≡ end_of columns
end_is columns end all (inl none) = let most = above_all columns end all in omega (arith, none, most)
end_is columns end all (inr (c, among, is)) =
    let most = above_all columns end all in
    let least : c < end_of columns = All-contains (λ x. x < end_of columns) columns c (below_end columns) among in
    omega (arith, is, most, least)

named_of : (sum : List (RowParts × Ratio)) (named : List ℕ) → columns_in (map (λ r. r.0) sum) ≡ named → (row column : ℕ) → IsWidePlace sum row (Column column) → Contains named column
named_of sum named same row column w = subst (λ cs. Contains cs column) same (wide_named sum row column w)

-- before any column
pub no_columns : (sum : List (RowParts × Ratio)) (named : List ℕ) (limit : ℕ) → limit ≡ length sum
    → AreColumnsBelow sum named (record { cancel = true; wide = None; limit = limit; end = 0 })
no_columns sum named limit is = record {
  unwide = λ row column less below w. omega arith;
  within = omega (arith, is);
  none = (is, (λ h column below. absurd (omega arith), λ h. refl));
  some = tt;
  reached = inl refl;
}

-- a column that cancels by its running sum cancels
cancels_by : (sum : List (RowParts × Ratio)) (column limit : ℕ) (total : Ratio) → limit ≡ length sum → RunsTo nothing (pairs_at (Column column) (take limit sum)) total
    → (total.over ≡ pos 0) ↔ Cancels sum column
cancels_by sum column limit total whole runs =
    let all = subst (λ xs. RunsTo nothing (pairs_at (Column column) xs) total) (take_all limit sum (omega (arith, whole))) runs in
    let reach = runs_reach total (pairs_at (Column column) sum) all in
    zero_same total (sum_of_products (pairs_at (Column column) sum)) reach.end_some reach.sum_some reach.same

-- a column that no row names cancels
unnamed_cancels : (sum : List (RowParts × Ratio)) (named : List ℕ) → columns_in (map (λ r. r.0) sum) ≡ named → (column : ℕ) → (Contains named column → ⊥) → Cancels sum column
unnamed_cancels sum named same column lacks =
    subst (λ ps. (sum_of_products ps).over ≡ pos 0) (sym (no_pairs sum column (λ h. lacks (subst (λ cs. Contains cs column) same h)))) refl

module _ (sum : List (RowParts × Ratio)) (named : List ℕ) (same : columns_in (map (λ r. r.0) sum) ≡ named) (columns : Columns) (before : AreColumnsBelow sum named columns)
    (column : ℕ) (least : IsLeastFrom columns.end named (Some column)) where
  -- of the columns up to this one only it is no column below the end
  earlier : (row other : ℕ) → other < column + 1 → IsWidePlace sum row (Column other) → (other < columns.end) ⊎ (other ≡ column)
  earlier row other below w =
      elim (split_lt other columns.end) [
        | inl less ↦ inl less
        | inr past ↦
            let from : column ≤ other = All-contains (λ x. columns.end ≤ x → column ≤ x) named other least.2 (named_of sum named same row other w) past in
            inr (omega arith)
      ]

  skipped : (other : ℕ) → columns.end ≤ other → other < column → Cancels sum other
  skipped other past less =
      unnamed_cancels sum named same other
      (λ among. let from : column ≤ other = All-contains (λ x. columns.end ≤ x → column ≤ x) named other least.2 among past in omega arith)

  -- after a column that isn't wide
  after_sum : (total : Ratio) (cancel : Bool) → RunsTo nothing (pairs_at (Column column) (take columns.limit sum)) total
      → (IsTrue cancel ↔ (IsTrue columns.cancel × (total.over ≡ pos 0)))
      → AreColumnsBelow sum named (record { cancel = cancel; wide = columns.wide; limit = columns.limit; end = column + 1 })
  after_sum total cancel runs both = record {
    unwide = λ row other less below w. elim (earlier row other below w) [
      | inl lower ↦ before.unwide row other less lower w
      | inr is ↦ unwide_by_run sum (Column column) columns.limit row total runs less (subst (λ c. IsWidePlace sum row (Column c)) is w)
    ];
    within = before.within;
    none = still columns.wide before.none;
    some = more columns.wide before.some;
    reached = inr (column, least.1, refl);
  }
    where
      all_cancel : columns.limit ≡ length sum → (IsTrue columns.cancel ↔ ((c : ℕ) → c < columns.end → Cancels sum c)) → IsTrue cancel ↔ ((c : ℕ) → c < column + 1 → Cancels sum c)
      all_cancel whole told = (
        λ h c below. let parts = both.0 h in
            elim (split_order c column) [
              | inl less ↦ elim (split_lt c columns.end) [
                | inl lower ↦ told.0 parts.0 c lower
                | inr past ↦ skipped c past less
              ]
              | inr rest ↦ elim rest [
                | inl is ↦ subst (Cancels sum) (sym is) ((cancels_by sum column columns.limit total whole runs).0 parts.1)
                | inr greater ↦ absurd (omega arith)
              ]
            ],
        λ all. both.1 (told.1 (λ c below. let from = least.0 in all c (omega arith)), (cancels_by sum column columns.limit total whole runs).1 (all column (omega arith))),
      )

      still : (o : Option ℕ) → IfNone o ((columns.limit ≡ length sum) × (IsTrue columns.cancel ↔ ((c : ℕ) → c < columns.end → Cancels sum c)))
          → IfNone o ((columns.limit ≡ length sum) × (IsTrue cancel ↔ ((c : ℕ) → c < column + 1 → Cancels sum c)))
      still None p = (p.0, all_cancel p.0 p.1)
      still (Some x) p = tt

      more : (o : Option ℕ) → IfSome o (λ c. (c < columns.end) × IsFirstColumn sum columns.limit c) → IfSome o (λ c. (c < column + 1) × IsFirstColumn sum columns.limit c)
      more None p = tt
      more (Some c) p = (let from = least.0 in let below = p.0 in omega arith, p.1)

  -- after a column that is wide at a row before the limit
  after_wide : (row : ℕ) → row < columns.limit → IsWidePlace sum row (Column column)
      → AreColumnsBelow sum named (record { cancel = columns.cancel; wide = Some column; limit = row; end = column + 1 })
  after_wide row less wide = record {
    unwide = λ other_row other lower below w. elim (earlier other_row other below w) [
      | inl in' ↦ before.unwide other_row other (omega arith) in' w
      | inr is ↦ unwide_before sum (Column column) row other_row wide lower (subst (λ c. IsWidePlace sum other_row (Column c)) is w)
    ];
    within = let most = before.within in omega arith;
    none = tt;
    some = (
      omega arith,
      record {
        wide = wide;
        first = λ other lower w. elim (earlier row other (omega arith) w) [
          | inl in' ↦ before.unwide row other less in' w
          | inr is ↦ absurd (omega (arith, is))
        ];
      },
    );
    reached = inr (column, least.1, refl);
  }

-- after one more column
pub columns_more : (sum : List (RowParts × Ratio)) (named : List ℕ) → columns_in (map (λ r. r.0) sum) ≡ named → (columns : Columns) → AreColumnsBelow sum named columns
    → (column : ℕ) → IsLeastFrom columns.end named (Some column) → (total : Result Ratio ℕ) → IsTotal sum (Column column) columns.limit total
    → (next : Columns) → IsAfterColumn columns column total next → AreColumnsBelow sum named next
columns_more sum named same columns before column least (Ok total) runs next (cancel, both, is) =
    subst (AreColumnsBelow sum named) (sym is) (after_sum sum named same columns before column least total cancel runs both)
columns_more sum named same columns before column least (Err row) wide next is =
    subst (AreColumnsBelow sum named) (sym is) (after_wide sum named same columns before column least row wide.0 wide.1)

module _ (sum : List (RowParts × Ratio)) (named : List ℕ) (same : columns_in (map (λ r. r.0) sum) ≡ named) (columns : Columns) (are : AreColumns sum named columns)
    (weights : All MayWeigh sum) where
  end_at : columns.end ≡ number_of sum Bound
  end_at = end_is named columns.end are.1 are.0.reached ∙ ap end_of (sym same)

  inside : (row column : ℕ) → IsWidePlace sum row (Column column) → column < columns.end
  inside row column w = All-contains (λ c. c < columns.end) named column are.1 (named_of sum named same row column w)

  -- the bound is the first place that is wide
  pub bound_wide : (row : ℕ) → row < columns.limit → IsWidePlace sum row Bound → IsFarkas sum (Err (record { row = row; column = columns.end }))
  bound_wide row less wide = (weights, record { place = Bound; wide = wide; column = end_at; first = first })
    where
      first : (other : ℕ) (place : Place) → IsWidePlace sum other place → ComesFirst row columns.end other (number_of sum place)
      first other (Column c) w =
          elim (split_lt other columns.limit) [
            | inl lower ↦ absurd (are.0.unwide other c lower (inside other c w) w)
            | inr past ↦ inl (omega arith)
          ]
      first other Bound w =
          elim (split_order row other) [
            | inl lower ↦ inl lower
            | inr rest ↦ elim rest [
              | inl is ↦ inr (is, omega (arith, end_at))
              | inr greater ↦ absurd (unwide_before sum Bound row other wide greater w)
            ]
          ]

  -- a column is the first place that is wide
  pub column_wide : (column : ℕ) (total : Ratio) → RunsTo nothing (pairs_at Bound (take columns.limit sum)) total → (column < columns.end) × IsFirstColumn sum columns.limit column
      → IsFarkas sum (Err (record { row = columns.limit; column = column }))
  column_wide column total runs (below, found) = (weights, record { place = Column column; wide = found.wide; column = refl; first = first })
    where
      first : (other : ℕ) (place : Place) → IsWidePlace sum other place → ComesFirst columns.limit column other (number_of sum place)
      first other (Column c) w =
          elim (split_order columns.limit other) [
            | inl lower ↦ inl lower
            | inr rest ↦ elim rest [
              | inl is ↦ elim (split_lt c column) [
                | inl lower ↦ absurd (found.first c lower (subst (λ r. IsWidePlace sum r (Column c)) (sym is) w))
                | inr past ↦ inr (is, past)
              ]
              | inr greater ↦ absurd (are.0.unwide other c greater (inside other c w) w)
            ]
          ]
      first other Bound w =
          elim (split_order columns.limit other) [
            | inl lower ↦ inl lower
            | inr rest ↦ elim rest [
              | inl is ↦ inr (is, omega (arith, end_at))
              | inr greater ↦ absurd (unwide_by_run sum Bound columns.limit other total runs greater w)
            ]
          ]

  bound_by : (total : Ratio) (strict : Type 0) → RunsTo nothing (pairs_at Bound sum) total → IsFalseBound total strict ↔ IsFalseBound (sum_of_products (pairs_at Bound sum)) strict
  bound_by total strict runs =
      let reach = runs_reach total (pairs_at Bound sum) runs in
      let whole : Ratio = sum_of_products (pairs_at Bound sum) in
      let zero' = zero_same total whole reach.end_some reach.sum_some reach.same in
      let above = above_same total whole reach.end_some reach.sum_some reach.same in
      (moved total.over whole.over above.0 zero'.0, moved whole.over total.over above.1 zero'.1)
    where
      moved : (x y : ℤ) → (pos 0 <ℤ x → pos 0 <ℤ y) → (x ≡ pos 0 → y ≡ pos 0) → (pos 0 <ℤ x) ⊎ ((x ≡ pos 0) × strict) → (pos 0 <ℤ y) ⊎ ((y ≡ pos 0) × strict)
      moved x y f g (inl p) = inl (f p)
      moved x y f g (inr p) = inr (g p.0, p.1)

  -- no place is wide, and this is whether the sum is false
  pub none_wide : (total : Ratio) (answer : Bool) → RunsTo nothing (pairs_at Bound (take columns.limit sum)) total → columns.limit ≡ length sum
      → (IsTrue columns.cancel ↔ ((c : ℕ) → c < columns.end → Cancels sum c)) → (IsTrue answer ↔ (IsTrue columns.cancel × IsFalseBound total (Any IsStrict sum)))
      → IsFarkas sum (Ok answer)
  none_wide total answer runs whole cancel told = (nowhere, (λ h. to (told.0 h), λ f. told.1 (from f)))
    where
      all_runs : RunsTo nothing (pairs_at Bound sum) total
      all_runs = subst (λ xs. RunsTo nothing (pairs_at Bound xs) total) (take_all columns.limit sum (omega (arith, whole))) runs

      nowhere : All MayWeigh sum → (row : ℕ) (place : Place) → IsWidePlace sum row place → ⊥
      nowhere may row (Column c) w = are.0.unwide row c (omega (arith, whole, row_within sum (Column c) row w)) (inside row c w) w
      nowhere may row Bound w = unwide_by_run sum Bound columns.limit row total runs (omega (arith, whole, row_within sum Bound row w)) w

      every : ((c : ℕ) → c < columns.end → Cancels sum c) → (c : ℕ) → Cancels sum c
      every all c =
          elim (split_lt c columns.end) [
            | inl below ↦ all c below
            | inr past ↦
                unnamed_cancels sum named same c (λ among. let less : c < columns.end = All-contains (λ x. x < columns.end) named c are.1 among in omega arith)
          ]

      to : IsTrue columns.cancel × IsFalseBound total (Any IsStrict sum) → IsFalseSum sum
      to (h, bound) = record { weights = weights; columns = every (cancel.0 h); bounds = (bound_by total (Any IsStrict sum) all_runs).0 bound }

      from : IsFalseSum sum → IsTrue columns.cancel × IsFalseBound total (Any IsStrict sum)
      from f = (cancel.1 (λ c below. f.columns c), (bound_by total (Any IsStrict sum) all_runs).1 f.bounds)
