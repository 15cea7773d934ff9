use Rattle.std.proofs.Common.{◌≡◌, ℕ, ◌<◌, ◌+◌, ◌-◌, ◌^◌, arith, List, [], ◌∷◌, length, get_or, None, Some, Ok, Err, map, sym, ◌∙◌, refl, subst}
use Rattle.std.specs.Prelude.{slice_get}
use Rattle.std.specs.List.{All}
use Rattle.std.specs.declared.result.Result.{Result}
use Rattle.std.proofs.lemmas.List.Elements.{All-drop}
use Rattle.bt_frac.specs.Ratio.{Ratio}
use Rattle.bt_frac.specs.Rows.{columns_in}
use Rattle.bt_farkas.specs.inner.Totals.{AreColumnsBelow, IsAfterColumn}
use Rattle.bt_farkas.specs.declared.columns.Columns.{Columns}
use Rattle.bt_farkas.specs.declared.gathering.Entry.{Entry}
use Rattle.bt_farkas.proofs.FarkasLemmas.{no_columns, columns_more}
use Rattle.bt_farkas.proofs.GatheredLemmas.{IsRest, rest_first, rest_least, rest_more, rest_none}
use Rattle.bt_farkas.proofs.RunTotals.{run_is_total}
use Rattle.bt_farkas.proofs.runs.sum_runs.Goals as goal

head_of : (rest : List Entry) (first : Entry) → Some first ≡ slice_get rest 0 → (0 < length rest) × (first ≡ get_or rest 0 first)
head_of [] first is = cc
head_of (e ∷ rest) first is = (omega arith, (let e' : Some first ≡ Some e = is in cc))

none_left : (rest : List Entry) → None ≡ slice_get rest 0 → rest ≡ []
none_left [] is = refl
none_left (e ∷ rest) is = (let e' : None ≡ Some e = is in cc)

end_after : (columns : Columns) (column : ℕ) (sum : Result Ratio ℕ) (next : Columns) → IsAfterColumn columns column sum next → next.end ≡ column + 1
end_after columns column (Ok sum) next (cancel, both, is) = cc
end_after columns column (Err row) next is = cc

pub loop-first-init : goal.loop-first-init
loop-first-init c = record {
  rows = c.requires.rows;
  columns = c.requires.columns;
  so_far = λ sum are.
      let named = columns_in (map (λ r. r.0) sum) in
      record {
        columns_are = subst (AreColumnsBelow sum named) (sym c.no_columns-columns.ensures) (no_columns sum named (length c.args.weights.now) (sym are.counted));
        rest_is = subst (λ cs. IsRest (map (λ r. r.0) sum) cs.end c.args.entries.now) (sym c.no_columns-columns.ensures) (rest_first (map (λ r. r.0) sum) c.args.entries.now are.gathered);
      };
}

pub loop-first-preserved : goal.loop-first-preserved
loop-first-preserved c =
    let columns = c.loop-first.columns in
    let rest = c.loop-first.rest.now in
    let first = c.in-Some.first.now in
    let head = head_of rest first c.in-Some.ensures.value in
    record {
      rows =
          subst (All (λ (e : Entry). e.row < length c.args.weights.now)) (sym c.split_at.ensures.back)
          (All-drop (λ (e : Entry). e.row < length c.args.weights.now) c.run_length.result rest c.loop-first.invariant.rows);
      columns =
          subst (All (λ (e : Entry). e.column < 2 ^ 64 - 1)) (sym c.split_at.ensures.back)
          (All-drop (λ (e : Entry). e.column < 2 ^ 64 - 1) c.run_length.result rest c.loop-first.invariant.columns);
      so_far = λ sum are.
          let named = columns_in (map (λ r. r.0) sum) in
          let rows = map (λ r. r.0) sum in
          let before = c.loop-first.invariant.so_far sum are in
          let taken = rest_more rows columns.end c.run_length.result rest first before.rest_is head.0 head.1 c.run_length.ensures in
          let total = run_is_total c.args.weights.now sum first.column columns.limit c.split_at.result.0.now c.run_total.result are.gathered.ascend are.weights_are
          (c.split_at.ensures.front ∙ taken.run) c.run_total.ensures in
          let end = end_after columns first.column c.run_total.result c.after_column-columns.result c.after_column-columns.ensures in
          record {
            columns_are =
                columns_more sum named refl columns before.columns_are first.column
                (rest_least rows columns.end rest first before.rest_is head.0 head.1) c.run_total.result total c.after_column-columns.result c.after_column-columns.ensures;
            rest_is = subst (λ n. IsRest rows n c.split_at.result.1.now) (sym end) (subst (IsRest rows (first.column + 1)) (sym c.split_at.ensures.back) taken.later);
          };
    }

pub returns : goal.returns
returns c = λ sum are.
    let so = c.loop-first.invariant.so_far sum are in
    (so.columns_are, rest_none (map (λ r. r.0) sum) c.loop-first.columns.end c.loop-first.rest.now so.rest_is (none_left c.loop-first.rest.now c.in_default.ensures.value))
