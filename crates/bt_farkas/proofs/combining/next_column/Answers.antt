use Rattle.std.proofs.Common.{◌≡◌, ℕ, ◌<◌, ◌+◌, ◌-◌, ◌^◌, arith, List, [], ◌∷◌, ◌++◌, length, get_or, take, Option, None, Some, IfSome, ap, sym, ◌∙◌, subst, append-nil}
use Rattle.std.proofs.lemmas.List.{take_more, map_push, get_or_default}
use Rattle.std.proofs.lemmas.List.Concat.{flat_map-append}
use Rattle.bt_frac.specs.Rows.{RowParts, columns_of, columns_in}
use Rattle.bt_farkas.specs.WeightedRows.{empty_row, picked}
use Rattle.bt_farkas.specs.inner.Totals.{ArePicks, IsLeastFrom, lesser_of}
use Rattle.bt_farkas.proofs.ColumnLemmas.{least_of_both}
use Rattle.bt_farkas.proofs.combining.next_column.Goals as goal

picked_more : (rows : List RowParts) (picks : List ℕ) (i : ℕ) (row : RowParts) → ArePicks rows picks → i < length picks → row ≡ get_or rows (get_or picks i 0) row
    → columns_in (picked rows (take (i + 1) picks)) ≡ columns_in (picked rows (take i picks)) ++ columns_of row.terms
picked_more rows picks i row are inside is =
    ap (λ ps. columns_in (picked rows ps)) (take_more picks i 0 inside) ∙ ap columns_in (map_push (λ p. get_or rows p empty_row) (take i picks) (get_or picks i 0))
    ∙ ap (λ r. columns_in (picked rows (take i picks) ++ r ∷ [])) (get_or_default rows (get_or picks i 0) empty_row row (are i 0 inside) ∙ sym is)
    ∙ flat_map-append (λ r. columns_of r.terms) (picked rows (take i picks)) (row ∷ []) ∙ ap (λ cs. columns_in (picked rows (take i picks)) ++ cs) (append-nil (columns_of row.terms))

lesser_below : (a b : Option ℕ) (n : ℕ) → IfSome a (λ x. x < n) → IfSome b (λ x. x < n) → IfSome (lesser_of a b) (λ x. x < n)
lesser_below None b n p q = q
lesser_below (Some a) None n p q = p
lesser_below (Some a) (Some b) n p q = omega arith

pub loop-pick-preserved : goal.loop-pick-preserved
loop-pick-preserved c =
    let rows = c.args.rows.now in
    let picks = c.args.picks.now in
    let i = c.loop-pick.pick-index in
    let row = c.index-rows-pick.result in
    let more = picked_more rows picks i row c.requires c.loop-pick-test.true c.index-rows-pick.is in
    let least = subst (λ ts. IsLeastFrom c.args.least (columns_of ts) c.least_column-column.result) c.terms.ensures.value c.least_column-column.ensures.least in
    record {
      least =
          subst (IsLeastFrom c.args.least (columns_in (picked rows (take (i + 1) picks)))) (sym c.lesser-best.ensures)
          (subst (λ cs. IsLeastFrom c.args.least cs (lesser_of c.loop-pick.best c.least_column-column.result)) (sym more)
          (least_of_both c.args.least (columns_in (picked rows (take i picks))) (columns_of row.terms) c.loop-pick.best c.least_column-column.result c.loop-pick.invariant.least least));
      below = subst (λ o. IfSome o (λ x. x < 2 ^ 64 - 1)) (sym c.lesser-best.ensures) (lesser_below c.loop-pick.best c.least_column-column.result (2 ^ 64 - 1) c.loop-pick.invariant.below c.least_column-column.ensures.below);
    }
