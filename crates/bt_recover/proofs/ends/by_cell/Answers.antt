use Rattle.std.proofs.Common.{◌≡◌, subst, sym, ap, ◌∙◌, map}
use Rattle.std.specs.List.{AllPairs}
use Rattle.std.specs.List.Sorted.{IsPermutation}
use Rattle.std.proofs.lemmas.List.Sorted.{IsPermutation-map}
use Rattle.std.proofs.lemmas.Result.{IfOk-weaker}
use Rattle.bt_model.specs.Shown.{IsPlacedBefore}
use Rattle.bt_recover.specs.inner.Ends.{AreKeyed}
use Rattle.bt_recover.proofs.EndLemmas.{sorted_cells}
use Rattle.bt_recover.proofs.ends.by_cell.Goals as goal

pub returns-clause-moved : goal.returns-clause-moved
returns-clause-moved c =
    let moved : IsPermutation c.args.indices.now (map (λ entry. entry.1) c.sort.new.self.items) =
    subst (λ xs. IsPermutation xs (map (λ entry. entry.1) c.sort.new.self.items)) c.in_ok-keyed.ensures.indices_are
    (IsPermutation-map (λ entry. entry.1) c.in_ok-keyed.keyed.items c.sort.new.self.items c.sort.ensures.permutation) in
    IfOk-weaker c.unkeyed.result (λ list. list.items ≡ map (λ entry. entry.1) c.deref.result.now) _ (λ list e.
    subst (λ xs. IsPermutation c.args.indices.now xs) (sym (e ∙ ap (λ xs. map (λ entry. entry.1) xs) c.deref.ensures.value)) moved) c.unkeyed.ensures

pub returns-clause-in_order : goal.returns-clause-in_order
returns-clause-in_order c =
    let in_order = sorted_cells c.args.grid.now c.parts.ensures.well_placed c.args.indices.now c.in_ok-keyed.keyed.items c.sort.new.self.items
    (subst (λ parts. AreKeyed parts c.args.indices.now c.in_ok-keyed.keyed.items) c.parts.ensures.value c.in_ok-keyed.ensures) c.requires.ascends c.sort.ensures.permutation c.in_ok-sort.ensures.sorted in
    IfOk-weaker c.unkeyed.result (λ list. list.items ≡ map (λ entry. entry.1) c.deref.result.now) _ (λ list e.
    subst (λ xs. AllPairs (IsPlacedBefore c.args.grid.now) xs) (sym (e ∙ ap (λ xs. map (λ entry. entry.1) xs) c.deref.ensures.value)) in_order) c.unkeyed.ensures
