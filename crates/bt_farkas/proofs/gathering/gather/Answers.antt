use Rattle.std.proofs.Common.{◌++◌, arith, rules, ap, ◌∙◌, subst}
use Rattle.std.specs.List.{All}
use Rattle.std.proofs.lemmas.List.{take_all}
use Rattle.std.proofs.lemmas.List.Sorted.{answers_always, IsNonDecreasingBy-from_sort}
use Rattle.bt_frac.specs.Rows.{RowParts, HaveColumns}
use Rattle.bt_farkas.specs.WeightedRows.{picked}
use Rattle.bt_farkas.specs.inner.Gathering.{entries_of, entries_from}
use Rattle.bt_farkas.specs.declared.gathering.Entry.{Entry}
use Rattle.bt_farkas.proofs.GatherLemmas.{gather_more, gathered_sorted}
use Rattle.bt_farkas.proofs.gathering.gather.Goals as goal

pub loop-i-preserved : goal.loop-i-preserved
loop-i-preserved c =
    let rows = c.args.rows.now in
    let picks = c.args.picks.now in
    let row = c.index-rows-pick.result in
    let so = gather_more rows picks c.loop-i.i row c.loop-i.entries.items c.add_terms.new.entries.items c.requires c.loop-i-test.true c.index-rows-pick.is
    c.terms.ensures.known.columns c.loop-i.invariant.entries c.loop-i.invariant.ascend
    (c.in_ok-add_terms.ensures ∙ ap (λ ts. c.loop-i.entries.items ++ entries_of c.loop-i.i ts) c.terms.ensures.value) in
    record { entries = so.entries_are; ascend = so.ascend }

pub returns : goal.returns
returns c =
    let rows = c.args.rows.now in
    let picks = c.args.picks.now in
    let all = take_all c.loop-i.i picks (omega arith) in
    gathered_sorted (picked rows picks) c.loop-i.entries.items c.sort_by_key.new.self.items
    (c.loop-i.invariant.entries ∙ ap (λ ps. entries_from 0 (picked rows ps)) all)
    (subst (λ ps. All (λ (row : RowParts). HaveColumns row.terms) (picked rows ps)) all c.loop-i.invariant.ascend) c.sort_by_key.ensures.permutation
    (IsNonDecreasingBy-from_sort (λ (e : Entry). e.column) c.sort_by_key.new.self.items (c.in_ok-sort_by_key.ensures.sorted (λ (e : Entry). e.column) (answers_always _ _ _ (λ f a r g h. search rules))))
    (c.sort_by_key.ensures.stable (λ (e : Entry). e.column) (answers_always _ _ _ (λ f a r g h. search rules)))
