use Rattle.bt_layout_check.proofs.Exact.{join_order, joins_exact, rearranged_told, told_of}
use Rattle.bt_layout_check.proofs.joins.are_rearranged.Goals as goal

pub returns : goal.returns
returns c =
    rearranged_told join_order joins_exact c.args.one.items c.args.other.items c.sort.new.self.items c.sort-2.new.self.items c.are_same.result c.sort.ensures.permutation c.sort-2.ensures.permutation
    c.in_ok-sort.ensures.sorted c.in_ok-sort-2.ensures.sorted
    (told_of c.deref.result.now c.deref-2.result.now c.sort.new.self.items c.sort-2.new.self.items c.are_same.result c.deref.ensures.value c.deref-2.ensures.value c.are_same.ensures)
