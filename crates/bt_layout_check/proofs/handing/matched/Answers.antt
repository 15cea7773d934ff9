use Rattle.bt_layout_check.proofs.Exact.{matched_sorted}
use Rattle.bt_layout_check.proofs.handing.matched.Goals as goal

pub returns : goal.returns
returns c =
    matched_sorted c.args.halves.items c.args.wishes.items c.sort.new.self.items c.sort-2.new.self.items c.requires c.sort.ensures.permutation c.sort-2.ensures.permutation
    c.in_ok-sort.ensures.sorted c.in_ok-sort-2.ensures.sorted
