use Rattle.std.proofs.Common.{IsPermutation, nat_cmp, subst}
use Rattle.bt_layout_check.proofs.Exact.{numbers_exact, rearranged_told, told_of}
use Rattle.bt_layout_check.proofs.showing.has_each.Goals as goal

pub returns : goal.returns
returns c =
    rearranged_told nat_cmp numbers_exact c.args.one.now c.args.other.now c.sort.new.self.items c.sort-2.new.self.items c.are_same.result
    (subst (λ l. IsPermutation l c.sort.new.self.items) c.in_ok-first.ensures.items c.sort.ensures.permutation)
    (subst (λ l. IsPermutation l c.sort-2.new.self.items) c.in_ok-second.ensures.items c.sort-2.ensures.permutation) c.in_ok-sort.ensures.sorted c.in_ok-sort-2.ensures.sorted
    (told_of c.deref.result.now c.deref-2.result.now c.sort.new.self.items c.sort-2.new.self.items c.are_same.result c.deref.ensures.value c.deref-2.ensures.value c.are_same.ensures)
