use Rattle.std.proofs.Common.{◌∙◌, ap, subst, sym}
use Rattle.bt_net.specs.Network.{IsPrioritised}
use Rattle.bt_net.specs.Priorities.{merging}
use Rattle.bt_grids.proofs.Copied.{again, again_prioritised, edges_again}
use Rattle.bt_grids.proofs.again.copy_of.Goals as goal

pub preferring-requires : goal.preferring-requires
preferring-requires c =
    edges_again c.args.net.now c.in_ok-bare.bare c.in_ok-gives.gives.items c.in_ok-takes.takes.items c.in_ok-bare.ensures c.in_ok-gives.ensures c.in_ok-takes.ensures c.requires.prioritised

pub merging-requires : goal.merging-requires
merging-requires c =
    subst (λ n. IsPrioritised (merging n c.in_ok-merges.merges.items)) (sym c.preferring.ensures)
    (again_prioritised c.args.net.now c.in_ok-bare.bare c.in_ok-gives.gives.items c.in_ok-takes.takes.items c.in_ok-merges.merges.items
    c.in_ok-bare.ensures c.in_ok-gives.ensures c.in_ok-takes.ensures c.in_ok-merges.ensures c.requires.prioritised)

pub returns : goal.returns
returns c =
    c.merging.ensures ∙ ap (λ n. merging n c.in_ok-merges.merges.items) c.preferring.ensures
    ∙ again c.args.net.now c.in_ok-bare.bare c.in_ok-gives.gives.items c.in_ok-takes.takes.items c.in_ok-merges.merges.items c.in_ok-bare.ensures c.in_ok-gives.ensures c.in_ok-takes.ensures c.in_ok-merges.ensures
