use Rattle.std.proofs.Common.{◌<◌, sym, subst, arith}
use Rattle.bt_place.specs.Numbering.{Sizes}
use Rattle.bt_place.specs.inner.Blocks.{sizes_with}
use Rattle.bt_place.proofs.Sizing.{ranks_long, rank_within, rank_read, place_is}
use Rattle.bt_place.proofs.numbering.Numbers.place.Goals as goal

pub index-requires : goal.index-requires
index-requires c =
    let z = sizes_with c.self.inside.extent c.self.inside.classes.items c.self.inside.ranks.items in
    let lt : c.args.splitter < z.splitters = subst (λ (w : Sizes). c.args.splitter < w.splitters) (sym c.self.view_is) c.requires.splitter in
    let long = ranks_long z c.self.inside.starts c.self.invariant in
    omega (arith, lt, long)

pub overflow_sub-behind-2 : goal.overflow_sub-behind-2
overflow_sub-behind-2 c =
    let z = sizes_with c.self.inside.extent c.self.inside.classes.items c.self.inside.ranks.items in
    let lt : c.args.splitter < z.splitters = subst (λ (w : Sizes). c.args.splitter < w.splitters) (sym c.self.view_is) c.requires.splitter in
    let rank = rank_within z c.self.inside.starts c.self.invariant c.args.splitter lt in
    let is = rank_read z c.self.inside.starts c.self.invariant c.args.splitter c.index.result.now lt c.index.ensures in
    omega (arith, rank, is)

pub returns : goal.returns
returns c =
    let z = sizes_with c.self.inside.extent c.self.inside.classes.items c.self.inside.ranks.items in
    let lt : c.args.splitter < z.splitters = subst (λ (w : Sizes). c.args.splitter < w.splitters) (sym c.self.view_is) c.requires.splitter in
    place_is z c.args.self.now c.self.view_is c.args.splitter c.args.cell c.numbered.result c.from_last.result c.index.result.now c.numbered.ensures c.from_last.ensures
    (rank_read z c.self.inside.starts c.self.invariant c.args.splitter c.index.result.now lt c.index.ensures)
