use Rattle.std.proofs.Common.{◌≡◌, ap, arith}
use Rattle.bt_place.specs.Numbering.{spots}
use Rattle.bt_place.specs.inner.Blocks.{sizes_with}
use Rattle.bt_place.proofs.Sizing.{along_within}
use Rattle.bt_place.proofs.numbering.Numbers.from_last.Goals as goal

pub overflow_sub-result-2 : goal.overflow_sub-result-2
overflow_sub-result-2 c =
    let within = along_within c.args.self.now c.args.cell c.requires in
    let same : spots (sizes_with c.self.inside.extent c.self.inside.classes.items c.self.inside.ranks.items) ≡ spots c.args.self.now = ap spots c.self.view_is in
    let is = c.along.ensures in
    omega (arith, within, same, is)
