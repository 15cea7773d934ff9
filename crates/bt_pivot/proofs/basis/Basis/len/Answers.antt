use Rattle.std.proofs.Common.{◌≡◌, arith, length, ap, sym, ◌∙◌}
use Rattle.bt_pivot.specs.Classes.{slot_of}
use Rattle.bt_pivot.proofs.Classes.{slots_length}
use Rattle.bt_pivot.proofs.basis.Basis.len.Goals as goal

pub returns : goal.returns
returns c =
    let e : length c.args.self.now ≡ length c.self.inside.members.items =
    sym (ap length c.self.view_is) ∙ slots_length (slot_of c.self.inside.members.items c.self.inside.lines.items c.self.inside.outside.items) 0 c.self.inside.members.items in
    omega arith
