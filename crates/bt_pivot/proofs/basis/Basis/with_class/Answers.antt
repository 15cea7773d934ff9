use Rattle.std.proofs.Common.{◌≡◌, arith, length, ◌∷◌, ◌++◌, ap, ◌∙◌, []}
use Rattle.bt_pivot.proofs.GrowingClasses.{own_made}
use Rattle.bt_pivot.proofs.basis.Basis.with_class.Goals as goal

pub returns : goal.returns
returns c =
    let class : c.len-class.result ≡ length c.self.inside.firsts.items = omega arith in
    let position : c.len-position.result ≡ length c.self.inside.members.items = omega arith in
    (own_made c.self.inside.members.items c.self.inside.firsts.items c.self.inside.lines.items c.self.inside.outside.items c.self.invariant c.args.slot c.in_ok-members.members.items c.in_ok-firsts.firsts.items
    c.in_ok-lines.lines.items c.in_ok-outside.outside.items c.len-class.result c.len-position.result class position c.in_ok-members.ensures c.in_ok-firsts.ensures c.in_ok-lines.ensures c.in_ok-outside.ensures).0
    ∙ ap (λ s. s ++ c.args.slot ∷ []) c.self.view_is

pub invariant_of-result : goal.invariant_of-result
invariant_of-result c =
    let class : c.len-class.result ≡ length c.self.inside.firsts.items = omega arith in
    let position : c.len-position.result ≡ length c.self.inside.members.items = omega arith in
    (own_made c.self.inside.members.items c.self.inside.firsts.items c.self.inside.lines.items c.self.inside.outside.items c.self.invariant c.args.slot c.in_ok-members.members.items c.in_ok-firsts.firsts.items
    c.in_ok-lines.lines.items c.in_ok-outside.outside.items c.len-class.result c.len-position.result class position c.in_ok-members.ensures c.in_ok-firsts.ensures c.in_ok-lines.ensures c.in_ok-outside.ensures).1
