use Rattle.std.proofs.Common.{◌≡◌, ℤ, pos, rules, w32, to_z, of_z, SFits, sym, ap, ◌∙◌}
use Rattle.std.specs.Int.{int_wrap}
use Rattle.std.proofs.lemmas.Int.{to_z-of_z, int_wrap_fits, wrapping_add_is, wrapping_sub_is}
use Rattle.bt_parts.specs.declared.part.Cell.{Cell}
use Rattle.bt_parts.specs.Cells.{step, wrapped}
use Rattle.bt_parts.proofs.part.Cell.next.Goals as goal

both : (a b x y : ℤ) → a ≡ x → b ≡ y → ◌≡◌ {A = Cell} (record { x = a; y = b }) (record { x = x; y = y })
both a b x y e f = ap (λ u. record { x = u; y = b }) e ∙ ap (λ v. record { x = x; y = v }) f

kept : (z : ℤ) → SFits w32 z → to_z w32 (of_z w32 z) ≡ int_wrap w32 z
kept z f = to_z-of_z w32 z f ∙ sym (int_wrap_fits w32 z f)

pub returns-in-North : goal.returns-in-North
returns-in-North c =
    let f : SFits w32 c.args.self.x = search rules in
    let h : SFits w32 c.args.self.y = search rules in
    both _ _ _ _ (kept c.args.self.x f) (wrapping_sub_is w32 c.args.self.y (pos 1) h (search rules))
    ∙ ap (λ d. wrapped (step d c.args.self)) (sym c.in-North.is)

pub returns-in-East : goal.returns-in-East
returns-in-East c =
    let f : SFits w32 c.args.self.x = search rules in
    let h : SFits w32 c.args.self.y = search rules in
    both _ _ _ _ (wrapping_add_is w32 c.args.self.x (pos 1) f (search rules)) (kept c.args.self.y h)
    ∙ ap (λ d. wrapped (step d c.args.self)) (sym c.in-East.is)

pub returns-in-South : goal.returns-in-South
returns-in-South c =
    let f : SFits w32 c.args.self.x = search rules in
    let h : SFits w32 c.args.self.y = search rules in
    both _ _ _ _ (kept c.args.self.x f) (wrapping_add_is w32 c.args.self.y (pos 1) h (search rules))
    ∙ ap (λ d. wrapped (step d c.args.self)) (sym c.in-South.is)

pub returns-in-West : goal.returns-in-West
returns-in-West c =
    let f : SFits w32 c.args.self.x = search rules in
    let h : SFits w32 c.args.self.y = search rules in
    both _ _ _ _ (wrapping_sub_is w32 c.args.self.x (pos 1) f (search rules)) (kept c.args.self.y h)
    ∙ ap (λ d. wrapped (step d c.args.self)) (sym c.in-West.is)
