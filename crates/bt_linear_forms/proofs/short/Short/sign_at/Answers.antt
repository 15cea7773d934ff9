use Rattle.std.proofs.Common.{◌≡◌, pos, int_cmp, get_or, sym, subst, FitsSigned, w64, rules}
use Rattle.std.proofs.lemmas.Int.{to_z-of_z}
use Rattle.std.specs.Cmp.{int_ranks}
use Rattle.bt_linear_forms.specs.TermSigns.{IsSign}
use Rattle.bt_linear_forms.proofs.TermSigns.{short_sign}
use Rattle.bt_linear_forms.proofs.short.Short.sign_at.Goals as goal

pub returns : goal.returns
returns c =
    let items = c.self.inside.terms.items in
    let x = c.parts-position.result in
    let fits : FitsSigned w64 x.1 = search rules in
    let is : x ≡ get_or items c.args.index x = subst (λ y. y ≡ get_or items c.args.index y) (sym c.parts-position.ensures) c.index.ensures in
    let order : c.cmp.result ≡ int_cmp x.1 (pos 0) = simp to_z-of_z at c.cmp.ensures in
    short_sign c.self.inside.under items c.args.self.now c.self.invariant c.self.view_is c.args.index x c.cmp.result c.requires is
    (subst (λ o. IsSign o x.1) (sym order) (int_ranks x.1 (pos 0)))
