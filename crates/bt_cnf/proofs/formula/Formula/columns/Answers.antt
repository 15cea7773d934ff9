use Rattle.std.proofs.Common.{◌≡◌, map, ap, sym, subst, ◌∙◌}
use Rattle.bt_frac.specs.Rows.{columns_in, end_of}
use Rattle.bt_cnf.specs.Places.{atoms_in}
use Rattle.bt_cnf.proofs.Atoms.{seconds_zip}
use Rattle.bt_cnf.proofs.formula.Formula.columns.Goals as goal

pub returns : goal.returns
returns c =
    let f = c.self.inside in
    subst (λ parts. f.columns ≡ end_of (columns_in (map (λ a. a.1) parts.atoms))) c.self.view_is
    (c.self.invariant.end ∙ ap (λ rows. end_of (columns_in rows)) (sym (seconds_zip (atoms_in f.places) f.rows.items c.self.invariant.paired)))
