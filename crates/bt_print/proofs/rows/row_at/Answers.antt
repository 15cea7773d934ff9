use Rattle.std.proofs.Common.{Some, None, map, get_or, ap, ◌∙◌, subst, sym}
use Rattle.bt_cnf.specs.Places.{IsPlaceOf}
use Rattle.bt_print.proofs.Atoms.{placed, unplaced}
use Rattle.bt_print.proofs.rows.row_at.Goals as goal

pub returns-in_default-row_of : goal.returns-in_default-row_of
returns-in_default-row_of c =
    let atoms = c.args.formula.now.atoms in
    unplaced c.args.place atoms (subst (λ v. IsPlaceOf (map (λ a. a.0) atoms) v None) c.in-Some.ensures.some c.in_default-row_of.ensures)

pub returns : goal.returns
returns c =
    let atoms = c.args.formula.now.atoms in
    let row = c.index-rows-row.result in
    placed 0 c.args.formula.now.vars c.args.place c.in-Some-row_of.row atoms row c.rows.ensures.known.atoms
    (subst (λ v. IsPlaceOf (map (λ a. a.0) atoms) v (Some c.in-Some-row_of.row)) c.in-Some.ensures.some c.in-Some-row_of.ensures)
    (sym (c.index-rows-row.is ∙ ap (λ rows. get_or rows c.in-Some-row_of.row row) c.rows.ensures.value))
