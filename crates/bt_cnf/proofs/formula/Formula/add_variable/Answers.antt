use Rattle.std.proofs.Common.{◌≡◌, ◌∷◌, ◌++◌, ◌+◌, [], None, ap, sym, subst, ◌∙◌}
use Rattle.bt_cnf.specs.Formulas.{FormulaParts}
use Rattle.bt_cnf.specs.Places.{atoms_in, parts_of, IsStored}
use Rattle.bt_cnf.proofs.Atoms.{stored_blank, blank_parts}
use Rattle.bt_cnf.proofs.formula.Formula.add_variable.Goals as goal

pub invariant_of-self-2 : goal.invariant_of-self-2
invariant_of-self-2 c =
    let f = c.self.inside in
    let added_is : c.add.new.self ≡ f.places ++ None ∷ [] = c.in_ok-var.ensures.added.right.0 ∙ ap (λ o. f.places ++ o ∷ []) c.none.ensures in
    subst (λ ps. IsStored ps f.clauses (atoms_in ps) f.rows.items f.columns) (sym added_is) (stored_blank f.places f.clauses f.rows.items f.columns c.self.invariant)

pub returns : goal.returns
returns c =
    let f = c.self.inside in
    let added = c.in_ok-var.ensures.added.right in
    let added_is : c.add.new.self ≡ f.places ++ None ∷ [] = added.0 ∙ ap (λ o. f.places ++ o ∷ []) c.none.ensures in (
      added.1 ∙ ap (λ (parts : FormulaParts). parts.vars) c.self.view_is,
      ap (λ ps. parts_of ps f.clauses (atoms_in ps) f.rows.items) added_is ∙ sym (blank_parts f.places f.clauses f.rows.items)
          ∙ ap (λ (parts : FormulaParts). record parts { vars = parts.vars + 1 }) c.self.view_is,
    )
