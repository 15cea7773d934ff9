use Rattle.std.proofs.Common.{◌≡◌, ◌∷◌, ◌++◌, ◌+◌, [], Some, max, length, rules, ap, sym, subst, ◌∙◌, refl}
use Rattle.bt_cnf.specs.Formulas.{FormulaParts}
use Rattle.bt_cnf.specs.Places.{atoms_in, parts_of, IsStored}
use Rattle.bt_cnf.proofs.Atoms.{appended, pushed_stored, pushed_parts}
use Rattle.bt_cnf.proofs.formula.Formula.add_atom.Goals as goal

pub invariant_of-self-2 : goal.invariant_of-self-2
invariant_of-self-2 c =
    let f = c.self.inside in
    let row = c.args.row in
    let place = length f.rows.items in
    let added = c.in_ok-var.ensures.added.right in
    let after = f.places ++ Some place ∷ [] in
    let rows = appended c.push.result c.unwrap.result f.rows.items c.reserve.new.self.items c.push.new.self.items row c.unwrap.ensures c.in_ok-reserve.ensures.items c.push.ensures.items in
    let place_is : c.len.result ≡ place = search rules in
    let added_is : c.add.new.self ≡ after = added.0 ∙ ap (λ o. f.places ++ o ∷ []) (c.in_ok-place.ensures ∙ ap (λ n. Some n) place_is) in
    subst (λ n. IsStored c.add.new.self f.clauses (atoms_in c.add.new.self) c.push.new.self.items n) (sym c.max-self-inside.ensures)
    (subst (λ ps. IsStored ps f.clauses (atoms_in ps) c.push.new.self.items (max f.columns c.end_column.result)) (sym added_is)
    (subst (λ rs. IsStored after f.clauses (atoms_in after) rs (max f.columns c.end_column.result)) (sym rows)
    (pushed_stored f.places f.clauses f.rows.items f.columns row place c.end_column.result c.self.invariant c.end_column.ensures.known refl c.end_column.ensures.end)))

pub returns : goal.returns
returns c =
    let f = c.self.inside in
    let row = c.args.row in
    let place = length f.rows.items in
    let added = c.in_ok-var.ensures.added.right in
    let after = f.places ++ Some place ∷ [] in
    let rows = appended c.push.result c.unwrap.result f.rows.items c.reserve.new.self.items c.push.new.self.items row c.unwrap.ensures c.in_ok-reserve.ensures.items c.push.ensures.items in
    let place_is : c.len.result ≡ place = search rules in
    let added_is : c.add.new.self ≡ after = added.0 ∙ ap (λ o. f.places ++ o ∷ []) (c.in_ok-place.ensures ∙ ap (λ n. Some n) place_is) in (
      added.1 ∙ ap (λ (parts : FormulaParts). parts.vars) c.self.view_is,
      ap (λ ps. parts_of ps f.clauses (atoms_in ps) c.push.new.self.items) added_is
          ∙ ap (λ rs. parts_of after f.clauses (atoms_in after) rs) rows
          ∙ sym (pushed_parts f.places f.clauses f.rows.items f.columns row place c.self.invariant)
          ∙ ap (λ (parts : FormulaParts). record parts { vars = parts.vars + 1; atoms = parts.atoms ++ (parts.vars, row) ∷ [] }) c.self.view_is,
    )
