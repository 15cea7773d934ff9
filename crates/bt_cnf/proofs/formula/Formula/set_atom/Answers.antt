use Rattle.std.proofs.Common.{◌≡◌, ◌∷◌, ◌++◌, [], Some, max, set, length, rules, ap, sym, subst, ◌∙◌, refl}
use Rattle.bt_cnf.specs.Formulas.{FormulaParts, IsNextAtom}
use Rattle.bt_cnf.specs.Places.{atoms_in, parts_of, IsStored}
use Rattle.bt_cnf.proofs.Atoms.{appended, set_stored, set_parts}
use Rattle.bt_cnf.proofs.formula.Formula.set_atom.Goals as goal

pub invariant_of-self-2 : goal.invariant_of-self-2
invariant_of-self-2 c =
    let f = c.self.inside in
    let var = c.args.var in
    let row = c.args.row in
    let place = length f.rows.items in
    let after = set f.places var (Some place) in
    let rows = appended c.push.result c.unwrap.result f.rows.items c.reserve.new.self.items c.push.new.self.items row c.unwrap.ensures c.in_ok-reserve.ensures.items c.push.ensures.items in
    let next : IsNextAtom (parts_of f.places f.clauses (atoms_in f.places) f.rows.items) var = subst (λ parts. IsNextAtom parts var) (sym c.self.view_is) c.requires in
    let place_is : c.len.result ≡ place = search rules in
    let told : c.in_ok-place.place ≡ Some place = c.in_ok-place.ensures ∙ ap (λ n. Some n) place_is in
    subst (λ o. IsStored (set f.places var o) f.clauses (atoms_in (set f.places var o)) c.push.new.self.items c.max-self-inside.result) (sym told)
    (subst (λ n. IsStored after f.clauses (atoms_in after) c.push.new.self.items n) (sym c.max-self-inside.ensures)
    (subst (λ rs. IsStored after f.clauses (atoms_in after) rs (max f.columns c.end_column.result)) (sym rows)
    (set_stored f.places f.clauses f.rows.items f.columns var row place c.end_column.result c.self.invariant next c.end_column.ensures.known refl c.end_column.ensures.end)))

pub returns : goal.returns
returns c =
    let f = c.self.inside in
    let var = c.args.var in
    let row = c.args.row in
    let place = length f.rows.items in
    let after = set f.places var (Some place) in
    let rows = appended c.push.result c.unwrap.result f.rows.items c.reserve.new.self.items c.push.new.self.items row c.unwrap.ensures c.in_ok-reserve.ensures.items c.push.ensures.items in
    let next : IsNextAtom (parts_of f.places f.clauses (atoms_in f.places) f.rows.items) var = subst (λ parts. IsNextAtom parts var) (sym c.self.view_is) c.requires in
    let place_is : c.len.result ≡ place = search rules in
    let told : c.in_ok-place.place ≡ Some place = c.in_ok-place.ensures ∙ ap (λ n. Some n) place_is in
    ap (λ o. parts_of (set f.places var o) f.clauses (atoms_in (set f.places var o)) c.push.new.self.items) told
    ∙ ap (λ rs. parts_of after f.clauses (atoms_in after) rs) rows
    ∙ sym (set_parts f.places f.clauses f.rows.items f.columns var row place c.self.invariant next)
    ∙ ap (λ (parts : FormulaParts). record parts { atoms = parts.atoms ++ (var, row) ∷ [] }) c.self.view_is
