use Rattle.std.proofs.Common.{◌≡◌, map, sym, subst, ◌∙◌}
use Rattle.bt_cnf.specs.Places.{atoms_in}
use Rattle.bt_cnf.proofs.Atoms.{seconds_zip}
use Rattle.bt_cnf.proofs.formula.Formula.rows.Goals as goal

pub returns-clause-value : goal.returns-clause-value
returns-clause-value c =
    let f = c.self.inside in
    c.deref.ensures.value ∙ subst (λ parts. f.rows.items ≡ map (λ a. a.1) parts.atoms) c.self.view_is (sym (seconds_zip (atoms_in f.places) f.rows.items c.self.invariant.paired))
