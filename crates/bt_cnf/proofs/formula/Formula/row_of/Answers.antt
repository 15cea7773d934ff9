use Rattle.std.proofs.Common.{◌≡◌, ◌<◌, ◌≤◌, arith, length, map, sym, subst, None, ◌∙◌, refl}
use Rattle.bt_cnf.specs.Places.{IsPlaceOf, atoms_in}
use Rattle.bt_cnf.proofs.Atoms.{firsts_zip, got, got_below, past_atoms}
use Rattle.bt_cnf.proofs.formula.Formula.row_of.Goals as goal

pub returns-in-Some : goal.returns-in-Some
returns-in-Some c =
    let f = c.self.inside in
    let place = c.in-Some.id in
    let told = c.get.result.now in
    let same : place ≡ c.args.var = c.in-Some.ensures.some ∙ c.place.ensures in
    let below : place < length f.places = got_below f.places place told c.get.ensures in
    subst (IsPlaceOf (map (λ a. a.0) c.args.self.now.atoms) c.args.var) (sym c.row.ensures)
    (subst (λ var. IsPlaceOf (map (λ a. a.0) c.args.self.now.atoms) var told) same
    (subst (λ parts. IsPlaceOf (map (λ a. a.0) parts.atoms) place told) c.self.view_is
    (subst (λ vars. IsPlaceOf vars place told) (sym (firsts_zip (atoms_in f.places) f.rows.items c.self.invariant.paired))
    (subst (IsPlaceOf (atoms_in f.places) place) (got f.places place None told c.get.ensures) (c.self.invariant.named place below)))))

pub returns-in-None : goal.returns-in-None
returns-in-None c =
    let f = c.self.inside in
    let past : length f.places ≤ c.args.var = omega (arith, c.in-None.ensures.none.0 refl, c.place.ensures) in
    subst (λ parts. IsPlaceOf (map (λ a. a.0) parts.atoms) c.args.var None) c.self.view_is
    (past_atoms (length f.places) c.args.var _ c.self.invariant.formula.atoms past)
