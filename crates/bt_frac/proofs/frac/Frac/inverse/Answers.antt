use Rattle.std.proofs.Common.{FitsSigned, rules, ◌≡◌, ◌≢◌, pos, subst}
use Rattle.std.specs.Int.{w128}
use Rattle.std.proofs.lemmas.Int.{to_z-of_z}
use Rattle.bt_frac.proofs.Divisions.{inverse_lowest}
use Rattle.bt_frac.proofs.frac.Frac.inverse.Goals as goal

pub invariant_of-result : goal.invariant_of-result
invariant_of-result c =
    let small = c.self.invariant.over_fits in
    let inside : FitsSigned w128 c.self.inside.over = search rules in
    let fits : FitsSigned w128 c.signed.result = search rules in
    let size = simp to_z-of_z at c.magnitude.ensures in
    let some : c.self.inside.over ≢ pos 0 = λ e. c.requires (subst (λ r. r.over ≡ pos 0) c.self.view_is e) in
    simp to_z-of_z (simp (c.signed.ensures, size) (inverse_lowest (record { over = c.self.inside.over; under = c.self.inside.under }) c.is_negative.result c.self.invariant some))

pub returns-clause-lowest : goal.returns-clause-lowest
returns-clause-lowest c =
    let small = c.self.invariant.over_fits in
    let inside : FitsSigned w128 c.self.inside.over = search rules in
    let fits : FitsSigned w128 c.signed.result = search rules in
    let size = simp to_z-of_z at c.magnitude.ensures in
    let some : c.self.inside.over ≢ pos 0 = λ e. c.requires (subst (λ r. r.over ≡ pos 0) c.self.view_is e) in
    simp to_z-of_z (simp (c.signed.ensures, size) (inverse_lowest (record { over = c.self.inside.over; under = c.self.inside.under }) c.is_negative.result c.self.invariant some))
