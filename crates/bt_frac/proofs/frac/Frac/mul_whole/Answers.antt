use Rattle.std.proofs.Common.{rules, FitsSigned}
use Rattle.std.specs.Int.{w128}
use Rattle.std.proofs.lemmas.Int.{to_z-of_z}
use Rattle.bt_frac.proofs.Gcds.{whole_lowest}
use Rattle.bt_frac.proofs.frac.Frac.mul_whole.Goals as goal

pub invariant_of-result : goal.invariant_of-result
invariant_of-result c =
    let fits : FitsSigned w128 c.whole_times.result = search rules in
    simp to_z-of_z (whole_lowest c.whole_times.result c.whole_times.ensures.size)

pub returns-clause-lowest : goal.returns-clause-lowest
returns-clause-lowest c =
    let fits : FitsSigned w128 c.whole_times.result = search rules in
    simp to_z-of_z (whole_lowest c.whole_times.result c.whole_times.ensures.size)
