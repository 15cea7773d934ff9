use Rattle.std.proofs.Common.{FitsSigned}
use Rattle.std.specs.Int.{w128}
use Rattle.std.proofs.lemmas.Int.{to_z-of_z, fits_signed_from_abs}
use Rattle.bt_frac.proofs.Gcds.{whole_lowest}
use Rattle.bt_frac.proofs.Sums.{wholes_fit}
use Rattle.bt_frac.proofs.frac.Frac.add_whole.Goals as goal

pub invariant_of-result : goal.invariant_of-result
invariant_of-result c =
    let fits : FitsSigned w128 c.short_plus.result = fits_signed_from_abs w128 c.short_plus.result c.short_plus.ensures.size in
    simp to_z-of_z (whole_lowest c.short_plus.result c.short_plus.ensures.size)

pub returns-clause-lowest : goal.returns-clause-lowest
returns-clause-lowest c =
    let fits : FitsSigned w128 c.short_plus.result = fits_signed_from_abs w128 c.short_plus.result c.short_plus.ensures.size in
    simp to_z-of_z (whole_lowest c.short_plus.result c.short_plus.ensures.size)

pub returns-clause-fits : goal.returns-clause-fits
returns-clause-fits c = wholes_fit _ _ c.requires.self_whole c.requires.other_whole
