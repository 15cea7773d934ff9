-- Where nothing meets the placement formula of a request, or a log refutes it, no parts lay the request.
use Rattle.std.proofs.Common.{arith}
use Rattle.bt_frac.specs.Values.{nothing}
use Rattle.bt_log.proofs.Sound.{refuted_is_unmet}
use Rattle.bt_place.specs.PlaceFormula.{place_formula}
use Rattle.bt_place.proofs.Laying.{laying_meets}
use Rattle.bt_layout.specs.Laws.{UnmetHasNoLayout, RefutedHasNoLayout}
use Rattle.bt_layout.proofs.Formulas.{place_is_formula}

pub unmet_has_no_layout : UnmetHasNoLayout
unmet_has_no_layout r is unmet = λ parts lays.
    let met = laying_meets r parts is lays in
    unmet met.0 (λ column. nothing) (λ column. omega arith) (met.1 (λ column. nothing))

pub refuted_has_no_layout : RefutedHasNoLayout
refuted_has_no_layout r steps is refutes = unmet_has_no_layout r is (refuted_is_unmet (place_formula r) steps (place_is_formula r is) refutes)
