-- Where nothing meets the flow formula of a network and a property, or a log refutes it, the network has the property.
use Rattle.bt_flow.proofs.Decided.{holds_exactly}
use Rattle.bt_log.proofs.Sound.{refuted_is_unmet}
use Rattle.bt_flow_formula.specs.FlowFormula.{flow_formula}
use Rattle.bt_flow_formula.specs.Laws.{UnmetHolds, RefutedHolds}
use Rattle.bt_flow_formula.proofs.Breaking.{breaking_is_met}
use Rattle.bt_flow_formula.proofs.Formulas.{is_formula}

pub unmet_holds : UnmetHolds
unmet_holds n p is unmet =
    (holds_exactly n p).1 (λ s b. let met = breaking_is_met n p s is b in unmet met.assignment met.values met.known met.meets)

pub refuted_holds : RefutedHolds
refuted_holds n p steps is refutes = unmet_holds n p is (refuted_is_unmet (flow_formula n p) steps (is_formula n p is) refutes)
