-- Where nothing meets the formula of two networks, or a log refutes it, they behave the same.
use Rattle.bt_log.proofs.Sound.{refuted_is_unmet}
use Rattle.bt_same.specs.SameFormula.{same_formula}
use Rattle.bt_same.specs.Laws.{UnmetAreSame, RefutedAreSame}
use Rattle.bt_same.proofs.Decided.{same_exactly}
use Rattle.bt_same.proofs.Showing.{showing_meets}

pub unmet_are_same : UnmetAreSame
unmet_are_same a b first second ends unmet =
    (same_exactly a b).1 (λ s t shows. let met = showing_meets a b s t first second ends shows in unmet met.assignment met.values met.are_values met.meets)

pub refuted_are_same : RefutedAreSame
refuted_are_same a b steps first second ends formula refutes =
    unmet_are_same a b first second ends (refuted_is_unmet (same_formula a b) steps formula refutes)
