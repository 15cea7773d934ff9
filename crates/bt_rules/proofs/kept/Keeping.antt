-- The parts that are kept of a reading that keeps a request's rules lay the request.
use Rattle.bt_rules.specs.Laws.{KeepingLays}
use Rattle.bt_rules.proofs.kept.Laid.{lays}
use Rattle.bt_rules.proofs.kept.Solved.{KeepsAll}

pub keeping_lays : KeepingLays
unfolding KeepsAll
keeping_lays r reading parts is keeps lists = lays (record { r = r; reading = reading; is_request = is; keeps = keeps }) parts lists
