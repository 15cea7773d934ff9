use Rattle.bt_recover.specs.inner.Partners.{HasPartners}
use Rattle.bt_recover.proofs.pairing.pairs.Given as goal

abbrev pub invariant-loop-i : goal.invariant-loop-i
invariant-loop-i l = HasPartners l.grid l.partners.items l.i
