use Rattle.bt_recover.proofs.PreferLemmas.{one_preferring}
use Rattle.bt_recover.proofs.law.one_preferring.Goals as goal

pub returns-clause-net : goal.returns-clause-net
returns-clause-net c = λ parts priorities m n a b h k. (one_preferring parts priorities m n a b h k).0

pub returns-clause-naming : goal.returns-clause-naming
returns-clause-naming c = λ parts priorities m n a b h k. (one_preferring parts priorities m n a b h k).1
