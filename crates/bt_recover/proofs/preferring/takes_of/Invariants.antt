use Rattle.std.proofs.Common.{◌≡◌, List}
use Rattle.std.specs.List.{AllZip}
use Rattle.bt_model.specs.Chains.{Chain}
use Rattle.bt_model.specs.Shown.{Naming}
use Rattle.bt_recover.specs.Preferred.{IsTakenFirst}
use Rattle.bt_recover.specs.inner.Edges.{IsJoint}
use Rattle.bt_recover.proofs.PreferLemmas.{PreferredUpTo}
use Rattle.bt_recover.proofs.preferring.takes_of.Given as goal

abbrev pub invariant-loop-a : goal.invariant-loop-a
invariant-loop-a l = (naming : Naming) (chains : List Chain) → naming.splitters ≡ l.splitters → AllZip (IsJoint l.grid naming) chains l.joints
    → PreferredUpTo (IsTakenFirst l.grid l.priorities) l.splitters chains l.takes.items l.a
