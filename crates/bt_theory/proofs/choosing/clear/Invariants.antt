use Rattle.bt_theory.specs.inner.Choosing.{IsWithin}
use Rattle.bt_theory.proofs.choosing.clear.Given as goal

abbrev pub invariant-loop-var : goal.invariant-loop-var
invariant-loop-var l = IsWithin l.initial.chosen l.chosen
