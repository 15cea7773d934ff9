use Rattle.bt_place.specs.Narrowed.{IsNarrowed}
use Rattle.bt_place.proofs.narrowing.narrow.Given as goal

abbrev pub invariant-loop-place : goal.invariant-loop-place
invariant-loop-place l = IsNarrowed l.initial.formula l.formula
