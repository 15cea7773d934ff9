use Rattle.std.proofs.Common.{ℕ, ◌<◌, get_or}
use Rattle.bt_parts.specs.declared.part.Part.{Part}
use Rattle.bt_layout_check.specs.inner.Fitting.{SuitsAlone}
use Rattle.bt_layout_check.proofs.fitting.all_suit.Given as goal

-- all parts so far suit
abbrev pub invariant-loop-part : goal.invariant-loop-part
invariant-loop-part l = (k : ℕ) (d : Part) → k < l.part-index → SuitsAlone l.rect l.tier (get_or l.parts k d)
