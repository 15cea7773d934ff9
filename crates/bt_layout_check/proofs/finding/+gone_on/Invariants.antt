use Rattle.std.proofs.Common.{ℕ, ◌-◌, ◌<◌, [], ◌∷◌, ◌++◌}
use Rattle.bt_layout_check.specs.inner.Finding.{NoneGoesOn}
use Rattle.bt_layout_check.proofs.finding.+gone_on.Given as goal

-- the parts that are still to be named
abbrev pub decreases-gone_on : goal.decreases-gone_on
decreases-gone_on l = l.left

-- no names go on with a part so far
abbrev pub invariant-loop-part : goal.invariant-loop-part
invariant-loop-part l = (p : ℕ) → p < l.part → NoneGoesOn l.parts l.request (l.bearers ++ p ∷ []) (l.left - 1)
