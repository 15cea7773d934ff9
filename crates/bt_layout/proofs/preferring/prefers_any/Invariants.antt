use Rattle.std.proofs.Common.{◌≡◌, ℕ, ◌<◌}
use Rattle.std.specs.Prelude.{None}
use Rattle.bt_net.specs.Network.{give_of, take_of}
use Rattle.bt_layout.proofs.preferring.prefers_any.Given as goal

-- no splitter so far prefers an edge
abbrev pub invariant-loop-splitter : goal.invariant-loop-splitter
invariant-loop-splitter l = (k : ℕ) → k < l.splitter → (give_of l.net k ≡ None) × (take_of l.net k ≡ None)
