-- The edges of a network by the parts at their ends.
use Rattle.std.specs.Prelude.{ℕ, List, map, slice_index_or}
use Rattle.bt_net.specs.declared.network.Edge.{Edge}
use Rattle.bt_net.specs.declared.network.Start.{Start}
use Rattle.bt_net.specs.declared.network.Start.TheVariants as from
use Rattle.bt_net.specs.declared.network.Target.{Target}
use Rattle.bt_net.specs.declared.network.Target.TheVariants as to
use Rattle.bt_model.specs.Shown.{Naming}
use Rattle.bt_layout_check.specs.declared.joins.Join.{Join}

-- the part that bears the number of the start
abbrev pub start_part : Naming → Start → ℕ
start_part naming (from.Input k) = slice_index_or naming.inputs k 0
start_part naming (from.Split k) = slice_index_or naming.splitters k 0

-- the part that bears the number of the target
abbrev pub target_part : Naming → Target → ℕ
target_part naming (to.Output k) = slice_index_or naming.outputs k 0
target_part naming (to.Split k) = slice_index_or naming.splitters k 0

-- the edge by the parts that bear the numbers of its ends
abbrev pub join_of : Naming → Edge → Join
join_of naming edge = record { start = start_part naming edge.start; target = target_part naming edge.target; cap = edge.cap }

-- the edges by the parts at their ends
abbrev pub joins_of : Naming → List Edge → List Join
joins_of naming edges = map (join_of naming) edges

-- what stands where there is no join
abbrev pub no_join : Join
no_join = record { start = 0; target = 0; cap = 0 }
