-- All rules of ends and blocks.
use Rattle.std.specs.List.{range_with_len, flat_map}
use Rattle.std.specs.Prelude.{List, ◌++◌, map}
use Rattle.bt_model.specs.Requests.{LayoutRequest}
use Rattle.bt_demands.specs.Pinning.{demand_rules, clash_rules, block_rule}
use Rattle.bt_facts.specs.Rules.{Rule}
use Rattle.bt_demands.specs.Starts.{input_rules}

-- the rules of inputs, pins, sides, rows and blocks
abbrev pub end_rules : LayoutRequest → List Rule
end_rules r = flat_map (input_rules r) (range_with_len 0 r.net.inputs)
    ++ flat_map (demand_rules r) r.demands ++ clash_rules r.demands ++ map block_rule r.blocks
