-- Parts of lists of rules of ports that are added together.
use Rattle.std.specs.List.{flat_map, filter}
use Rattle.std.specs.Prelude.{ℕ, List, [], ◌∷◌, ◌++◌}
use Rattle.bt_parts.specs.declared.part.Cell.{Cell}
use Rattle.bt_parts.specs.declared.part.Dir.{Dir}
use Rattle.bt_parts.specs.declared.part.Rect.{Rect}
use Rattle.bt_net.specs.Network.{leaves}
use Rattle.bt_model.specs.Requests.{LayoutRequest}
use Rattle.bt_facts.specs.declared.fact.Class.{Class}
use Rattle.bt_facts.specs.declared.fact.Fact.{Fact}
use Rattle.bt_facts.specs.declared.fact.Fact.TheVariants.{Goes, LeavesLesser}
use Rattle.bt_facts.specs.declared.fact.Half.{Half}
use Rattle.bt_demands.specs.Classes.{classes_into}
use Rattle.bt_facts.specs.Facts.{goes_into}
use Rattle.bt_rules.specs.Ports.{two_in_rules, in_rules, out_rules}
use Rattle.bt_facts.specs.Rules.{Rule, rule, rule_by}
use Rattle.bt_facts.specs.Spots.{halves, other_half, half_at}

-- something comes into the half, of one of two classes
abbrev pub two_rules : Rect → ℕ → Fact → Cell → Dir → Class → Class → Half → List Rule
two_rules rect t at c dir k l half = rule (at ∷ []) (goes_into rect (half_at half dir c) dir) ∷ two_in_rules rect t at c dir half k l

-- one edge leaves, by the half or by the other one
abbrev pub one_out_rules : ℕ → Fact → Cell → Dir → List Fact → Half → List Rule
one_out_rules s at c dir front half = rule_by half (LeavesLesser s) (at ∷ []) (Goes (half_at half dir c) dir ∷ [])
    ∷ rule_by half (LeavesLesser s) (at ∷ []) front
    ∷ rule_by half (LeavesLesser s) (at ∷ Goes (half_at (other_half half) dir c) dir ∷ []) [] ∷ []

-- an edge leaves by the half
abbrev pub two_out_rules : Fact → Cell → Dir → List Fact → Half → List Rule
two_out_rules at c dir front half = rule (at ∷ []) (Goes (half_at half dir c) dir ∷ []) ∷ rule (at ∷ []) front ∷ []

-- the rules of both halves of a splitter that stands so
abbrev pub both_halves : LayoutRequest → ℕ → Fact → Cell → Dir → List Rule
both_halves r s at c dir = flat_map (in_rules r.rect s at c dir (classes_into r s)) halves
    ++ flat_map (out_rules r s at c dir (filter (leaves s) r.net.edges)) halves
