-- Rules of inputs that lead to outputs: each begins on exactly one cell of the border.
use Rattle.std.specs.List.{flat_map}
use Rattle.std.specs.Prelude.{ℕ, List, [], ◌∷◌, ◌++◌, map, if◌then◌else◌}
use Rattle.bt_parts.specs.declared.part.Cell.{Cell}
use Rattle.bt_model.specs.Requests.{LayoutRequest}
use Rattle.bt_facts.specs.declared.fact.Class.TheVariants.{Input}
use Rattle.bt_facts.specs.declared.fact.Fact.TheVariants.{Carries, Begins, Starts}
use Rattle.bt_demands.specs.Classes.{is_through}
use Rattle.bt_facts.specs.Rules.{Rule, rule, exactly_one}
use Rattle.bt_facts.specs.Spots.{border_of}

-- an input starts on the cell exactly where one begins there that has its class
abbrev pub start_rules : ℕ → Cell → List Rule
start_rules i c = rule (Starts c i ∷ []) (Begins c ∷ []) ∷ rule (Starts c i ∷ []) (Carries c (Input i) ∷ [])
    ∷ rule (Begins c ∷ Carries c (Input i) ∷ []) (Starts c i ∷ []) ∷ []

-- an input that leads to an output starts on exactly one cell of the border
abbrev pub input_rules : LayoutRequest → ℕ → List Rule
input_rules r i = if is_through r i
    then exactly_one (map (λ c. Starts c i) (border_of r.rect)) ++ flat_map (start_rules i) (border_of r.rect)
    else []
