-- Rules as lists of claims.
use Rattle.std.specs.List.{filter}
use Rattle.std.specs.Prelude.{Bool, not, List, map}
use Rattle.bt_facts.specs.declared.draft.RuleFact.{RuleFact}
use Rattle.bt_facts.specs.declared.fact.Fact.{Fact}
use Rattle.bt_facts.specs.Rules.{Rule, rule}

-- the rule of these claims
abbrev pub rule_of : List RuleFact → Rule
rule_of claims = rule (map (λ c. c.fact) (filter (λ c. not c.follows) claims)) (map (λ c. c.fact) (filter (λ c. c.follows) claims))

-- a fact that is given, or one that follows
abbrev pub claim : Bool → Fact → RuleFact
claim follows fact = record { fact = fact; follows = follows }
