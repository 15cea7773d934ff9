-- Rules over facts: clauses of facts that hold or don't.
use Rattle.std.specs.Prelude.{◌≡◌, Bool, true, ◌⊎◌, List, [], ◌∷◌, ◌++◌, map}
use Rattle.bt_facts.specs.declared.fact.Fact.{Fact}
use Rattle.bt_facts.specs.declared.fact.Half.{Half}
use Rattle.bt_facts.specs.declared.fact.Half.TheVariants.{Lesser, Greater}

-- where each of the given facts holds, one of these does
pub record Rule : Type 0 where
  pub given : List Fact
  pub one_of : List Fact

-- where these hold, one of those does
abbrev pub rule : List Fact → List Fact → Rule
rule given one_of = record { given = given; one_of = one_of }

-- one of these holds
abbrev pub some_of : List Fact → Rule
some_of facts = rule [] facts

-- not all of these hold
abbrev pub not_all : List Fact → Rule
not_all facts = rule facts []

-- at most one of these holds: no two do
abbrev pub at_most_one : List Fact → List Rule
at_most_one [] = []
at_most_one (fact ∷ facts) = map (λ other. not_all (fact ∷ other ∷ [])) facts ++ at_most_one facts

-- one of these holds, and no two do
abbrev pub exactly_one : List Fact → List Rule
exactly_one facts = some_of facts ∷ at_most_one facts

-- the first fact holds exactly where one of the others does
abbrev pub equals_one : Fact → List Fact → List Rule
equals_one fact facts = rule (fact ∷ []) facts ∷ map (λ one. rule (one ∷ []) (fact ∷ [])) facts

-- where it is this half of which the fact tells, and these hold, one of those does: the lesser one where the fact
-- holds, else the greater one
abbrev pub rule_by : Half → Fact → List Fact → List Fact → Rule
rule_by Lesser by_lesser given one_of = rule (by_lesser ∷ given) one_of
rule_by Greater by_lesser given one_of = rule given (by_lesser ∷ one_of)

-- each of the facts holds by this reading
abbrev pub AllHold : (Fact → Bool) → List Fact → Type 0
AllHold holds [] = Unit {0}
AllHold holds (fact ∷ facts) = (holds fact ≡ true) × AllHold holds facts

-- one of the facts holds by this reading
abbrev pub OneHolds : (Fact → Bool) → List Fact → Type 0
OneHolds holds [] = ⊥
OneHolds holds (fact ∷ facts) = (holds fact ≡ true) ⊎ OneHolds holds facts

-- the reading keeps the rule
abbrev pub Keeps : (Fact → Bool) → Rule → Type 0
Keeps holds r = AllHold holds r.given → OneHolds holds r.one_of
