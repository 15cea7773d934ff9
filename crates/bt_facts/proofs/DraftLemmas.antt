-- The claims of a rule are those of that rule.
use Rattle.std.proofs.Common.{◌≡◌, true, false, not, List, [], ◌∷◌, ◌++◌, map, refl, ◌∙◌, ap}
use Rattle.std.specs.List.{filter}
use Rattle.bt_facts.specs.declared.draft.RuleFact.{RuleFact}
use Rattle.bt_facts.specs.declared.fact.Fact.{Fact}
use Rattle.bt_facts.specs.declared.fact.Half.{Half}
use Rattle.bt_facts.specs.declared.fact.Half.TheVariants.{Lesser, Greater}
use Rattle.bt_facts.specs.Rules.{rule, rule_by}
use Rattle.bt_facts.specs.inner.ByHalf.{claim_by}
use Rattle.bt_facts.specs.Drafts.{rule_of, claim}

given_of : (given one_of : List Fact) → map (λ c. c.fact) (filter (λ c. not c.follows) (map (claim false) given ++ map (claim true) one_of)) ≡ given
given_of [] [] = refl
given_of [] (f ∷ one_of) = given_of [] one_of
given_of (f ∷ given) one_of = ap (λ l. f ∷ l) (given_of given one_of)

following_of : (given one_of : List Fact) → map (λ c. c.fact) (filter (λ c. c.follows) (map (claim false) given ++ map (claim true) one_of)) ≡ one_of
following_of [] [] = refl
following_of [] (f ∷ one_of) = ap (λ l. f ∷ l) (following_of [] one_of)
following_of (f ∷ given) one_of = following_of given one_of

same_rule : (given one_of : List Fact) → rule_of (map (claim false) given ++ map (claim true) one_of) ≡ rule given one_of
same_rule given one_of =
    ap (λ g. rule g (map (λ c. c.fact) (filter (λ c. c.follows) (map (claim false) given ++ map (claim true) one_of)))) (given_of given one_of) ∙ ap (rule given) (following_of given one_of)

map_push : (rules : List (List RuleFact)) (claims : List RuleFact) → map rule_of (rules ++ claims ∷ []) ≡ map rule_of rules ++ rule_of claims ∷ []
map_push [] claims = refl
map_push (c ∷ rules) claims = ap (λ l. rule_of c ∷ l) (map_push rules claims)

-- a rule that is added
pub rule_added : (rules : List (List RuleFact)) (claims : List RuleFact) (given one_of : List Fact) → claims ≡ map (claim false) given ++ map (claim true) one_of
    → map rule_of (rules ++ claims ∷ []) ≡ map rule_of rules ++ rule given one_of ∷ []
rule_added rules claims given one_of e = map_push rules claims ∙ ap (λ r. map rule_of rules ++ r ∷ []) (ap rule_of e ∙ same_rule given one_of)

same_rule_by : (half : Half) (fact : Fact) (given one_of : List Fact) → rule_of (claim_by half fact ∷ (map (claim false) given ++ map (claim true) one_of)) ≡ rule_by half fact given one_of
same_rule_by Lesser fact given one_of = ap (λ g. rule (fact ∷ g) (rule_of (map (claim false) given ++ map (claim true) one_of)).one_of) (given_of given one_of) ∙ ap (rule (fact ∷ given)) (following_of given one_of)
same_rule_by Greater fact given one_of = ap (λ g. rule g (fact ∷ (rule_of (map (claim false) given ++ map (claim true) one_of)).one_of)) (given_of given one_of) ∙ ap (λ f. rule given (fact ∷ f)) (following_of given one_of)

-- a rule that is added of what is told by a half
pub rule_added_by : (half : Half) (fact : Fact) (rules : List (List RuleFact)) (claims : List RuleFact) (given one_of : List Fact)
    → claims ≡ claim_by half fact ∷ (map (claim false) given ++ map (claim true) one_of) → map rule_of (rules ++ claims ∷ []) ≡ map rule_of rules ++ rule_by half fact given one_of ∷ []
rule_added_by half fact rules claims given one_of e = map_push rules claims ∙ ap (λ r. map rule_of rules ++ r ∷ []) (ap rule_of e ∙ same_rule_by half fact given one_of)
