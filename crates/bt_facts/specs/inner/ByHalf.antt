-- A fact that tells of a half, as a claim.
use Rattle.std.specs.Prelude.{true, false}
use Rattle.bt_facts.specs.declared.draft.RuleFact.{RuleFact}
use Rattle.bt_facts.specs.declared.fact.Fact.{Fact}
use Rattle.bt_facts.specs.declared.fact.Half.{Half}
use Rattle.bt_facts.specs.declared.fact.Half.TheVariants.{Lesser, Greater}
use Rattle.bt_facts.specs.Drafts.{claim}

-- given for the lesser half, and following for the greater one
abbrev pub claim_by : Half → Fact → RuleFact
claim_by Lesser fact = claim false fact
claim_by Greater fact = claim true fact
