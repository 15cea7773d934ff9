-- What is printed of a yes.
use Rattle.std.specs.Prelude.{◌<◌, ◌^◌, List, ◌++◌, length}
use Rattle.bt_net.specs.Network.{Network, IsNetwork}
use Rattle.bt_flow.specs.declared.property.Property.{Property}
use Rattle.bt_log.specs.Logs.{Step}
use Rattle.bt_log.specs.LogText.{log_text}
use Rattle.bt_extend.specs.Extending.{extended}
use Rattle.bt_extend.specs.Texts.{definitions_text}
use Rattle.bt_extend.specs.declared.definition.Definition.{Definition}
use Rattle.bt_cert.specs.Certificates.{IsCertificate}
use Rattle.bt_flow_formula.specs.FlowFormula.{flow_formula}
use Rattle.bt_same.specs.SameFormula.{same_formula}
use Rattle.bt_theory.specs.Outcomes.{IsRefutation}
use Rattle.bt_decide.specs.Verdicts.{AreMade, splitters_of_both}

-- what is printed of definitions that are made for a flow formula, and of a log that refutes the formula as they extend
-- it, and whose sums fit, is a certificate, where it has fewer than 10 ^ 17 steps
abbrev pub YesIsCertificate : Type 0
YesIsCertificate = (n : Network) (p : Property) (definitions : List Definition) (steps : List Step) → IsNetwork n → AreMade n.splitters (flow_formula n p) definitions
    → IsRefutation (extended (flow_formula n p) definitions) steps → length steps < 10 ^ 17 → IsCertificate (flow_formula n p) (definitions_text definitions ++ log_text steps)

-- the same of the formula of two networks
abbrev pub SameIsCertificate : Type 0
SameIsCertificate = (a b : Network) (definitions : List Definition) (steps : List Step) → IsNetwork a → IsNetwork b → AreMade (splitters_of_both a b) (same_formula a b) definitions
    → IsRefutation (extended (same_formula a b) definitions) steps → length steps < 10 ^ 17 → IsCertificate (same_formula a b) (definitions_text definitions ++ log_text steps)
