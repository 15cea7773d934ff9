-- What the steps of a certificate that is at hand whole are answered.
use Rattle.std.proofs.Common.{◌≡◌, ℕ, List, Ok, Err, refl, arith, alloc_error}
use Rattle.bt_text.specs.Answers.{UnlessMemory}
use Rattle.bt_io.specs.Passages.{Passage, HasFault}
use Rattle.bt_net.specs.Network.{Network, IsNetwork}
use Rattle.bt_flow.specs.declared.property.Property.{Property}
use Rattle.bt_flow.specs.Properties.{Holds}
use Rattle.bt_flow_formula.specs.FlowFormula.{flow_formula}
use Rattle.bt_flow_formula.proofs.Formulas.{is_formula}
use Rattle.bt_flow_formula.proofs.Refuted.{unmet_holds}
use Rattle.bt_cert.specs.declared.fault.CertFault.{CertFault}
use Rattle.bt_cert.specs.declared.fault.CertFault.TheVariants.{Memory}
use Rattle.bt_cert.specs.Certificates.{IsCertRead}
use Rattle.bt_cert.proofs.OneAnswer.{certificate_shows_unmet}
use Rattle.bt_print.specs.declared.answer.Answer.TheVariants as answer
use Rattle.bt_print.specs.declared.answer.Brief.TheVariants as brief
use Rattle.bt_print.specs.Replies.{Reply}
use Rattle.bt_top.specs.Certificates.{cert_told, IsYesChecked}
use Rattle.bt_designs.specs.Steps.{went_on}
use Rattle.bt_designs.proofs.InTurns.{stops}

never_rose : (source : Passage) → source.faults ≡ 0 → source.faults_after ≡ 0 → HasFault source → ⊥
never_rose source before after rose = let a = rose.risen in absurd (omega (arith, a, before, after))

-- a certificate that is one shows that the network has the property
pub yes_told : (n : Network) (p : Property) (lines : List ℕ) → IsNetwork n → IsCertRead (flow_formula n p) lines (Ok tt)
    → IsYesChecked n p lines (Ok (answer.Brief (brief.Yes p)))
yes_told n p lines net h = went_on tt h (unmet_holds n p net (certificate_shows_unmet (flow_formula n p) lines (is_formula n p net) h), refl)

-- and else the first line for which it is none is told
pub fault_told : (n : Network) (p : Property) (lines : List ℕ) (fault : CertFault) (reply : Reply)
    → UnlessMemory Memory (IsCertRead (flow_formula n p) lines) (Err fault) → reply ≡ cert_told fault → UnlessMemory alloc_error (IsYesChecked n p lines) reply
fault_told n p lines fault reply h e =
    stops Memory alloc_error (IsCertRead (flow_formula n p) lines) cert_told (λ done reply. Holds n p × (reply ≡ Ok (answer.Brief (brief.Yes p)))) fault reply refl h e
