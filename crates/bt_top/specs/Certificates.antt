-- What `check` answers: a design, blanks, and a certificate for the property or a written state in which it fails.
use Rattle.std.specs.Prelude.{◌≡◌, ℕ, List, ◌++◌, ◌⊎◌, Ok, Err, alloc_error, drop, codes}
use Rattle.bt_text.specs.Blanks.{SkipsBlanks}
use Rattle.bt_text.specs.Lines.{IsFirstLine}
use Rattle.bt_net.specs.Network.{Network}
use Rattle.bt_flow.specs.declared.property.Property.{Property}
use Rattle.bt_flow.specs.Names.{property_name}
use Rattle.bt_flow.specs.Properties.{Holds}
use Rattle.bt_flow_formula.specs.FlowFormula.{flow_formula}
use Rattle.bt_cert.specs.declared.fault.CertFault.{CertFault}
use Rattle.bt_cert.specs.declared.fault.CertFault.TheVariants as cert
use Rattle.bt_cert.specs.Certificates.{IsCertRead}
use Rattle.bt_print.specs.declared.answer.Answer.TheVariants as answer
use Rattle.bt_print.specs.declared.answer.Brief.TheVariants as brief
use Rattle.bt_designs.specs.Designs.{IsDesign}
use Rattle.bt_print.specs.Replies.{Reply, design_told}
use Rattle.bt_top.specs.States.{IsStateJudged}
use Rattle.bt_designs.specs.Steps.{InTurn}

-- why steps are no certificate; a text that is at hand whole has no fault of a source
abbrev pub cert_told : CertFault → Reply
cert_told (cert.CertLine k) = Ok (answer.Brief (brief.CertLine k))
cert_told (cert.BadStep k cause) = Ok (answer.Brief (brief.BadStep k cause))
cert_told cert.NoVerdict = Ok (answer.Brief brief.NoVerdict)
cert_told (cert.CertWide k row column) = Ok (answer.Brief (brief.CertWide k row column))
cert_told cert.ReadFault = Err alloc_error
cert_told cert.TooLong = Err alloc_error
cert_told cert.Memory = Err alloc_error

-- the text's first line says that the network has the property, and this follows it
abbrev pub SaysYes : Property → List ℕ → List ℕ → Type 0
SaysYes p text lines = IsFirstLine text (codes "yes " ++ property_name p) lines

-- what is answered to the lines of steps: that the network has the property, which it then has in every steady state;
-- or the first line for which the steps are no certificate
abbrev pub IsYesChecked : Network → Property → List ℕ → Reply → Type 0
IsYesChecked n p lines = InTurn (IsCertRead (flow_formula n p) lines) cert_told (λ done reply. Holds n p × (reply ≡ Ok (answer.Brief (brief.Yes p))))

-- what is answered to a certificate: the answer to its steps where its first line says yes, and else that to a written
-- state
abbrev pub IsTextChecked : Network → Property → List ℕ → Reply → Type 0
IsTextChecked n p text reply = ((lines : List ℕ) × SaysYes p text lines × IsYesChecked n p lines reply)
    ⊎ (((lines : List ℕ) → SaysYes p text lines → ⊥) × IsStateJudged n p (brief.No p) text reply)

-- what is answered to what follows a design: behind blanks, the answer to the certificate
abbrev pub IsCertificateChecked : Network → Property → List ℕ → Reply → Type 0
IsCertificateChecked n p rest reply = (text : List ℕ) × SkipsBlanks rest text × IsTextChecked n p text reply

-- what `check` answers to bytes: the refusal of the design at their front, or what is answered to what follows it
abbrev pub IsChecked : Property → List ℕ → Reply → Type 0
IsChecked p bytes = InTurn (IsDesign bytes) design_told (λ found. IsCertificateChecked found.0 p (drop found.1 bytes))
