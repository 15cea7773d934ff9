-- What `check-layout` answers: a request, blanks, and a certificate that no layout lays it.
use Rattle.std.specs.Prelude.{◌≡◌, ◌<◌, ◌^◌, ℕ, List, ◌∷◌, ◌⊎◌, Ok, drop, length, Option}
use Rattle.bt_text.specs.Blanks.{SkipsBlanks}
use Rattle.bt_text.specs.Lines.{IsFirstLine}
use Rattle.bt_parts.specs.declared.part.Rect.{Rect}
use Rattle.bt_parts.specs.declared.part.Tier.{Tier}
use Rattle.bt_log.specs.Logs.{Step}
use Rattle.bt_model.specs.Requests.{LayoutRequest, IsRequest}
use Rattle.bt_place.specs.PlaceFormula.{place_formula}
use Rattle.bt_layout.specs.Layouts.{HasNoLayout}
use Rattle.bt_cert.specs.Certificates.{IsCertRead}
use Rattle.bt_theory.specs.Outcomes.{IsRefutation}
use Rattle.bt_print.specs.declared.answer.Answer.TheVariants as answer
use Rattle.bt_print.specs.declared.answer.Brief.TheVariants as brief
use Rattle.bt_print.specs.Answers.{none_word, nowhere_text}
use Rattle.bt_top.specs.Certificates.{cert_told}
use Rattle.bt_print.specs.Replies.{Reply, UnlessLarge, design_told}
use Rattle.bt_designs.specs.Requested.{IsFrontRequest}
use Rattle.bt_designs.specs.Steps.{InTurn}

-- the text's first line says that there is no layout, and this follows it
abbrev pub SaysNone : List ℕ → List ℕ → Type 0
SaysNone text lines = IsFirstLine text none_word lines

-- what is answered to the lines of steps: that there is no layout, and then no parts lay the request; or the first line
-- for which the steps are no certificate
abbrev pub IsNoneChecked : LayoutRequest → List ℕ → Reply → Type 0
IsNoneChecked r lines = InTurn (IsCertRead (place_formula r) lines) cert_told (λ done reply. HasNoLayout r × (reply ≡ Ok (answer.Brief brief.NoLayout)))

-- what is answered to a certificate: the answer to its steps where its first line says none, and else that this line
-- isn't one that belongs there
abbrev pub IsNoneTextChecked : LayoutRequest → List ℕ → Reply → Type 0
IsNoneTextChecked r text reply = ((lines : List ℕ) × SaysNone text lines × IsNoneChecked r lines reply)
    ⊎ (((lines : List ℕ) → SaysNone text lines → ⊥) × (reply ≡ Ok (answer.Brief (brief.CertLine 1))))

-- what is answered to what follows a request: behind blanks, the answer to the certificate
abbrev pub IsNoneCertificateChecked : LayoutRequest → List ℕ → Reply → Type 0
IsNoneCertificateChecked r rest reply = (text : List ℕ) × SkipsBlanks rest text × IsNoneTextChecked r text reply

-- what `check-layout` answers to bytes: the refusal of the request at their front, of which the last is that it has no
-- formula, or what is answered to what follows it
abbrev pub IsLayoutChecked : Rect → Option Tier → List ℕ → Reply → Type 0
IsLayoutChecked rect tier bytes = InTurn (IsFrontRequest rect tier bytes) design_told (λ found. UnlessLarge (λ r. IsNoneCertificateChecked r (drop found.1 bytes)) found.0)

-- what is written where a log soundly refutes the placement formula of a request is accepted behind that request and a
-- line feed, where the log has fewer than 10 ^ 17 steps
abbrev pub NoneIsAccepted : Type 0
NoneIsAccepted = (r : LayoutRequest) (steps : List Step) → IsRequest r → IsRefutation (place_formula r) steps → length steps < 10 ^ 17
    → IsNoneCertificateChecked r (10 ∷ nowhere_text steps) (Ok (answer.Brief brief.NoLayout))
