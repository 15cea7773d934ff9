-- What the front of an input tells of the answer of `check-layout`.
use Rattle.std.proofs.Common.{◌≡◌, ℕ, Bool, List, ◌++◌, Option, Result, Ok, Err, drop, inl, inr, refl, sym, subst}
use Rattle.bt_text.specs.Lines.{IsFirstLine}
use Rattle.bt_text.proofs.FirstLines.{IsFirstLine-unique}
use Rattle.bt_parts.specs.declared.part.Rect.{Rect}
use Rattle.bt_parts.specs.declared.part.Tier.{Tier}
use Rattle.bt_model.specs.Requests.{LayoutRequest, IsRequest}
use Rattle.bt_place.specs.PlaceFormula.{place_formula}
use Rattle.bt_cert.specs.Certificates.{IsCertRead}
use Rattle.bt_cert.specs.declared.fault.CertFault.{CertFault}
use Rattle.bt_print.specs.declared.answer.Answer.TheVariants as answer
use Rattle.bt_print.specs.declared.answer.Brief.TheVariants as brief
use Rattle.bt_designs.specs.declared.fault.DesignFault.TheVariants.{Refused}
use Rattle.bt_top.specs.declared.front.Front.TheVariants as front
use Rattle.bt_top.specs.declared.front.WrittenSteps.{WrittenSteps}
use Rattle.bt_designs.specs.declared.refusal.Refusal.{Refusal}
use Rattle.bt_print.specs.Answers.{none_word}
use Rattle.bt_top.specs.NoneCertificates.{IsLayoutChecked, IsNoneTextChecked, IsNoneChecked, SaysNone}
use Rattle.bt_print.specs.Replies.{Reply}
use Rattle.bt_designs.specs.Requested.{PinnedNet, IsPinned}
use Rattle.bt_designs.specs.Steps.{stopped, went_on}
use Rattle.bt_designs.specs.Told.{MayFollow, TellsLine}
use Rattle.bt_top.specs.inner.Fronts.{IsFrontOf, steps_answer}
use Rattle.bt_top.specs.inner.RequestParts.{IsRequestChecked}
use Rattle.bt_top.proofs.Fronts.{known_front, line_goes}
use Rattle.bt_top.proofs.NoneCertified.{none_told}

module _ (rect : Rect) (tier : Option Tier) (all : List ℕ) where
  -- a refusal of the design
  pub design_refused : (r : Refusal) → IsPinned all (Err (Refused r)) → IsLayoutChecked rect tier all (Ok (answer.Brief (brief.Refused r)))
  design_refused r h = stopped (Refused r) (stopped (Refused r) h refl) refl

  -- what is answered behind a design
  pub design_goes : (found : PinnedNet × ℕ) (reply : Reply) → IsPinned all (Ok found) → IsRequestChecked rect tier found.0 (drop found.1 all) reply → IsLayoutChecked rect tier all reply
  design_goes found reply h (stopped fault k e) = stopped fault (went_on found h (Err fault, k, refl)) e
  design_goes found reply h (went_on request k c) = went_on (request, found.1) (went_on found h (Ok request, k, refl)) c

module _ (r : LayoutRequest) (ended : Bool) (text title lines : List ℕ) (told : TellsLine ended text title lines) where
  first : (more : List ℕ) → MayFollow ended more → IsFirstLine (text ++ more) title (lines ++ more)
  first more may = line_goes ended text title lines more told may

  -- a first line that says none
  steps_reply : IsRequest r → (all : List ℕ) (judged : Result (Unit {0}) CertFault) → IsCertRead (place_formula r) all judged → IsNoneChecked r all (steps_answer brief.NoLayout judged)
  steps_reply is all (Ok done) h = none_told r all is h
  steps_reply is all (Err fault) h = stopped fault h refl

  pub none_is_front : IsRequest r → title ≡ none_word → (steps : WrittenSteps) → steps.formula ≡ place_formula r → steps.lines.now ≡ lines → steps.accepted ≡ brief.NoLayout
      → IsFrontOf (IsNoneTextChecked r) ended text (front.Steps steps)
  none_is_front is none steps formula same accepted = (tt, λ more reply may h. by more reply may h.0 h.1 h.2)
    where
      by : (more : List ℕ) (reply : Reply) → MayFollow ended more → (judged : Result (Unit {0}) CertFault) → IsCertRead steps.formula (steps.lines.now ++ more) judged → reply ≡ steps_answer steps.accepted judged → IsNoneTextChecked r (text ++ more) reply
      by more reply may judged h e =
          let read : IsCertRead (place_formula r) (lines ++ more) judged = subst (λ f. IsCertRead f (lines ++ more) judged) formula (subst (λ l. IsCertRead steps.formula (l ++ more) judged) same h) in
          let right : IsNoneChecked r (lines ++ more) (steps_answer brief.NoLayout judged) = steps_reply is (lines ++ more) judged read in
          let says : SaysNone (text ++ more) (lines ++ more) = subst (λ t. IsFirstLine (text ++ more) t (lines ++ more)) none (first more may) in
          inl (lines ++ more, says, subst (IsNoneChecked r (lines ++ more)) (sym (subst (λ a. reply ≡ steps_answer a judged) accepted e)) right)

  -- another one
  pub other_is_front : (title ≡ none_word → ⊥) → IsFrontOf (IsNoneTextChecked r) ended text (front.Known (brief.CertLine 1))
  other_is_front other = known_front ended (IsNoneTextChecked r) text (brief.CertLine 1)
      (λ more may. inr (λ after says. other (IsFirstLine-unique (text ++ more) _ _ _ _ (first more may) says).0, refl))
