-- What the front of an input tells of the answer of `check`.
use Rattle.std.proofs.Common.{◌≡◌, ℕ, Bool, List, ◌++◌, Result, Ok, Err, inl, inr, refl, sym, subst, codes}
use Rattle.bt_text.specs.Lines.{IsFirstLine}
use Rattle.bt_text.proofs.FirstLines.{IsFirstLine-unique}
use Rattle.bt_net.specs.Network.{Network, IsNetwork}
use Rattle.bt_flow.specs.declared.property.Property.{Property}
use Rattle.bt_flow.specs.Names.{property_name}
use Rattle.bt_flow.specs.StateLines.{forms, just}
use Rattle.bt_flow.proofs.WrongLines.{stop_first}
use Rattle.bt_flow_formula.specs.FlowFormula.{flow_formula}
use Rattle.bt_cert.specs.Certificates.{IsCertRead}
use Rattle.bt_cert.specs.declared.fault.CertFault.{CertFault}
use Rattle.bt_print.specs.declared.answer.Brief.TheVariants as brief
use Rattle.bt_flow.specs.declared.fault.StateFault.TheVariants as state
use Rattle.bt_top.specs.declared.front.Front.TheVariants as front
use Rattle.bt_top.specs.declared.front.WrittenSteps.{WrittenSteps}
use Rattle.bt_top.specs.declared.front.WrittenState.{WrittenState}
use Rattle.bt_top.specs.Certificates.{IsTextChecked, IsYesChecked, SaysYes}
use Rattle.bt_print.specs.Replies.{Reply}
use Rattle.bt_top.specs.States.{IsStateJudged}
use Rattle.bt_designs.specs.Steps.{stopped}
use Rattle.bt_designs.specs.Told.{MayFollow, TellsLine}
use Rattle.bt_top.specs.inner.Fronts.{IsFrontOf, steps_answer}
use Rattle.bt_top.proofs.Certified.{yes_told}
use Rattle.bt_top.proofs.Fronts.{known_front, line_cuts, line_goes}

module _ (n : Network) (p : Property) (ended : Bool) (text title lines : List ℕ) (told : TellsLine ended text title lines) where
  first : (more : List ℕ) → MayFollow ended more → IsFirstLine (text ++ more) title (lines ++ more)
  first more may = line_goes ended text title lines more told may

  -- a first line that says yes
  steps_reply : IsNetwork n → (all : List ℕ) (judged : Result (Unit {0}) CertFault) → IsCertRead (flow_formula n p) all judged → IsYesChecked n p all (steps_answer (brief.Yes p) judged)
  steps_reply net all (Ok done) h = yes_told n p all net h
  steps_reply net all (Err fault) h = stopped fault h refl

  pub yes_is_front : IsNetwork n → title ≡ codes "yes " ++ property_name p → (steps : WrittenSteps) → steps.formula ≡ flow_formula n p → steps.lines.now ≡ lines → steps.accepted ≡ brief.Yes p
      → IsFrontOf (IsTextChecked n p) ended text (front.Steps steps)
  yes_is_front net says_so steps formula same accepted = (tt, λ more reply may h. by more reply may h.0 h.1 h.2)
    where
      by : (more : List ℕ) (reply : Reply) → MayFollow ended more → (judged : Result (Unit {0}) CertFault) → IsCertRead steps.formula (steps.lines.now ++ more) judged → reply ≡ steps_answer steps.accepted judged → IsTextChecked n p (text ++ more) reply
      by more reply may judged h e =
          let read : IsCertRead (flow_formula n p) (lines ++ more) judged = subst (λ f. IsCertRead f (lines ++ more) judged) formula (subst (λ l. IsCertRead steps.formula (l ++ more) judged) same h) in
          let right : IsYesChecked n p (lines ++ more) (steps_answer (brief.Yes p) judged) = steps_reply net (lines ++ more) judged read in
          let says : SaysYes p (text ++ more) (lines ++ more) = subst (λ t. IsFirstLine (text ++ more) t (lines ++ more)) says_so (first more may) in
          inl (lines ++ more, says, subst (IsYesChecked n p (lines ++ more)) (sym (subst (λ a. reply ≡ steps_answer a judged) accepted e)) right)

  -- another line doesn't say so
  says_other : (title ≡ codes "yes " ++ property_name p → ⊥) → (more after : List ℕ) → MayFollow ended more → SaysYes p (text ++ more) after → ⊥
  says_other not_yes more after may says = not_yes (IsFirstLine-unique (text ++ more) _ _ _ _ (first more may) says).0

  -- a written state
  pub state_is_front : (title ≡ codes "yes " ++ property_name p → ⊥) → (w : WrittenState) → w.net ≡ n → w.property ≡ p → w.text.now ≡ text → IsFrontOf (IsTextChecked n p) ended text (front.State w)
  state_is_front not_yes w net property same = (
    tt,
    λ more reply may h.
        inr (
          λ after says. says_other not_yes more after may says,
          subst (λ t. IsStateJudged n p (brief.No p) (t ++ more) reply) same
              (subst (λ q. IsStateJudged n q (brief.No q) (w.text.now ++ more) reply) property (subst (λ m. IsStateJudged m w.property (brief.No w.property) (w.text.now ++ more) reply) net h)),
        ),
  )

  -- another one than that and that of a written state
  pub other_is_front : (title ≡ codes "yes " ++ property_name p → ⊥) → (title ≡ codes "no " ++ property_name p → ⊥) → IsFrontOf (IsTextChecked n p) ended text (front.Known (brief.CertLine 1))
  other_is_front not_yes not_no = known_front ended (IsTextChecked n p) text (brief.CertLine 1)
      (λ more may.
      let cut = line_cuts (text ++ more) title (lines ++ more) (first more may) in
      inr (
        λ after says. says_other not_yes more after may says,
        stopped (state.CertLine 1) (stop_first (forms n p) (text ++ more) (just (codes "no " ++ property_name p)) _ title cut.0 refl cut.1 not_no) refl,
      ))
