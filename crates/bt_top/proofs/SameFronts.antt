-- What the front of an input tells of the answer of `check-same`.
use Rattle.std.proofs.Common.{◌≡◌, ℕ, ◌+◌, ◌-◌, Bool, List, ◌++◌, Result, Ok, Err, drop, take, length, inl, inr, refl, ap, sym, ◌∙◌, subst, codes, arith, length-append}
use Rattle.std.proofs.lemmas.List.{append_assoc, take-append-drop}
use Rattle.bt_text.specs.Blanks.{SkipsBlanks}
use Rattle.bt_text.specs.Lines.{IsFirstLine}
use Rattle.bt_text.proofs.FirstLines.{IsFirstLine-unique}
use Rattle.bt_net.specs.Network.{Network, IsNetwork}
use Rattle.bt_flow.specs.StateLines.{just}
use Rattle.bt_flow.specs.declared.fault.StateFault.TheVariants as state
use Rattle.bt_flow.proofs.WrongLines.{stop_first}
use Rattle.bt_cert.specs.Certificates.{IsCertRead}
use Rattle.bt_cert.specs.declared.fault.CertFault.{CertFault}
use Rattle.bt_same.specs.PairReading.{pair_forms}
use Rattle.bt_same.specs.SameFormula.{same_formula}
use Rattle.bt_same.specs.Sameness.{HaveEqualEnds}
use Rattle.bt_print.specs.declared.answer.Answer.TheVariants as answer
use Rattle.bt_print.specs.declared.answer.Brief.TheVariants as brief
use Rattle.bt_designs.specs.declared.fault.DesignFault.TheVariants.{Refused}
use Rattle.bt_top.specs.declared.front.Front.TheVariants as front
use Rattle.bt_top.specs.declared.front.WrittenSteps.{WrittenSteps}
use Rattle.bt_top.specs.declared.front.WrittenPair.{WrittenPair}
use Rattle.bt_designs.specs.declared.refusal.Refusal.{Refusal}
use Rattle.bt_designs.specs.Designs.{IsBareDesign}
use Rattle.bt_print.specs.Replies.{Reply}
use Rattle.bt_top.specs.SameCertificates.{IsSameCertified, IsSameCertificateChecked, IsSameTextChecked, IsSameChecked, IsPairTextJudged, SaysSame}
use Rattle.bt_designs.specs.Steps.{stopped, went_on}
use Rattle.bt_designs.specs.Told.{MayFollow, TellsLine}
use Rattle.bt_top.specs.inner.Fronts.{IsFrontOf, steps_answer}
use Rattle.bt_top.specs.inner.PairParts.{IsBehindFirstChecked, IsSecondChecked}
use Rattle.bt_top.proofs.Fronts.{known_front, line_cuts, line_goes}
use Rattle.bt_top.proofs.SameCertified.{same_shown}
use Rattle.bt_designs.proofs.TwoFollowed.{drop_past}

-- ---- the designs

-- a refusal of the first design
pub first_refused : (all : List ℕ) (r : Refusal) → IsBareDesign all (Err (Refused r)) → IsSameCertified all (Ok (answer.Brief (brief.Refused r)))
first_refused all r h = stopped (Refused r) (stopped (Refused r) h refl) refl

module _ (whole text : List ℕ) (used : ℕ) (skips : SkipsBlanks (drop used whole) text) where
  abbrev before : ℕ
  before = length whole - length text

  parts : whole ≡ (take used whole ++ skips.blanks) ++ text
  parts = sym (take-append-drop used whole) ∙ ap (λ l. take used whole ++ l) skips.text_is ∙ sym (append_assoc (take used whole) skips.blanks text)

  long : before ≡ length (take used whole ++ skips.blanks)
  long =
      let e = ap length parts in
      let l = length-append (take used whole ++ skips.blanks) text in
      omega (arith, e, l)

  -- what follows so many bytes of the text
  dropped : (k : ℕ) → drop (before + k) whole ≡ drop k text
  dropped k = ap (λ l. drop (before + k) l) parts ∙ drop_past (take used whole ++ skips.blanks) text k (before + k) (let e = long in omega (arith, e))

  -- what is answered to the text with the second design is answered to the whole
  pub second_goes : (a : Network) (reply : Reply) → IsBareDesign whole (Ok (a, used)) → IsSecondChecked a text reply → IsSameCertified whole reply
  second_goes a reply first (stopped fault k e) = stopped fault (went_on (a, used) first (text, skips, stopped fault k refl)) e
  second_goes a reply first (went_on second k (stopped fault p e)) =
      stopped fault (went_on (a, used) first (text, skips, went_on second k (Err fault, p, refl))) e
  second_goes a reply first (went_on second k (went_on nets p h)) =
      went_on (nets, before + second.1) (went_on (a, used) first (text, skips, went_on second k (Ok nets, p, refl)))
      (subst (λ rest. IsSameCertificateChecked nets rest reply) (sym (dropped second.1)) h)

-- what is answered behind a first design
pub first_goes : (all : List ℕ) (found : Network × ℕ) (reply : Reply) → IsBareDesign all (Ok found) → IsBehindFirstChecked found.0 (drop found.1 all) reply → IsSameCertified all reply
first_goes all found reply first (text, skips, h) = second_goes all text found.1 skips found.0 reply first h

-- ---- the certificate

module _ (a b : Network) (ended : Bool) (text title lines : List ℕ) (told : TellsLine ended text title lines) where
  first : (more : List ℕ) → MayFollow ended more → IsFirstLine (text ++ more) title (lines ++ more)
  first more may = line_goes ended text title lines more told may

  abbrev nets : Network × Network
  nets = (a, b)

  -- a first line that says same
  steps_reply : IsNetwork a → IsNetwork b → HaveEqualEnds a b → (all : List ℕ) (judged : Result (Unit {0}) CertFault) → IsCertRead (same_formula a b) all judged
      → IsSameChecked nets all (steps_answer brief.ShownSame judged)
  steps_reply left right ends all (Ok done) h = same_shown a b all left right ends h
  steps_reply left right ends all (Err fault) h = stopped fault h refl

  pub same_is_front : IsNetwork a × IsNetwork b → HaveEqualEnds a b → title ≡ codes "same" → (steps : WrittenSteps) → steps.formula ≡ same_formula a b → steps.lines.now ≡ lines → steps.accepted ≡ brief.ShownSame
      → IsFrontOf (IsSameTextChecked nets) ended text (front.Steps steps)
  same_is_front are ends says_so steps formula same accepted = (tt, λ more reply may h. by more reply may h.0 h.1 h.2)
    where
      by : (more : List ℕ) (reply : Reply) → MayFollow ended more → (judged : Result (Unit {0}) CertFault) → IsCertRead steps.formula (steps.lines.now ++ more) judged → reply ≡ steps_answer steps.accepted judged → IsSameTextChecked nets (text ++ more) reply
      by more reply may judged h e =
          let read : IsCertRead (same_formula a b) (lines ++ more) judged = subst (λ f. IsCertRead f (lines ++ more) judged) formula (subst (λ l. IsCertRead steps.formula (l ++ more) judged) same h) in
          let right : IsSameChecked nets (lines ++ more) (steps_answer brief.ShownSame judged) = steps_reply are.0 are.1 ends (lines ++ more) judged read in
          let says : SaysSame (text ++ more) (lines ++ more) = subst (λ t. IsFirstLine (text ++ more) t (lines ++ more)) says_so (first more may) in
          inl (lines ++ more, says, subst (IsSameChecked nets (lines ++ more)) (sym (subst (λ x. reply ≡ steps_answer x judged) accepted e)) right)

  -- another line doesn't say so
  says_other : (title ≡ codes "same" → ⊥) → (more after : List ℕ) → MayFollow ended more → SaysSame (text ++ more) after → ⊥
  says_other not_same more after may says = not_same (IsFirstLine-unique (text ++ more) _ _ _ _ (first more may) says).0

  -- a written pair
  pub pair_is_front : HaveEqualEnds a b → (title ≡ codes "same" → ⊥) → (w : WrittenPair) → w.first ≡ a → w.second ≡ b → w.text.now ≡ text → IsFrontOf (IsSameTextChecked nets) ended text (front.Pair w)
  pair_is_front ends not_same w one two same = (
    subst (λ n. HaveEqualEnds n w.second) (sym one) (subst (HaveEqualEnds a) (sym two) ends),
    λ more reply may h.
        inr (
          λ after says. says_other not_same more after may says,
          subst (λ t. IsPairTextJudged nets (t ++ more) reply) same
              (subst (λ n. IsPairTextJudged (a, n) (w.text.now ++ more) reply) two (subst (λ m. IsPairTextJudged (m, w.second) (w.text.now ++ more) reply) one h)),
        ),
  )

  -- another one than that and that of a written pair
  pub other_is_front : (title ≡ codes "same" → ⊥) → (title ≡ codes "differ" → ⊥) → IsFrontOf (IsSameTextChecked nets) ended text (front.Known (brief.CertLine 1))
  other_is_front not_same not_differ = known_front ended (IsSameTextChecked nets) text (brief.CertLine 1)
      (λ more may.
      let cut = line_cuts (text ++ more) title (lines ++ more) (first more may) in
      inr (
        λ after says. says_other not_same more after may says,
        stopped (state.CertLine 1) (stop_first (pair_forms a b) (text ++ more) (just (codes "differ")) _ title cut.0 refl cut.1 not_differ) refl,
      ))
