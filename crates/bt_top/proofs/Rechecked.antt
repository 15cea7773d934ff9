-- What `check` answers to what `decide` wrote.
use Rattle.std.proofs.Common.{◌≡◌, ◌⊎◌, ℕ, ◌<◌, List, [], ◌∷◌, ◌++◌, length, drop, get_or, Result, Ok, Err, refl, ap, subst, inl, inr, arith}
use Rattle.std.specs.Prelude.{Vec, codes, slice_index}
use Rattle.std.proofs.lemmas.List.{append_assoc}
use Rattle.std.specs.declared.alloc.Global.{Global}
use Rattle.bt_text.specs.Blanks.{IsBlank, SkipsBlanks}
use Rattle.bt_text.specs.Lines.{Lacks}
use Rattle.bt_net.specs.Network.{Network}
use Rattle.bt_text.proofs.Lacking.{lacks}
use Rattle.bt_flow.specs.declared.property.Property.{Property}
use Rattle.bt_flow.specs.declared.property.Property.TheVariants.{Balanced, DrawnEvenly, Unlimited, Full, Fair, DrawnFairly}
use Rattle.bt_flow.specs.declared.judgement.Test.{Test}
use Rattle.bt_flow.specs.declared.judgement.Judgement.TheVariants.{Passes, Fails}
use Rattle.bt_flow.specs.declared.judgement.Judgement.{Judgement}
use Rattle.bt_flow.specs.declared.judgement.WideSum.{WideSum}
use Rattle.bt_flow.specs.Judging.{IsBreakingAnswer}
use Rattle.bt_flow.specs.Names.{property_name}
use Rattle.bt_flow.specs.Properties.{Breaks}
use Rattle.bt_flow.specs.States.{Fractions, AreLowest, IsTrueOf}
use Rattle.bt_flow.specs.StateReading.{IsStateRead}
use Rattle.bt_flow.specs.StateText.{printed_state}
use Rattle.bt_flow.proofs.Fitting.{state_fits}
use Rattle.bt_flow.proofs.OneAnswer.{breaks_pass}
use Rattle.bt_flow.proofs.Printed.{printed_is_read}
use Rattle.bt_flow.proofs.StateTexts.{one_state_read}
use Rattle.bt_log.specs.declared.log.Log.{Log}
use Rattle.bt_log.specs.Logs.{Step}
use Rattle.bt_extend.specs.Texts.{definitions_text}
use Rattle.bt_extend.specs.declared.definition.Definition.{Definition}
use Rattle.bt_decide.specs.declared.verdict.Verdict.{Verdict}
use Rattle.bt_decide.specs.declared.verdict.Verdict.TheVariants as verdict
use Rattle.bt_decide.specs.Verdicts.{IsVerdict}
use Rattle.bt_decide.proofs.Certified.{yes_is_certificate}
use Rattle.bt_print.specs.declared.answer.Answer.TheVariants as answer
use Rattle.bt_print.specs.declared.answer.Brief.TheVariants as brief
use Rattle.bt_designs.specs.Alone.{IsLoneNet}
use Rattle.bt_print.specs.Answers.{proved_text, extended_log_text}
use Rattle.bt_top.specs.Certificates.{SaysYes, IsTextChecked, IsCertificateChecked, IsChecked}
use Rattle.bt_top.specs.Deciding.{verdict_told}
use Rattle.bt_designs.specs.Designs.{IsDesign}
use Rattle.bt_top.specs.Rechecking.{ProofIsChecked, StateIsChecked}
use Rattle.bt_print.specs.Replies.{Reply}
use Rattle.bt_top.specs.States.{verdict as state_verdict, IsStateJudged}
use Rattle.bt_designs.specs.Steps.{stopped, went_on}
use Rattle.bt_designs.proofs.Blanks.{one_rest}
use Rattle.bt_top.proofs.Certified.{yes_told}
use Rattle.bt_designs.proofs.InTurns.{same_value, not_both}
use Rattle.bt_designs.proofs.LongerDesigns.{design_stays, design_within}
use Rattle.bt_designs.proofs.Followed.{IsFollowed, is_followed, stands_alone, other_than}
use Rattle.bt_top.proofs.Printed.{no_refusal, few_printed}
use Rattle.bt_designs.proofs.OneDesign.{one_design, design_network}

-- ---- a design alone, and what follows it

followed : (bytes text : List ℕ) (n : Network) → (0 < length text → IsBlank (slice_index text 0) → ⊥) → IsLoneNet bytes (Ok n) → IsFollowed IsDesign bytes text n
followed bytes text n starts lone =
    let alone = stands_alone IsDesign bytes n lone in
    is_followed IsDesign bytes text n starts alone.used alone.front (design_within bytes n alone.used alone.front) alone.blanks (design_stays bytes n alone.used alone.front)

-- ---- a proof

told_yes : (p : Property) (v : Verdict) (definitions : Vec Definition Global) (log : Log) → answer.Proved p definitions log ≡ verdict_told p v → v ≡ verdict.Yes definitions log
told_yes p (verdict.Yes made found) definitions log e = cc
told_yes p (verdict.No state) definitions log e = cc
told_yes p (verdict.GaveUp made cause) definitions log e = cc

told_no : (p : Property) (v : Verdict) (state : Fractions) → answer.Broken p state ≡ verdict_told p v → v ≡ verdict.No state
told_no p (verdict.Yes made found) state e = cc
told_no p (verdict.No found) state e = cc
told_no p (verdict.GaveUp made cause) state e = cc

yes_lacks : (p : Property) → Lacks 10 (codes "yes " ++ property_name p)
yes_lacks Balanced = lacks 10 (codes "yes balanced") refl
yes_lacks DrawnEvenly = lacks 10 (codes "yes drawn-evenly") refl
yes_lacks Unlimited = lacks 10 (codes "yes unlimited") refl
yes_lacks Full = lacks 10 (codes "yes full") refl
yes_lacks Fair = lacks 10 (codes "yes fair") refl
yes_lacks DrawnFairly = lacks 10 (codes "yes drawn-fairly") refl

says_yes : (p : Property) (definitions : List Definition) (steps : List Step) → SaysYes p (proved_text p definitions steps) (extended_log_text definitions steps)
says_yes p definitions steps =
    inl (record { first = yes_lacks p; text_is = append_assoc (codes "yes " ++ property_name p) (10 ∷ []) (extended_log_text definitions steps) })

-- a design and the proof that is written of it
pub proof_is_checked : ProofIsChecked
proof_is_checked p limits bytes definitions log (stopped fault h e) short = absurd (no_refusal (answer.Proved p definitions log) fault (λ r same. cc) e)
proof_is_checked p limits bytes definitions log (went_on n lone (v, is, e)) short =
    let ds = definitions.items in
    let text = proved_text p ds log.steps in
    let same = told_yes p v definitions log (same_value (answer.Proved p definitions log) (verdict_told p v) e) in
    let right : IsVerdict n p limits (verdict.Yes definitions log) = subst (IsVerdict n p limits) same is in
    let on = followed bytes text n (λ some. other_than 121 (λ x. omega (arith, x)) (λ x. omega (arith, x)) (λ x. omega (arith, x)) (λ x. omega (arith, x))) lone in
    let net = design_network (bytes ++ 10 ∷ text) (n, on.used) on.front in
    let few = few_printed bytes (codes "yes " ++ property_name p) (definitions_text ds) log.steps short in
    let certificate = yes_is_certificate n p ds log.steps net right.1.0 right.1.1 few in
    went_on (n, on.used) on.front (text, on.rest, inl (extended_log_text ds log.steps, says_yes p ds log.steps, yes_told n p (extended_log_text ds log.steps) net certificate))

-- ---- a state

module _ (n : Network) (p : Property) (state : Fractions) (reply : Reply) (breaks : IsTrueOf n state (Breaks n p)) (lowest : AreLowest state) where
  abbrev Says : Type 0
  Says = (reply ≡ Ok (answer.Brief (brief.No p))) ⊎ ((test : Test) × (place : ℕ) × (reply ≡ Ok (answer.Brief (brief.WideState test place))))

  judged : (told : Result Judgement WideSum) → IsBreakingAnswer n p state told → reply ≡ Ok (answer.Brief (state_verdict (brief.No p) told)) → Says
  judged (Ok Passes) h e = inl e
  judged (Ok (Fails test place)) h e =
      let s = breaks.some.0 in
      let first = h.0.each s breaks.some.1 in
      absurd (first.fails (breaks_pass n p s (breaks.each s breaks.some.1) test place first.place))
  judged (Err wide) h e = inr (wide.test, wide.place, e)

  -- the text that is printed of the state is read as it
  read_of : IsStateRead n p (printed_state p state) (Ok state)
  read_of = printed_is_read n p state lowest (state_fits n state breaks.some.0 breaks.some.1)

  state_judged : IsStateJudged n p (brief.No p) (printed_state p state) reply → Says
  state_judged (stopped fault h e) = absurd (not_both state fault (one_state_read n p (printed_state p state) (Ok state) (Err fault) read_of h))
  state_judged (went_on t h (told, right, e)) =
      let same = same_value t state (one_state_read n p (printed_state p state) (Ok t) (Ok state) h read_of) in
      judged told (subst (λ x. IsBreakingAnswer n p x told) same right) e

  no_yes : (lines : List ℕ) → SaysYes p (printed_state p state) lines → ⊥
  no_yes lines (inl split) = omega (arith, ap (λ w. get_or w 0 0) split.text_is)
  no_yes lines (inr last) = omega (arith, ap (λ w. get_or w 0 0) last.1)

  text_checked : IsTextChecked n p (printed_state p state) reply → Says
  text_checked (inl (lines, says, h)) = absurd (no_yes lines says)
  text_checked (inr (none, h)) = state_judged h

  -- what is answered to the state behind a design
  pub certificate_checked : (rest : List ℕ) → SkipsBlanks rest (printed_state p state) → IsCertificateChecked n p rest reply → Says
  certificate_checked rest skips (text, others, h) =
      text_checked (subst (λ x. IsTextChecked n p x reply) (one_rest rest text (printed_state p state) others skips) h)

-- a design and the state that is written of it
module _ (p : Property) (bytes : List ℕ) (state : Fractions) (reply : Reply) (n : Network) (breaks : IsTrueOf n state (Breaks n p)) (lowest : AreLowest state)
    (on : IsFollowed IsDesign bytes (printed_state p state) n) where
  certified : IsChecked p (bytes ++ 10 ∷ printed_state p state) reply → (reply ≡ Ok (answer.Brief (brief.No p))) ⊎ ((test : Test) × (place : ℕ) × (reply ≡ Ok (answer.Brief (brief.WideState test place))))
  certified (stopped fault h e) = absurd (not_both (n, on.used) fault (one_design (bytes ++ 10 ∷ printed_state p state) (Ok (n, on.used)) (Err fault) on.front h))
  certified (went_on found h checked) =
      let same = same_value found (n, on.used) (one_design (bytes ++ 10 ∷ printed_state p state) (Ok found) (Ok (n, on.used)) h on.front) in
      let here : IsCertificateChecked n p (drop on.used (bytes ++ 10 ∷ printed_state p state)) reply =
      subst (λ (x : Network × ℕ). IsCertificateChecked x.0 p (drop x.1 (bytes ++ 10 ∷ printed_state p state)) reply) same checked in
      certificate_checked n p state reply breaks lowest (drop on.used (bytes ++ 10 ∷ printed_state p state)) on.rest here

pub state_is_checked : StateIsChecked
state_is_checked p limits bytes state reply (stopped fault h e) checked = absurd (no_refusal (answer.Broken p state) fault (λ r same. cc) e)
state_is_checked p limits bytes state reply (went_on n lone (v, is, e)) checked =
    let same = told_no p v state (same_value (answer.Broken p state) (verdict_told p v) e) in
    let right : IsVerdict n p limits (verdict.No state) = subst (IsVerdict n p limits) same is in
    let on = followed bytes (printed_state p state) n (λ some. other_than 110 (λ x. omega (arith, x)) (λ x. omega (arith, x)) (λ x. omega (arith, x)) (λ x. omega (arith, x))) lone in
    certified p bytes state reply n right.0 right.1 on checked
