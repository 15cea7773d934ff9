-- What `check-layout` answers to what `layout` wrote.
use Rattle.std.proofs.Common.{◌≡◌, ℕ, ◌≤◌, List, [], ◌∷◌, ◌++◌, length, Ok, Option, refl, subst, inl, inr, arith}
use Rattle.bt_parts.specs.declared.part.Rect.{Rect}
use Rattle.bt_parts.specs.declared.part.Tier.{Tier}
use Rattle.bt_log.specs.declared.log.Log.{Log}
use Rattle.bt_log.specs.LogText.{log_text}
use Rattle.bt_model.specs.Requests.{LayoutRequest}
use Rattle.bt_theory.specs.declared.outcome.GaveUp.TheVariants as gave
use Rattle.bt_grids.specs.declared.outcome.Layout.{Layout}
use Rattle.bt_grids.specs.declared.outcome.Layout.TheVariants as layout
use Rattle.bt_layout.specs.Layouts.{IsLayout}
use Rattle.bt_layout.proofs.Certified.{nowhere_is_certificate}
use Rattle.bt_print.specs.declared.answer.Answer.TheVariants as answer
use Rattle.bt_print.specs.declared.answer.Brief.TheVariants as brief
use Rattle.bt_designs.specs.declared.held.TheConstants.{MOST_CHECKED}
use Rattle.bt_print.specs.Answers.{none_word, nowhere_text}
use Rattle.bt_top.specs.LayingOut.{IsLaidOut, IsLayoutTold}
use Rattle.bt_top.specs.NoneCertificates.{IsLayoutChecked}
use Rattle.bt_top.specs.RecheckingLayouts.{NoneIsChecked}
use Rattle.bt_designs.specs.Requested.{PinnedNet, IsPinned, IsRequestFor, IsFrontRequest}
use Rattle.bt_designs.specs.Steps.{stopped, went_on}
use Rattle.bt_designs.proofs.Followed.{IsFollowed, is_followed, stands_alone, other_than}
use Rattle.bt_top.proofs.Printed.{no_refusal, few_printed}
use Rattle.bt_designs.proofs.InTurns.{same_value, not_both}
use Rattle.bt_designs.proofs.LongerRequests.{pinned_stays, pinned_within}
use Rattle.bt_top.proofs.NoneCertified.{says_none, none_told}
use Rattle.bt_designs.proofs.OneRequest.{front_request}

told_nowhere : (r : LayoutRequest) (found : Layout) (log : Log) → IsLayoutTold r found (Ok (answer.Nowhere log)) → found ≡ layout.Nowhere log
told_nowhere r (layout.Found parts) log (priorities, lays, again, e) = let same = same_value (answer.Nowhere log) (answer.LaidOut parts priorities) e in cc
told_nowhere r (layout.Nowhere other) log e = let same = same_value (answer.Nowhere log) (answer.Nowhere other) e in cc
told_nowhere r (layout.Spent other) log e = let same = same_value (answer.Nowhere log) (answer.GaveUp (gave.Spent other)) e in cc

module _ (rect : Rect) (tier : Option Tier) (learnt : ℕ) (bytes : List ℕ) (log : Log) (short : length (bytes ++ 10 ∷ nowhere_text log.steps) ≤ MOST_CHECKED) where
  -- what follows the request is the certificate
  pub certificate_follows : (n : PinnedNet) (r : LayoutRequest) → IsFollowed IsPinned bytes (nowhere_text log.steps) n → IsRequestFor rect tier n (Ok r)
      → IsLayout r learnt (layout.Nowhere log) → IsLayoutChecked rect tier (bytes ++ 10 ∷ nowhere_text log.steps) (Ok (answer.Brief brief.NoLayout))
  certificate_follows n r on made right =
      let front : IsFrontRequest rect tier (bytes ++ 10 ∷ nowhere_text log.steps) (Ok (r, on.used)) = went_on (n, on.used) on.front (Ok r, made, refl) in
      let is = front_request rect tier (bytes ++ 10 ∷ nowhere_text log.steps) (r, on.used) front in
      let certificate = nowhere_is_certificate r log.steps is right.2 (few_printed bytes none_word [] log.steps short) in
      went_on (r, on.used) front (inl (right.0, (nowhere_text log.steps, on.rest, inl (log_text log.steps, says_none log.steps, none_told r (log_text log.steps) is certificate))))

  none_checked : (n : PinnedNet) (r : LayoutRequest) → IsFollowed IsPinned bytes (nowhere_text log.steps) n → IsRequestFor rect tier n (Ok r) → IsLaidOut learnt r (Ok (answer.Nowhere log))
      → IsLayoutChecked rect tier (bytes ++ 10 ∷ nowhere_text log.steps) (Ok (answer.Brief brief.NoLayout))
  none_checked n r on made (inr (none, e)) = absurd (let same = same_value (answer.Nowhere log) answer.NotFound e in cc)
  none_checked n r on made (inl (found, right, told)) =
      let same = told_nowhere r found log told in
      certificate_follows n r on made (subst (IsLayout r learnt) same right)

-- a request and what is written where it has no layout
pub none_is_checked : NoneIsChecked
none_is_checked rect tier learnt bytes log (stopped fault h e) short = absurd (no_refusal (answer.Nowhere log) fault (λ r same. cc) e)
none_is_checked rect tier learnt bytes log (went_on r (stopped fault h e) laid) short = absurd (not_both r fault e)
none_is_checked rect tier learnt bytes log (went_on r (went_on n alone made) laid) short =
    let front = stands_alone IsPinned bytes n alone in
    let on = is_followed IsPinned bytes (nowhere_text log.steps) n (λ some. other_than 110 (λ x. omega (arith, x)) (λ x. omega (arith, x)) (λ x. omega (arith, x)) (λ x. omega (arith, x)))
    front.used front.front (pinned_within bytes n front.used front.front) front.blanks (pinned_stays bytes n front.used front.front) in
    none_checked rect tier learnt bytes log short n r on made laid
