-- What `check-same` answers to what `same` wrote.
use Rattle.std.proofs.Common.{◌≡◌, ◌⊎◌, ℕ, List, ◌∷◌, [], ◌++◌, drop, get_or, Result, Ok, Err, refl, ap, ◌∙◌, subst, inl, inr, arith}
use Rattle.std.specs.Prelude.{Vec, codes}
use Rattle.std.proofs.lemmas.List.{append_assoc}
use Rattle.std.specs.declared.alloc.Global.{Global}
use Rattle.bt_text.specs.Blanks.{SkipsBlanks}
use Rattle.bt_text.proofs.Lacking.{lacks}
use Rattle.bt_net.specs.Network.{Network, IsNetwork}
use Rattle.bt_flow.specs.declared.judgement.Test.{Test}
use Rattle.bt_flow.specs.States.{AreLowest}
use Rattle.bt_log.specs.declared.log.Log.{Log}
use Rattle.bt_log.specs.Logs.{Step}
use Rattle.bt_extend.specs.Texts.{definitions_text}
use Rattle.bt_extend.specs.declared.definition.Definition.{Definition}
use Rattle.bt_same.specs.declared.pair.Pair.{Pair}
use Rattle.bt_same.specs.declared.pair.PairJudgement.{PairJudgement}
use Rattle.bt_same.specs.declared.pair.PairWide.{PairWide}
use Rattle.bt_same.specs.declared.pair.Which.{Which}
use Rattle.bt_same.specs.Judging.{IsPairAnswer}
use Rattle.bt_same.specs.Pairs.{IsTrueOfBoth}
use Rattle.bt_same.specs.PairReading.{IsPairRead}
use Rattle.bt_same.specs.PairText.{printed_pair}
use Rattle.bt_same.specs.Sameness.{HaveEqualEnds, ShowsDifference}
use Rattle.bt_same.proofs.PairTexts.{one_pair_read}
use Rattle.bt_same.proofs.Shown.{shown_pair_is_read, shown_pair_holds}
use Rattle.bt_decide.specs.declared.verdict.SameVerdict.{SameVerdict}
use Rattle.bt_decide.specs.declared.verdict.SameVerdict.TheVariants as of_same
use Rattle.bt_decide.specs.Verdicts.{IsSameVerdict}
use Rattle.bt_decide.proofs.Certified.{same_is_certificate}
use Rattle.bt_print.specs.declared.answer.Answer.TheVariants as answer
use Rattle.bt_print.specs.declared.answer.Brief.TheVariants as brief
use Rattle.bt_print.specs.Answers.{same_text, extended_log_text}
use Rattle.bt_top.specs.Comparing.{same_told}
use Rattle.bt_top.specs.RecheckingPairs.{SameIsChecked, DifferenceIsChecked}
use Rattle.bt_print.specs.Replies.{Reply}
use Rattle.bt_top.specs.SameCertificates.{SaysSame, pair_verdict, IsPairTextJudged, IsSameTextChecked, IsSameCertificateChecked, IsSameCertified}
use Rattle.bt_designs.specs.Steps.{stopped, went_on}
use Rattle.bt_designs.proofs.Blanks.{one_rest}
use Rattle.bt_designs.proofs.Followed.{other_than}
use Rattle.bt_top.proofs.Printed.{no_refusal, few_printed}
use Rattle.bt_designs.proofs.InTurns.{same_value, not_both}
use Rattle.bt_designs.proofs.OnePair.{one_front_nets}
use Rattle.bt_top.proofs.SameCertified.{same_shown}
use Rattle.bt_designs.proofs.TwoFollowed.{AreFollowed, nets_followed}

told_same : (v : SameVerdict) (definitions : Vec Definition Global) (log : Log) → answer.Same definitions log ≡ same_told v → v ≡ of_same.Yes definitions log
told_same (of_same.Yes made found) definitions log e = cc
told_same (of_same.No pair) definitions log e = cc
told_same (of_same.GaveUp made cause) definitions log e = cc

told_differ : (v : SameVerdict) (pair : Pair) → answer.Differ pair ≡ same_told v → v ≡ of_same.No pair
told_differ (of_same.Yes made log) pair e = cc
told_differ (of_same.No found) pair e = cc
told_differ (of_same.GaveUp made cause) pair e = cc

says_same : (definitions : List Definition) (steps : List Step) → SaysSame (same_text definitions steps) (extended_log_text definitions steps)
says_same definitions steps = inl (record { first = lacks 10 (codes "same") refl; text_is = append_assoc (codes "same") (10 ∷ []) (extended_log_text definitions steps) })

-- two designs and the proof that is written of them
pub same_is_checked : SameIsChecked
same_is_checked limits bytes definitions log (stopped fault h e) short = absurd (no_refusal (answer.Same definitions log) fault (λ r same. cc) e)
same_is_checked limits bytes definitions log (went_on nets two (v, is, e)) short =
    let ds = definitions.items in
    let text = same_text ds log.steps in
    let same = told_same v definitions log (same_value (answer.Same definitions log) (same_told v) e) in
    let right : IsSameVerdict nets.0 nets.1 limits (of_same.Yes definitions log) = subst (IsSameVerdict nets.0 nets.1 limits) same is in
    let all = nets_followed bytes text (λ some. other_than 115 (λ x. omega (arith, x)) (λ x. omega (arith, x)) (λ x. omega (arith, x)) (λ x. omega (arith, x))) nets two in
    let few = few_printed bytes (codes "same") (definitions_text ds) log.steps short in
    let certificate = same_is_certificate nets.0 nets.1 ds log.steps all.1 all.2 right.1.0 right.1.1 few in
    went_on (nets, all.0.used) all.0.front
    (text, all.0.rest, inl (extended_log_text ds log.steps, says_same ds log.steps, same_shown nets.0 nets.1 (extended_log_text ds log.steps) all.1 all.2 all.3 certificate))

-- ---- a pair

module _ (nets : Network × Network) (pair : Pair) (reply : Reply) (first : IsNetwork nets.0) (second : IsNetwork nets.1) (ends : HaveEqualEnds nets.0 nets.1)
    (shows : IsTrueOfBoth nets.0 nets.1 pair.first pair.second (ShowsDifference nets.0 nets.1)) (one : AreLowest pair.first) (other : AreLowest pair.second) where
  abbrev Says : Type 0
  Says = (reply ≡ Ok (answer.Brief brief.ShownDiffer)) ⊎ ((which : Which) × (test : Test) × (place : ℕ) × (reply ≡ Ok (answer.Brief (brief.WidePair which test place))))

  judged : (told : Result PairJudgement PairWide) → IsPairAnswer nets.0 nets.1 pair.first pair.second told → reply ≡ Ok (pair_verdict told) → Says
  judged told right e =
      elim (shown_pair_holds nets.0 nets.1 pair.first pair.second told shows right) [
        | inl holds ↦ inl (e ∙ ap (λ t. Ok (pair_verdict t)) holds)
        | inr (wide, is) ↦ inr (wide.place, wide.sum.test, wide.sum.place, e ∙ ap (λ t. Ok (pair_verdict t)) is)
      ]

  -- the text that is printed of the pair is read as it
  read_of : IsPairRead nets.0 nets.1 (printed_pair pair) (Ok pair)
  read_of = shown_pair_is_read nets.0 nets.1 pair first second ends one other shows

  pair_judged : IsPairTextJudged nets (printed_pair pair) reply → Says
  pair_judged (stopped fault h e) = absurd (not_both pair fault (one_pair_read nets.0 nets.1 (printed_pair pair) (Ok pair) (Err fault) read_of h))
  pair_judged (went_on t h (told, right, e)) =
      let same = same_value t pair (one_pair_read nets.0 nets.1 (printed_pair pair) (Ok t) (Ok pair) h read_of) in
      judged told (subst (λ (x : Pair). IsPairAnswer nets.0 nets.1 x.first x.second told) same right) e

  no_same : (lines : List ℕ) → SaysSame (printed_pair pair) lines → ⊥
  no_same lines (inl split) = omega (arith, ap (λ w. get_or w 0 0) split.text_is)
  no_same lines (inr last) = omega (arith, ap (λ w. get_or w 0 0) last.1)

  text_checked : IsSameTextChecked nets (printed_pair pair) reply → Says
  text_checked (inl (lines, says, h)) = absurd (no_same lines says)
  text_checked (inr (none, h)) = pair_judged h

  certificate_checked : (rest : List ℕ) → SkipsBlanks rest (printed_pair pair) → IsSameCertificateChecked nets rest reply → Says
  certificate_checked rest skips (text, others, h) =
      text_checked (subst (λ x. IsSameTextChecked nets x reply) (one_rest rest text (printed_pair pair) others skips) h)

  -- two designs and the pair that is written of them
  certified : (bytes : List ℕ) → AreFollowed bytes (printed_pair pair) nets → IsSameCertified (bytes ++ 10 ∷ printed_pair pair) reply → Says
  certified bytes on (stopped fault h e) = absurd (not_both (nets, on.used) fault (one_front_nets (bytes ++ 10 ∷ printed_pair pair) (Ok (nets, on.used)) (Err fault) on.front h))
  certified bytes on (went_on found h checked) =
      let same = same_value found (nets, on.used) (one_front_nets (bytes ++ 10 ∷ printed_pair pair) (Ok found) (Ok (nets, on.used)) h on.front) in
      let here : IsSameCertificateChecked nets (drop on.used (bytes ++ 10 ∷ printed_pair pair)) reply =
      subst (λ (x : (Network × Network) × ℕ). IsSameCertificateChecked x.0 (drop x.1 (bytes ++ 10 ∷ printed_pair pair)) reply) same checked in
      certificate_checked (drop on.used (bytes ++ 10 ∷ printed_pair pair)) on.rest here

pub difference_is_checked : DifferenceIsChecked
difference_is_checked limits bytes pair reply (stopped fault h e) checked = absurd (no_refusal (answer.Differ pair) fault (λ r same. cc) e)
difference_is_checked limits bytes pair reply (went_on nets two (v, is, e)) checked =
    let same = told_differ v pair (same_value (answer.Differ pair) (same_told v) e) in
    let right : IsSameVerdict nets.0 nets.1 limits (of_same.No pair) = subst (IsSameVerdict nets.0 nets.1 limits) same is in
    let all = nets_followed bytes (printed_pair pair) (λ some. other_than 100 (λ x. omega (arith, x)) (λ x. omega (arith, x)) (λ x. omega (arith, x)) (λ x. omega (arith, x))) nets two in
    certified nets pair reply all.1 all.2 all.3 right.0 right.1 right.2 bytes all.0 checked
