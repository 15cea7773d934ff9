-- What is told of what was found, and of how many steps were taken.
use Rattle.std.proofs.Common.{◌≡◌, inl, inr, ℕ, ◌+◌, ◌-◌, ◌^◌, ◌<◌, ◌≤◌, List, get_or, length, Option, Some, None, sym, ap, subst, ◌∙◌, arith}
use Rattle.std.specs.Prelude.{IfSome, Vec}
use Rattle.std.specs.declared.alloc.Global.{Global}
use Rattle.std.proofs.lemmas.Option.{slice_get-get_or, slice_get_within}
use Rattle.bt_log.specs.Logs.{LogParts}
use Rattle.bt_parts.specs.declared.part.Part.{Part}
use Rattle.bt_model.specs.Requests.{LayoutRequest}
use Rattle.bt_grids.specs.declared.outcome.Early.TheVariants as early
use Rattle.bt_grids.specs.declared.outcome.Layout.TheVariants.{Found, Nowhere, Spent}
use Rattle.bt_layout.specs.declared.progress.Laid.{Laid}
use Rattle.bt_layout.specs.declared.progress.Progress.{Progress}
use Rattle.bt_layout.specs.declared.searching.Searched.{Searched}
use Rattle.bt_layout.specs.Early.{AreRefuted, IsEarly, IsLaid, IsRefuted}
use Rattle.bt_layout.specs.inner.Ends.{IsSought}
use Rattle.bt_layout.specs.inner.Progressing.{ArePaid, ArePassed, HasLog, IsEnded, IsProgress, IsWhole, lesser_from, lesser_of}
use Rattle.bt_layout.proofs.Through.{all_left, refuted_at, refuted_by_more}

-- a layout that was found is told
pub told_laid : (requests : List LayoutRequest) (learnt : ℕ) (progress : Progress) (laid : Laid) → progress.found ≡ Some laid → IsProgress requests learnt progress
    → IsEarly requests learnt (early.Laid laid.place laid.parts)
told_laid requests learnt progress laid is all = subst (λ found. IfSome found (λ (one : Laid). IsLaid requests one.place one.parts)) is all.found

-- or that none was
pub told_spent : (requests : List LayoutRequest) (learnt : ℕ) (progress : Progress) → progress.found ≡ None → IsProgress requests learnt progress → ArePassed requests learnt 0 progress
    → IsEarly requests learnt (early.Spent progress.steps)
told_spent requests learnt progress is all passed = record {
  few = all.few;
  none = λ less. elim passed [
    | inl every ↦ absurd (omega (arith, every, less))
    | inr refuted ↦ all_left requests progress.steps (subst (λ found. AreRefuted (lesser_from requests 0 found) progress.steps) is refuted)
  ];
}

module _ (requests : List LayoutRequest) (learnt : ℕ) (progress : Progress) (place : ℕ) (searched : Searched) (is : IsEnded requests learnt progress place searched) where
  -- the steps of the search of a placement formula are paid
  pub ended_paid : ArePaid learnt progress.steps searched.steps
  ended_paid =
      let few = is.whole.few in
      let left = is.left in
      record { few = omega (arith, few, left); limit = is.limit }

  -- parts that were found lay the request
  pub ended_laid : (parts : Vec Part Global) → searched.layout ≡ Found parts → IsLaid requests place parts
  ended_laid parts found =
      let layout : IsSought is.request is.most (Found parts) = subst (IsSought is.request is.most) found is.whole.layout in
      record { request = is.request; at_place = is.is; lays = layout.0; in_order = layout.1 }

  module _ (new : Progress) (before : place < lesser_of (length requests) progress.found) (found : new.found ≡ progress.found) (more : new.steps ≡ progress.steps + searched.steps)
      (passed : ArePassed requests learnt (place + 1) progress) where
    -- where no parts lay the request, those before it are left
    pub passed_by_log : (log : LogParts) → searched.layout ≡ Nowhere log → ArePassed requests learnt place new
    passed_by_log log nowhere =
        let layout : IsSought is.request is.most (Nowhere log) = subst (IsSought is.request is.most) nowhere is.whole.layout in
        let few : length log.steps ≤ searched.steps = subst (λ l. HasLog l searched.steps) nowhere is.whole.has_log in
        let refuted : IsRefuted is.request log.steps = record { none = layout.0; refuted = layout.1 } in
        let size : progress.steps + length log.steps ≤ new.steps = omega (arith, few, more) in
        let paid = ended_paid.few in
        elim passed [
          | inl every ↦ inl (omega (arith, every, more, paid))
          | inr are ↦ inr (subst (λ one. AreRefuted (lesser_from requests place one) new.steps) (sym found)
              (refuted_by_more (lesser_from requests place progress.found) (progress.steps + length log.steps) new.steps size
              (refuted_at requests (lesser_of (length requests) progress.found) place progress.steps is.request log.steps before is.is refuted are)))
        ]

    -- where all steps that are left were taken, none is left
    pub passed_by_steps : (log : LogParts) → searched.layout ≡ Spent log → ArePassed requests learnt place new
    passed_by_steps log spent =
        let layout : IsSought is.request is.most (Spent log) = subst (IsSought is.request is.most) spent is.whole.layout in
        let same : length log.steps ≡ searched.steps = subst (λ l. HasLog l searched.steps) spent is.whole.has_log in
        let size : searched.steps ≡ is.most = sym same ∙ layout.full in
        let left = is.left in
        inl (omega (arith, more, size, left))

-- no more requests are lesser than there are
pub lesser_within : (requests : List LayoutRequest) (found : Option Laid) → IfSome found (λ (laid : Laid). IsLaid requests laid.place laid.parts)
    → lesser_of (length requests) found ≤ length requests
lesser_within requests (Some laid) is = let inside = slice_get_within requests laid.place is.request is.at_place in omega (arith, inside)
lesser_within requests None is = omega arith

-- what the search of a placement formula came to, of the request at a place
pub ended_at : (requests : List LayoutRequest) (learnt : ℕ) (progress : Progress) (place most : ℕ) (request : LayoutRequest) (searched : Searched) → IsProgress requests learnt progress
    → place < lesser_of (length requests) progress.found → request ≡ get_or requests place request → IsWhole request most searched → most ≡ learnt - progress.steps
    → learnt < 2 ^ 64 → IsEnded requests learnt progress place searched
ended_at requests learnt progress place most request searched is less is_request whole left limit =
    let all = lesser_within requests progress.found is.found in
    let within : place < length requests = omega (arith, less, all) in
    let few = is.few in
    record {
      request = request;
      is = slice_get-get_or requests place request within ∙ ap (λ x. Some x) (sym is_request);
      most = most;
      whole = whole;
      left = omega (arith, left, few);
      limit = limit;
    }
