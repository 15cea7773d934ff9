use Rattle.std.proofs.Common.{◌+◌, ◌<◌, ◌∙◌, length, ap, max, sym, subst, arith, Some}
use Rattle.std.proofs.lemmas.Bool.{iff_false}
use Rattle.std.proofs.lemmas.Option.{slice_get-get_or}
use Rattle.bt_model.specs.Requests.{line_of}
use Rattle.bt_model.specs.RequestFaults.{IsOutOfPlace, NameOneEnd}
use Rattle.bt_model.specs.inner.Least.{IsLeastIfAny, IsLaterHere, lesser}
use Rattle.bt_model.proofs.Leasts.{good_least, later_same, later_other}
use Rattle.bt_model.proofs.refusing.line_refused_by_demand.Goals as goal
use Rattle.bt_model.proofs.refusing.line_refused_by_demand.Goals.{then-name_one_end, else-name_one_end}

pub loop-j-preserved : goal.loop-j-preserved
loop-j-preserved c =
    let within : c.loop-j.j < length c.args.demands.now = omega arith in
    let is_other = (slice_get-get_or c.args.demands.now c.args.k _ c.requires) in
    let is_one = (slice_get-get_or c.args.demands.now c.loop-j.j _ within) in
    elim c.if-name_one_end.branch [
      | then-name_one_end w ↦ subst (λ o. IsLeastIfAny (IsLaterHere NameOneEnd line_of c.args.demands.now c.args.k (c.loop-j.j + 1)) o)
          (sym (w.least-is ∙ w.earlier-least.ensures ∙ ap (λ m. lesser c.loop-j.least (Some m)) w.later.ensures ∙ (λ i. lesser c.loop-j.least (Some (max (w.line_of.ensures i) (c.line_of-line.ensures i))))))
          (later_same (IsOutOfPlace c.args.net.now c.args.rect) NameOneEnd line_of c.args.demands.now c.args.k c.loop-j.j _ _ is_other is_one c.loop-j.least (c.name_one_end.ensures.0 w.if-name_one_end.true) c.loop-j.invariant)
      | else-name_one_end w ↦ subst (λ o. IsLeastIfAny (IsLaterHere NameOneEnd line_of c.args.demands.now c.args.k (c.loop-j.j + 1)) o) (sym w.least-is)
          (later_other (IsOutOfPlace c.args.net.now c.args.rect) NameOneEnd line_of c.args.demands.now c.args.k c.loop-j.j _ _ is_other is_one c.loop-j.least (iff_false c.name_one_end.ensures w.if-name_one_end.false) c.loop-j.invariant)
    ]

pub returns : goal.returns
returns c = good_least (IsOutOfPlace c.args.net.now c.args.rect) NameOneEnd line_of c.args.demands.now c.args.k _ c.loop-j.least (slice_get-get_or c.args.demands.now c.args.k _ c.requires) (iff_false c.is_out_of_place.ensures c.if-is_out_of_place.false)
    (subst (λ j. IsLeastIfAny (IsLaterHere NameOneEnd line_of c.args.demands.now c.args.k j) c.loop-j.least) (omega arith) c.loop-j.invariant)
