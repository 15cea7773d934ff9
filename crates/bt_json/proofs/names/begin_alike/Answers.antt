use Rattle.std.proofs.Common.{◌<◌, ◌≡◌, true, get_or, length, sym, ap, ◌∙◌, subst, arith}
use Rattle.std.specs.Prelude.{string_bytes}
use Rattle.std.specs.Str.{bytes_eq}
use Rattle.bt_json.proofs.NameLemmas.{alike_next, told_same, not_not}
use Rattle.bt_json.proofs.names.begin_alike.Goals as goal

pub loop-place-preserved : goal.loop-place-preserved
loop-place-preserved c =
    let at = c.loop-place.place in
    let one = c.as_slice-one.ensures.keys in
    let other = c.as_slice-other.ensures.keys in
    let x = c.index-one-place in
    let y = c.index-other-place in
    let equal : bytes_eq c.as_str.result.now c.as_str-in-loop-place.result.now ≡ true = not_not _ (sym c.ne.ensures ∙ c.if-ne.false) in
    let in_one : at < length c.as_slice-one.result.now = omega arith in
    let in_other : at < length c.as_slice-other.result.now = omega arith in
    alike_next c.args.one.now.keys c.args.other.now.keys at x.result y.result (subst (λ ks. at < length ks) one in_one) (subst (λ ks. at < length ks) other in_other) c.loop-place.invariant
    (sym (ap string_bytes (x.is ∙ ap (λ ks. get_or ks at x.result) one)) ∙ sym c.as_str.ensures.value ∙ told_same _ _ equal ∙ c.as_str-in-loop-place.ensures.value ∙ ap string_bytes (y.is ∙ ap (λ ks. get_or ks at y.result) other))
