use Rattle.std.proofs.Common.{◌<◌, ◌≡◌, ◌++◌, ◌∷◌, [], true, not, get_or, length, sym, ap, ◌∙◌, subst, arith}
use Rattle.std.specs.Prelude.{string_bytes}
use Rattle.bt_json.specs.inner.Reading.{has_name}
use Rattle.bt_json.proofs.NameLemmas.{goes_on_at}
use Rattle.bt_json.proofs.names.front.Goals as goal

pub loop-place-preserved : goal.loop-place-preserved
loop-place-preserved c =
    let at = c.loop-place.place in
    let same = c.as_slice-names.ensures.keys in
    let x = c.index-names-place in
    let n = c.as_str.result.now in
    let inside : at < length c.as_slice-names.result.now = omega arith in
    let next = goes_on_at c.args.set.now.keys at x.result n (subst (λ ks. at < length ks) same inside) c.as_slice-names.ensures.unique
    (sym (ap string_bytes (x.is ∙ ap (λ ks. get_or ks at x.result) same)) ∙ sym c.as_str.ensures.value) in
    let added : c.in_ok-insert.field-0 ≡ true = c.in_ok-insert.ensures.added ∙ ap (λ ns. not (has_name ns n)) c.loop-place.invariant ∙ ap not next.new in
    c.in_ok-insert.ensures.names added ∙ ap (λ ns. ns ++ n ∷ []) c.loop-place.invariant ∙ sym next.next
