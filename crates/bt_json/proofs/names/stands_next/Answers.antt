use Rattle.std.proofs.Common.{◌<◌, get_or, length, sym, ap, ◌∙◌, subst}
use Rattle.std.specs.Prelude.{string_bytes}
use Rattle.bt_json.proofs.NameLemmas.{goes_on_at, told_same}
use Rattle.bt_json.proofs.names.stands_next.Goals as goal

pub returns-then-place-names-clause-next : goal.returns-then-place-names-clause-next
returns-then-place-names-clause-next c = λ yes.
    let same = c.as_slice-names.ensures.keys in
    let at = c.index-names-place in
    let name = told_same c.as_str.result.now c.args.name.now (sym c.eq.ensures ∙ yes) in
    goes_on_at c.args.set.now.keys c.args.place at.result c.args.name.now (subst (λ ks. c.args.place < length ks) same c.if-place-names.true) c.as_slice-names.ensures.unique
    (sym (ap string_bytes (at.is ∙ ap (λ ks. get_or ks c.args.place at.result) same)) ∙ sym c.as_str.ensures.value ∙ name)
