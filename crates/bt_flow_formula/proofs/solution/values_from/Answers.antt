use Rattle.std.proofs.Common.{◌∷◌, [], ◌++◌, ◌+◌, ◌∙◌, ap, sym, refl}
use Rattle.std.proofs.lemmas.List.FromFn.{map-range_with_len_more}
use Rattle.bt_frac.specs.Values.{value_in}
use Rattle.bt_flow_formula.proofs.solution.values_from.Goals as goal

pub loop-place-preserved : goal.loop-place-preserved
loop-place-preserved c =
    let f = value_in c.args.values.now in
    c.in_ok-push.ensures.items ∙ ap (λ a. c.loop-place.found.items ++ a ∷ []) c.value_of.ensures
    ∙ ap (λ l. l ++ f (c.args.first + c.loop-place.place) ∷ []) c.loop-place.invariant
    ∙ sym (map-range_with_len_more f c.args.first c.loop-place.place (c.args.first + c.loop-place.place) refl)
