use Rattle.std.proofs.Common.{◌==◌, sym, ◌∙◌, ap}
use Rattle.std.proofs.lemmas.Bool.{false≢true}
use Rattle.bt_extend.proofs.TermWords.{no_number_at, no_pair}
use Rattle.bt_extend.proofs.reading.terms_of.Goals as goal

pub returns-in_default-place_in : goal.returns-in_default-place_in
returns-in_default-place_in c =
    no_number_at c.args.words.now c.loop-rest.rest.now c.loop-rest.terms.items c.number-item.result _ c.loop-rest.invariant c.in-len2-up.len_at_least c.number-item.is c.in_default-place_in.ensures.none

pub returns-else-is_empty : goal.returns-else-is_empty
returns-else-is_empty c =
    no_pair c.args.words.now c.loop-rest.rest.now c.loop-rest.terms.items c.loop-rest.invariant c.in_default.len_below
    (λ none. false≢true (sym c.if-is_empty.false ∙ c.is_empty.ensures ∙ ap (λ n. n == 0) none))
