use Rattle.std.proofs.Common.{sym, ◌∙◌}
use Rattle.std.proofs.lemmas.Bool.{false≢true}
use Rattle.std.proofs.lemmas.Bool.Decides.{Decides-eqb}
use Rattle.std.proofs.lemmas.Slice.Eq.{slice_eq-Decides}
use Rattle.bt_extend.proofs.DefinitionTexts.{no_disjunction}
use Rattle.bt_extend.proofs.reading.read_disjunction.Goals as goal

pub returns-else-eq : goal.returns-else-eq
returns-else-eq c =
    let same = slice_eq-Decides Decides-eqb _ _ _ c.eq.ensures in
    no_disjunction c.args.text.now c.in_ok-rest.rest.now c.read_items.new.items.items c.in_ok-rest.ensures.stand c.in_ok-rest.ensures.rest
    (λ ends. false≢true (sym c.if-eq.false ∙ same.1 (ends ∙ sym c.as_slice.ensures)))
