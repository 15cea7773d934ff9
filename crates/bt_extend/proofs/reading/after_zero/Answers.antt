use Rattle.std.proofs.Common.{◌≡◌, ◌++◌, [], ◌∷◌, sym, ◌∙◌}
use Rattle.std.proofs.lemmas.Bool.{false≢true}
use Rattle.std.proofs.lemmas.Bool.Decides.{Decides-eqb}
use Rattle.std.proofs.lemmas.Slice.Eq.{slice_eq-Decides}
use Rattle.bt_text.proofs.Pieces.{piece_is}
use Rattle.bt_extend.proofs.NoItems.{zero_lacks}
use Rattle.bt_extend.proofs.reading.after_zero.Goals as goal

pub returns-else-eq-clause-none : goal.returns-else-eq-clause-none
returns-else-eq-clause-none c after begins e =
    let same = slice_eq-Decides Decides-eqb _ _ _ c.eq.ensures in
    let leads = c.in-Some.ensures.some in
    let text_is = leads.text_is in
    let both : c.in-Some.word.now ++ c.in-Some.rest.now ≡ (48 ∷ []) ++ after = cc in
    let word = piece_is 32 c.in-Some.word.now c.in-Some.rest.now (48 ∷ []) after leads.lacks zero_lacks leads.begins begins both in
    false≢true (sym c.if-eq.false ∙ same.1 (word.0 ∙ sym c.as_slice.ensures))
