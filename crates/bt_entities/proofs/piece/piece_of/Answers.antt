use Rattle.std.proofs.Common.{inl, inr, ⊎_elim}
use Rattle.std.proofs.lemmas.Result.{err_from_is_err_and}
use Rattle.bt_entities.proofs.piece.piece_of.Goals as goal

pub returns-in_err-family : goal.returns-in_err-family
returns-in_err-family c =
    let p = err_from_is_err_and c.from_residual.result c.from_residual.ensures.1 in
    rw (p.1, p.2) (⊎_elim (λ low. inl (λ members first. low members c.args.major first)) (λ memory. inr memory) c.in_err-family.ensures)
