use Rattle.std.proofs.Common.{inl, inr, ⊎_elim}
use Rattle.std.proofs.lemmas.Result.{err_from_is_err_and}
use Rattle.bt_json.specs.Stands.{json_of}
use Rattle.bt_entities.specs.inner.Pieces.{special_of}
use Rattle.bt_entities.proofs.blueprint.entity_of.Goals as goal

pub returns-in_err-piece : goal.returns-in_err-piece
returns-in_err-piece c = λ first h.
    let p = err_from_is_err_and c.from_residual.result c.from_residual.ensures.1 in
    rw (p.1, p.2) (⊎_elim (λ low. inl (low (special_of c.args.reading) first)) (λ memory. inr memory) c.in_err-piece.ensures)

pub returns-in_err-shift : goal.returns-in_err-shift
returns-in_err-shift c = λ first h.
    let p = err_from_is_err_and c.from_residual-in_err-shift.result c.from_residual-in_err-shift.ensures.1 in
    rw (p.1, p.2) (inl (c.in_err-shift.ensures c.args.major first (json_of c.args.entity.now) c.in_ok-piece.ensures h (special_of c.args.reading)))

pub returns-in_err-part : goal.returns-in_err-part
returns-in_err-part c = λ first h.
    let p = err_from_is_err_and c.from_residual-in_err-part.result c.from_residual-in_err-part.ensures.1 in
    rw (p.1, p.2) (inl (c.in_err-part.ensures c.args.major first c.in_ok-piece.ensures
    (c.in_ok-shift.ensures c.args.major first (json_of c.args.entity.now) c.in_ok-piece.ensures h)))
