use Rattle.std.proofs.Common.{Option, None, Some}
use Rattle.std.specs.Option.{IfNone}
use Rattle.bt_text.proofs.Pieces.{piece_apart}
use Rattle.bt_extend.proofs.items.next_item.Goals as goal

if_none : {X : Type 0} (P : Type 0) (r : Option X) → P → IfNone r P
if_none P None h = h
if_none P (Some x) h = tt

pub returns-in_err-item-clause-none : goal.returns-in_err-item-clause-none
returns-in_err-item-clause-none g c =
    if_none _ c.from_residual-in_err-item.result
    (λ x rest h. c.in_err-item.ensures.none x h.0 (piece_apart 32 c.args.text.now c.in_ok-word.word.now c.in_ok-word.rest.now (g.T.Item.word x) rest c.in_ok-word.ensures.some h.1))
