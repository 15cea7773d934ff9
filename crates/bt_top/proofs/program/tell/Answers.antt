use Rattle.std.proofs.Common.{inl, inr, refl, ap, ◌∙◌}
use Rattle.bt_top.specs.Endings.{status_after}
use Rattle.bt_top.proofs.Ended.{needs_other}
use Rattle.bt_top.proofs.program.tell.Goals as goal

pub print_answer-requires : goal.print_answer-requires
print_answer-requires g c = c.deref.ensures.value ∙ c.in-Ok.ensures.text

pub returns-in-Ok : goal.returns-in-Ok
returns-in-Ok g c =
    inl (c.print_answer.result, c.print_answer.ensures, c.status_after.ensures ∙ ap (λ due. status_after due c.print_answer.result) c.status.ensures)

pub returns-in-Err : goal.returns-in-Err
returns-in-Err g c =
    let other = needs_other c.args.answer.now c.in-Err.ensures.needs in
    inr (refl, (refl, refl), other.0, other.1)
