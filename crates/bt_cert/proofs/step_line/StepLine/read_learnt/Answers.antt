use Rattle.std.proofs.Common.{sym, ◌∙◌}
use Rattle.std.proofs.lemmas.Bool.Decides.{Decides-eqb}
use Rattle.std.proofs.lemmas.Slice.Eq.{slice_eq-Decides}
use Rattle.bt_cert.proofs.WrittenLines.{no_learnt_at_zero, learnt_read}
use Rattle.bt_cert.proofs.step_line.StepLine.read_learnt.Goals as goal

pub returns-in_default : goal.returns-in_default
returns-in_default c =
    no_learnt_at_zero c.args.text.now c.in_ok-rest.rest.now c.read_items.new.items.items c.in_ok-rest.ensures.stand c.in_ok-rest.ensures.rest c.in_default.ensures.none

pub returns : goal.returns
returns c =
    let same = slice_eq-Decides Decides-eqb _ _ _ c.eq.ensures in
    learnt_read c.args.text.now c.in-Some.hints.now c.read_items.new.items.items c.read_items-2.new.items.items c.in_ok-rest.rest.now c.in_ok-rest-2.rest.now c.eq.result
    c.in_ok-rest.ensures.stand c.in_ok-rest.ensures.rest c.in-Some.ensures.some c.in_ok-rest-2.ensures.stand c.in_ok-rest-2.ensures.rest
    (λ yes. same.0 yes ∙ c.as_slice.ensures) (λ ends. same.1 (ends ∙ sym c.as_slice.ensures))
