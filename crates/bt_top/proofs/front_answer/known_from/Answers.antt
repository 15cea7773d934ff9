use Rattle.std.proofs.Common.{◌≡◌, Ok, subst, sym}
use Rattle.bt_io.specs.Passages.{passage}
use Rattle.bt_print.specs.declared.answer.Answer.TheVariants.{Brief}
use Rattle.bt_top.specs.inner.Fronts.{AnswersRest}
use Rattle.bt_top.proofs.Fronts.{known_left}
use Rattle.bt_top.proofs.front_answer.known_from.Goals as goal

pub returns : goal.returns
returns g c =
    let source = passage g.S.Source.left g.S.Source.faults c.args.source.now c.drain_rest.new.source in
    subst (AnswersRest c.args.ended (λ more reply. reply ≡ Ok (Brief c.args.brief)) c.args.limit source) (sym c.and.ensures)
    (known_left c.args.ended (Brief c.args.brief) c.args.limit source c.drain_rest.result c.drain_rest.ensures)
