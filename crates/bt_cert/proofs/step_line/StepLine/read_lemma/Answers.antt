use Rattle.bt_cert.proofs.WrittenLines.{no_lemma_at_zero, lemma_read}
use Rattle.bt_cert.proofs.step_line.StepLine.read_lemma.Goals as goal

pub returns-in_default : goal.returns-in_default
returns-in_default c =
    no_lemma_at_zero c.args.text.now c.in_ok-rest.rest.now c.read_items.new.items.items c.in_ok-rest.ensures.stand c.in_ok-rest.ensures.rest c.in_default.ensures.none

pub returns : goal.returns
returns c =
    lemma_read c.args.text.now c.in-Some.weights.now c.read_items.new.items.items c.read_items-2.new.items.items c.in_ok-rest.rest.now c.in_ok-rest-2.rest.now c.is_empty.result
    c.in_ok-rest.ensures.stand c.in_ok-rest.ensures.rest c.in-Some.ensures.some c.in_ok-rest-2.ensures.stand c.in_ok-rest-2.ensures.rest c.is_empty.ensures
