use Rattle.std.proofs.Common.{arith, ◌≡◌, sym, ◌∙◌, ap, false, true}
use Rattle.bt_json.specs.inner.Numerals.{view, shown}
use Rattle.bt_json.specs.inner.Reading.{may_end}
use Rattle.bt_json.proofs.Running.{number_goes_on, number_ends, number_breaks, number_at_end, number_cut}
use Rattle.bt_json.proofs.number.Numeral.take_rest.Goals as goal

pub loop-at-preserved : goal.loop-at-preserved
loop-at-preserved c = record {
  from = omega arith;
  within = omega arith;
  written = λ k. c.loop-at.invariant.written k ∙ number_goes_on c.args.bytes.now c.loop-at.at c.loop-at.phase c.in-GoesOn.next (view c.loop-at.self) (view c.step.new.self) k (omega arith)
      (ap (λ x. shown x (view c.step.new.self)) (sym c.in-GoesOn.is) ∙ c.in_ok-next.ensures);
}

pub returns-in-Ends : goal.returns-in-Ends
returns-in-Ends c = (
  (c.loop-at.invariant.from, c.loop-at.invariant.within),
  λ k.
      c.loop-at.invariant.written k ∙ number_ends c.args.bytes.now c.loop-at.at c.loop-at.phase (view c.loop-at.self) (view c.step.new.self) k (omega arith)
      (ap (λ x. shown x (view c.step.new.self)) (sym c.in-Ends.is) ∙ c.in_ok-next.ensures),
)

pub returns-in-Wrong : goal.returns-in-Wrong
returns-in-Wrong c = λ k.
    c.loop-at.invariant.written k ∙ number_breaks c.args.bytes.now c.loop-at.at c.loop-at.phase (view c.loop-at.self) k (omega arith)
    (ap (λ x. shown x (view c.step.new.self)) (sym c.in-Wrong.is) ∙ c.in_ok-next.ensures)

pub returns-then-not-may_end : goal.returns-then-not-may_end
returns-then-not-may_end c = λ k.
    let no : may_end c.loop-at.phase ≡ false = grind arith in
    c.loop-at.invariant.written k ∙ number_cut c.args.bytes.now c.loop-at.at c.loop-at.phase (view c.loop-at.self) k (omega arith) no

pub returns : goal.returns
returns c = (
  (c.loop-at.invariant.from, c.loop-at.invariant.within),
  λ k.
      let yes : may_end c.loop-at.phase ≡ true = grind arith in
      c.loop-at.invariant.written k ∙ number_at_end c.args.bytes.now c.loop-at.at c.loop-at.phase (view c.loop-at.self) k (omega arith) yes,
)
