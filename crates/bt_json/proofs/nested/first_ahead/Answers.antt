use Rattle.std.proofs.Common.{arith, sym, ◌∙◌}
use Rattle.bt_json.specs.inner.Frames.{opened}
use Rattle.bt_json.proofs.FrameSteps.{skips_opened, closes_first, begins_first}
use Rattle.bt_json.proofs.nested.first_ahead.Goals as goal

pub returns-then-stands_at : goal.returns-then-stands_at
returns-then-stands_at c =
    let at = c.skip_blanks-at in
    let there = c.stands_at.ensures.yes c.if-stands_at.true in
    let later = at.ensures.later in
    record {
      later = (omega arith, omega arith);
      read = λ f k fresh closes. at.ensures.blanks (opened f k) (skips_opened f k) ∙ closes_first c.args.bytes.now at.result f k fresh there.0 (there.1 ∙ sym closes);
    }

pub returns-else-stands_at : goal.returns-else-stands_at
returns-else-stands_at c =
    let at = c.skip_blanks-at in
    record {
      later = at.ensures.later;
      read = λ f k fresh closes. at.ensures.blanks (opened f k) (skips_opened f k)
          ∙ begins_first c.args.bytes.now at.result f k fresh at.ensures.ends (λ lt e. c.stands_at.ensures.no c.if-stands_at.false lt (e ∙ closes));
    }
