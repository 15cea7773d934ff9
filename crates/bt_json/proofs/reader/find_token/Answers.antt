use Rattle.std.proofs.Common.{true, sym, ◌∙◌}
use Rattle.bt_json.specs.inner.Reading.{due}
use Rattle.bt_json.proofs.Levels.{due_cut, no_kind}
use Rattle.bt_json.proofs.Blanks.{skips_due}
use Rattle.bt_json.proofs.reader.find_token.Goals as goal

pub returns-then-at-bytes-clause-read : goal.returns-then-at-bytes-clause-read
returns-then-at-bytes-clause-read c = λ k. c.skip_blanks-at.ensures.blanks (due k) (skips_due true k) ∙ due_cut c.args.bytes.now c.skip_blanks-at.result k c.if-at-bytes.true

pub returns-clause-read : goal.returns-clause-read
returns-clause-read c = (c.skip_blanks-at.ensures.later, λ k. c.skip_blanks-at.ensures.blanks (due k) (skips_due true k))

pub returns-clause-token : goal.returns-clause-token
returns-clause-token c = record {
  within = c.if-at-bytes.false;
  is = sym c.kind_of.ensures;
  no_blank = λ e. no_kind _ (c.skip_blanks-at.ensures.ends c.if-at-bytes.false) (sym c.kind_of.ensures ∙ e);
}
