use Rattle.std.proofs.Common.{sym, ◌∙◌}
use Rattle.bt_cert.proofs.Endings.{blanks_read, byte_read}
use Rattle.bt_cert.proofs.reading.Reading.pass_blanks.Goals as goal

pub returns-then-is_empty-clause-reads : goal.returns-then-is_empty-clause-reads
returns-then-is_empty-clause-reads c =
    blanks_read c.args.self.now _ c.args.text.now c.skip_blanks-rest.result.now c.line_feeds.result (sym c.self.view_is) c.requires.stage c.skip_blanks-rest.ensures
    (sym c.is_empty.ensures ∙ c.if-is_empty.true) c.line_feeds.ensures.feeds

pub returns-clause-reads : goal.returns-clause-reads
returns-clause-reads c =
    byte_read c.args.self.now _ c.args.text.now c.skip_blanks-rest.result.now c.line_feeds.result (sym c.self.view_is) c.requires.stage c.skip_blanks-rest.ensures
    (sym c.is_empty.ensures ∙ c.if-is_empty.false) c.line_feeds.ensures.feeds
