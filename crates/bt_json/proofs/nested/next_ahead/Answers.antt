use Rattle.std.proofs.Common.{true, arith, sym, ◌∙◌}
use Rattle.std.proofs.lemmas.Result.{err_from_is_err_and}
use Rattle.bt_json.specs.inner.Ahead.{behind_value}
use Rattle.bt_json.proofs.Blanks.{skips_behind}
use Rattle.bt_json.proofs.FrameSteps.{closes_behind, comma_behind, breaks_behind}
use Rattle.bt_json.proofs.nested.next_ahead.Goals as goal

pub returns-then-stands_at-clause-read : goal.returns-then-stands_at-clause-read
returns-then-stands_at-clause-read c =
    let at = c.skip_blanks-at in
    let there = c.stands_at.ensures.yes c.if-stands_at.true in
    let later = at.ensures.later in (
      (omega arith, omega arith),
      λ w. at.ensures.blanks (behind_value w) (skips_behind true w.value w.frame w.around) ∙ closes_behind c.args.bytes.now at.result w.value w.frame w.around there.0 (there.1 ∙ sym w.closes),
    )

pub returns-in_err-expect_byte-clause-read : goal.returns-in_err-expect_byte-clause-read
returns-in_err-expect_byte-clause-read c =
    let at = c.skip_blanks-at in
    let p = err_from_is_err_and c.from_residual.result c.from_residual.ensures.1 in
    rw (p.1, p.2, c.in_err-expect_byte.ensures.err.0) (λ w. at.ensures.blanks (behind_value w) (skips_behind true w.value w.frame w.around)
    ∙ breaks_behind c.args.bytes.now at.result w.value w.frame w.around at.ensures.ends (λ lt e. c.stands_at.ensures.no c.if-stands_at.false lt (e ∙ w.closes)) c.in_err-expect_byte.ensures.err.1)

pub returns-clause-read : goal.returns-clause-read
returns-clause-read c =
    let at = c.skip_blanks-at in
    let comma = c.in_ok-expect_byte.ensures.ok in
    let later = at.ensures.later in (
      (omega arith, omega arith),
      λ w. at.ensures.blanks (behind_value w) (skips_behind true w.value w.frame w.around) ∙ comma_behind c.args.bytes.now at.result w.value w.frame w.around comma.0 comma.1,
    )
