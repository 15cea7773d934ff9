use Rattle.std.proofs.Common.{◌<◌, ◌≤◌, ◌∙◌, arith, subst, sym}
use Rattle.std.proofs.lemmas.Bool.{iff_false}
use Rattle.bt_linear_forms.specs.Lines.{signed_terms}
use Rattle.bt_simplex.specs.inner.Bases.{MayEnter}
use Rattle.bt_simplex.proofs.Entering.{ahead_start, entering_more, entering_here, entering_none}
use Rattle.bt_linear_forms.proofs.SignedLines.{signed_line, signed_length}
use Rattle.bt_simplex.proofs.bland.first_entering.Goals as goal

pub loop-index-init : goal.loop-index-init
loop-index-init c row point order = ahead_start (MayEnter c.args.tableau.now row point) (signed_terms c.args.negated c.args.line.now) (signed_line c.args.negated c.args.line.now c.known.ensures)

pub returns-then-may_enter : goal.returns-then-may_enter
returns-then-may_enter c row point order =
    let told = c.signed_at-position.ensures in
    let may = c.may_enter.ensures row point told.0 order told.2 in
    let inside = subst (λ n. c.loop-index.index < n) (c.len-index-end.ensures ∙ sym (signed_length c.args.negated c.args.line.now)) c.loop-index-test.true in
    entering_here (MayEnter c.args.tableau.now row point) (signed_terms c.args.negated c.args.line.now) c.loop-index.index (c.signed_at-position.result.0, told.0) inside told.1
    (c.loop-index.invariant row point order) (may.0 c.if-may_enter.true)

pub loop-index-preserved : goal.loop-index-preserved
loop-index-preserved c row point order =
    let told = c.signed_at-position.ensures in
    let may = c.may_enter.ensures row point told.0 order told.2 in
    let inside = subst (λ n. c.loop-index.index < n) (c.len-index-end.ensures ∙ sym (signed_length c.args.negated c.args.line.now)) c.loop-index-test.true in
    entering_more (MayEnter c.args.tableau.now row point) (signed_terms c.args.negated c.args.line.now) c.loop-index.index (c.signed_at-position.result.0, told.0) inside told.1
    (c.loop-index.invariant row point order) (iff_false may c.if-may_enter.false)

pub returns : goal.returns
returns c row point order =
    let all : c.len-index-end.result ≤ c.loop-index.index = omega arith in
    let past = subst (λ n. n ≤ c.loop-index.index) (c.len-index-end.ensures ∙ sym (signed_length c.args.negated c.args.line.now)) all in
    entering_none (MayEnter c.args.tableau.now row point) (signed_terms c.args.negated c.args.line.now) c.loop-index.index past (c.loop-index.invariant row point order)
