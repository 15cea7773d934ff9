use Rattle.std.proofs.Common.{◌<◌, ◌≤◌, ◌∷◌, arith, subst, sym, []}
use Rattle.std.proofs.lemmas.Bool.{iff_false}
use Rattle.bt_linear_forms.specs.Lines.{signed_terms, one}
use Rattle.bt_simplex.specs.inner.Bases.{MayEnter}
use Rattle.bt_simplex.proofs.Entering.{ahead_start, entering_more, entering_here, entering_none}
use Rattle.bt_linear_forms.proofs.SignedLines.{alone_line, signed_line, signed_length}
use Rattle.bt_simplex.proofs.bland.alone_entering.Goals as goal

pub returns-then-may_enter : goal.returns-then-may_enter
returns-then-may_enter c row point order =
    let terms = signed_terms c.args.negated ((c.args.position, one) ∷ []) in
    let told = c.alone_sign-sign.ensures c.args.position in
    let may = c.may_enter.ensures row point told.0 order told.2 in
    let one_long : 0 < 1 = omega arith in
    let inside = subst (λ n. 0 < n) (sym (signed_length c.args.negated ((c.args.position, one) ∷ []))) one_long in
    let start = ahead_start (MayEnter c.args.tableau.now row point) terms (signed_line c.args.negated ((c.args.position, one) ∷ []) (alone_line c.args.position c.requires)) in
    entering_here (MayEnter c.args.tableau.now row point) terms 0 (c.args.position, told.0) inside told.1 start (may.0 c.if-may_enter.true)

pub returns-else-may_enter : goal.returns-else-may_enter
returns-else-may_enter c row point order =
    let terms = signed_terms c.args.negated ((c.args.position, one) ∷ []) in
    let told = c.alone_sign-sign.ensures c.args.position in
    let may = c.may_enter.ensures row point told.0 order told.2 in
    let one_long : 0 < 1 = omega arith in
    let inside = subst (λ n. 0 < n) (sym (signed_length c.args.negated ((c.args.position, one) ∷ []))) one_long in
    let all : 1 ≤ 1 = omega arith in
    let past = subst (λ n. n ≤ 1) (sym (signed_length c.args.negated ((c.args.position, one) ∷ []))) all in
    let start = ahead_start (MayEnter c.args.tableau.now row point) terms (signed_line c.args.negated ((c.args.position, one) ∷ []) (alone_line c.args.position c.requires)) in
    entering_none (MayEnter c.args.tableau.now row point) terms 1 past
    (entering_more (MayEnter c.args.tableau.now row point) terms 0 (c.args.position, told.0) inside told.1 start (iff_false may c.if-may_enter.false))
