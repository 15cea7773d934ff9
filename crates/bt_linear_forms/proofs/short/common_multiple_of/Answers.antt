use Rattle.std.proofs.Common.{◌≤◌, arith, length, subst}
use Rattle.std.specs.List.{All}
use Rattle.std.proofs.lemmas.List.{take_all}
use Rattle.bt_linear_forms.specs.Shorts.{Divides}
use Rattle.bt_linear_forms.proofs.Shorts.{divide_more}
use Rattle.bt_linear_forms.proofs.short.common_multiple_of.Goals as goal

pub loop-term-preserved : goal.loop-term-preserved
loop-term-preserved c = (
  c.in_ok-under.ensures.some,
  c.in_ok-under.ensures.fits,
  divide_more c.args.terms.now c.loop-term.term-index c.term-item.result c.loop-term.under c.in_ok-under.under c.loop-term-test.true c.term-item.is c.loop-term.invariant.2
      c.in_ok-under.ensures.first (subst (λ n. Divides n c.in_ok-under.under) c.in_ok-small_under.ensures.same c.in_ok-under.ensures.second),
)

pub returns-clause-divides : goal.returns-clause-divides
returns-clause-divides c =
    let past : length c.args.terms.now ≤ c.loop-term.term-index = omega arith in
    subst (λ l. All (λ t. Divides t.1.under c.loop-term.under) l) (take_all c.loop-term.term-index c.args.terms.now past) c.loop-term.invariant.2
