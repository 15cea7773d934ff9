use Rattle.std.proofs.Common.{Ok, sym, subst}
use Rattle.bt_flow.specs.declared.judgement.Test.{Test}
use Rattle.bt_flow.specs.declared.judgement.Test.TheVariants as test
use Rattle.bt_flow.specs.inner.Trials.{IsTestedAt}
use Rattle.bt_flow.proofs.trial.Trial.passes.Goals as goal

pub returns-in-Range : goal.returns-in-Range
returns-in-Range c =
    subst (λ (u : Test). IsTestedAt c.args.self.now u c.args.place (Ok c.keeps_range.result)) (sym c.in-Range.is)
    (subst (λ x. IsTestedAt x test.Range c.args.place (Ok c.keeps_range.result)) c.self.view_is (c.keeps_range.ensures, tt))

pub returns-in-Input : goal.returns-in-Input
returns-in-Input c =
    subst (λ (u : Test). IsTestedAt c.args.self.now u c.args.place (Ok c.passes_input.result)) (sym c.in-Input.is) (c.passes_input.ensures, tt)

pub returns-in-Output : goal.returns-in-Output
returns-in-Output c =
    subst (λ (u : Test). IsTestedAt c.args.self.now u c.args.place (Ok c.passes_output.result)) (sym c.in-Output.is) (c.passes_output.ensures, tt)
