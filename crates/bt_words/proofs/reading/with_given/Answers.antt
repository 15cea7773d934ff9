use Rattle.std.proofs.Common.{sym, ◌∙◌}
use Rattle.bt_words.proofs.OneCommand.{none_checks_flow, none_checks, none_decides, none_makes}
use Rattle.bt_words.proofs.reading.with_given.Goals as goal

pub returns-in_err-only_property-in-FlowCheck : goal.returns-in_err-only_property-in-FlowCheck
returns-in_err-only_property-in-FlowCheck c =
    rw c.from_residual.ensures
    (λ d v s. none_checks_flow c.args.given c.in_err-only_property-in-FlowCheck.ensures d (sym c.in-FlowCheck.is ∙ v) s)

pub returns-in_err-only_property-in-Check : goal.returns-in_err-only_property-in-Check
returns-in_err-only_property-in-Check c =
    rw c.from_residual-in_err-only_property-in-Check.ensures
    (λ d v s. none_checks c.args.given c.in_err-only_property-in-Check.ensures d (sym c.in-Check.is ∙ v) s)

pub returns-in_err-property_and_limits-in-Decide : goal.returns-in_err-property_and_limits-in-Decide
returns-in_err-property_and_limits-in-Decide c =
    rw c.from_residual-in_err-property_and_limits-in-Decide.ensures
    (λ d v s. none_decides c.args.given c.in_err-property_and_limits-in-Decide.ensures d (sym c.in-Decide.is ∙ v) s)

pub returns-in_err-order_and_limits-in-Make : goal.returns-in_err-order_and_limits-in-Make
returns-in_err-order_and_limits-in-Make c =
    rw c.from_residual-in_err-order_and_limits-in-Make.ensures
    (λ d v s. none_makes c.args.given c.in_err-order_and_limits-in-Make.ensures d (sym c.in-Make.is ∙ v) s)
