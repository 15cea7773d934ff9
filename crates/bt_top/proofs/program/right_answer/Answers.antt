use Rattle.std.proofs.Common.{alloc_error, subst, sym}
use Rattle.bt_text.specs.Answers.{UnlessMemory}
use Rattle.bt_top.specs.Answering.{IsRightTo}
use Rattle.bt_top.specs.inner.Grids.{HasGrid}
use Rattle.bt_top.proofs.program.right_answer.Goals as goal

pub returns-in-FlowCheck : goal.returns-in-FlowCheck
returns-in-FlowCheck g c = subst (λ command. UnlessMemory alloc_error (IsRightTo command c.args.bytes.now) c.flow_check.result) (sym c.in-FlowCheck.is) c.flow_check.ensures

pub returns-in-Recover : goal.returns-in-Recover
returns-in-Recover g c = subst (λ command. UnlessMemory alloc_error (IsRightTo command c.args.bytes.now) c.recover.result) (sym c.in-Recover.is) c.recover.ensures

pub returns-in-Decide : goal.returns-in-Decide
returns-in-Decide g c = subst (λ command. UnlessMemory alloc_error (IsRightTo command c.args.bytes.now) c.decide.result) (sym c.in-Decide.is) c.decide.ensures

pub returns-in-Make : goal.returns-in-Make
returns-in-Make g c = subst (λ command. UnlessMemory alloc_error (IsRightTo command c.args.bytes.now) c.make.result) (sym c.in-Make.is) c.make.ensures

pub returns-in-Layout : goal.returns-in-Layout
returns-in-Layout g c = subst (λ command. UnlessMemory alloc_error (IsRightTo command c.args.bytes.now) c.layout.result) (sym c.in-Layout.is) c.layout.ensures

pub returns-in-Smallest : goal.returns-in-Smallest
returns-in-Smallest g c = subst (λ command. UnlessMemory alloc_error (IsRightTo command c.args.bytes.now) c.smallest.result) (sym c.in-Smallest.is) c.smallest.ensures

pub returns-in-FindSmall : goal.returns-in-FindSmall
returns-in-FindSmall g c = subst (λ command. UnlessMemory alloc_error (IsRightTo command c.args.bytes.now) c.smallest_found.result) (sym c.in-FindSmall.is) c.smallest_found.ensures

pub returns-in-FlowFormula : goal.returns-in-FlowFormula
returns-in-FlowFormula g c = subst (λ command. UnlessMemory alloc_error (IsRightTo command c.args.bytes.now) c.flow_formula.result) (sym c.in-FlowFormula.is) c.flow_formula.ensures

pub returns-in-PlaceFormula : goal.returns-in-PlaceFormula
returns-in-PlaceFormula g c = subst (λ command. UnlessMemory alloc_error (IsRightTo command c.args.bytes.now) c.place_formula.result) (sym c.in-PlaceFormula.is) c.place_formula.ensures

pub returns-in-Same : goal.returns-in-Same
returns-in-Same g c = subst (λ command. UnlessMemory alloc_error (IsRightTo command c.args.bytes.now) c.same.result) (sym c.in-Same.is) c.same.ensures

pub returns-in-Build : goal.returns-in-Build
returns-in-Build g c = subst (λ command. UnlessMemory alloc_error (IsRightTo command c.args.bytes.now) c.build.result) (sym c.in-Build.is) c.build.ensures

pub smallest-requires-clause-grid : goal.smallest-requires-clause-grid
smallest-requires-clause-grid g c = (subst HasGrid c.in-Smallest.is c.requires.grid).0

pub smallest-requires-clause-few : goal.smallest-requires-clause-few
smallest-requires-clause-few g c = (subst HasGrid c.in-Smallest.is c.requires.grid).1
