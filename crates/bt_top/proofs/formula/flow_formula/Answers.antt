use Rattle.std.proofs.Common.{◌≡◌, refl, alloc_error, Ok}
use Rattle.bt_designs.specs.declared.fault.DesignFault.TheVariants.{Memory}
use Rattle.bt_designs.specs.Alone.{IsLoneNet}
use Rattle.bt_top.specs.Formulas.{flow_formula_told}
use Rattle.bt_print.specs.Replies.{design_told}
use Rattle.bt_designs.proofs.InTurns.{stops, went}
use Rattle.bt_top.proofs.formula.flow_formula.Goals as goal

pub returns-in-Ok : goal.returns-in-Ok
returns-in-Ok c =
    went alloc_error (IsLoneNet c.args.bytes.now) design_told (λ n reply. reply ≡ Ok (flow_formula_told c.args.property n)) c.in-Ok.net c.flow_formula_of.result c.in-Ok.ensures c.flow_formula_of.ensures

pub returns-in-Err : goal.returns-in-Err
returns-in-Err c =
    stops Memory alloc_error (IsLoneNet c.args.bytes.now) design_told (λ n reply. reply ≡ Ok (flow_formula_told c.args.property n)) c.in-Err.fault c.refused.result refl c.in-Err.ensures c.refused.ensures
