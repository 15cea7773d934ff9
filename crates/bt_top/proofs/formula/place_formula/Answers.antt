use Rattle.std.proofs.Common.{◌≡◌, refl, alloc_error, Ok}
use Rattle.bt_designs.specs.declared.fault.DesignFault.TheVariants.{Memory}
use Rattle.bt_top.specs.Formulas.{place_formula_told}
use Rattle.bt_print.specs.Replies.{UnlessLarge, design_told}
use Rattle.bt_designs.specs.Requested.{IsLoneRequest}
use Rattle.bt_designs.proofs.InTurns.{stops, went}
use Rattle.bt_top.proofs.formula.place_formula.Goals as goal

pub returns-in-Ok : goal.returns-in-Ok
returns-in-Ok c =
    went alloc_error (IsLoneRequest c.args.rect c.args.tier c.args.bytes.now) design_told (UnlessLarge (λ r reply. reply ≡ Ok (place_formula_told r))) c.in-Ok.request c.place_formula_unless_large.result c.in-Ok.ensures c.place_formula_unless_large.ensures

pub returns-in-Err : goal.returns-in-Err
returns-in-Err c =
    stops Memory alloc_error (IsLoneRequest c.args.rect c.args.tier c.args.bytes.now) design_told (UnlessLarge (λ r reply. reply ≡ Ok (place_formula_told r))) c.in-Err.fault c.refused.result refl c.in-Err.ensures c.refused.ensures
