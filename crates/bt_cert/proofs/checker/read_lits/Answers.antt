use Rattle.std.proofs.Common.{false, refl, ◌≤◌, arith}
use Rattle.bt_cert.proofs.Stepped.{read_fails}
use Rattle.bt_cert.proofs.checker.read_lits.Goals as goal

pub returns-in_default : goal.returns-in_default
returns-in_default c =
    let above : c.args.formula.now.vars ≤ c.place_of.result = c.in_default.ensures.none.0 refl in
    read_fails c.args.formula.now.vars c.args.written.now c.loop-lit.lit-index (record { number = 0; positive = false }) c.loop-lit-test.true (omega (arith, above, c.place_of.ensures))
