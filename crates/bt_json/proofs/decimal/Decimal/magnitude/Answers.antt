use Rattle.std.proofs.Common.{rules, ◌≡◌}
use Rattle.std.specs.Int.Digits.{number_from_digits}
use Rattle.bt_json.proofs.Scaled.{too_great}
use Rattle.bt_json.proofs.decimal.Decimal.magnitude.Goals as goal

pub returns-in_default-clause-none : goal.returns-in_default-clause-none
returns-in_default-clause-none c = λ m e.
    let ds : c.deref-2.result.now ≡ c.args.self.now.digits.items = c.deref-2.ensures in
    too_great m (number_from_digits 10 c.args.self.now.digits.items) c.args.self.now.exponent (search rules) e (rw ds at c.in_default.ensures)
