use Rattle.std.proofs.Common.{◌≡◌, arith, ap, ◌∙◌}
use Rattle.std.specs.Int.RustNames.{unsigned_abs}
use Rattle.bt_json.specs.inner.Halves.{twice}
use Rattle.bt_json.proofs.Scaled.{scaled_same, abs-signed}
use Rattle.bt_json.proofs.decimal.Decimal.halves.Goals as goal

pub returns-in_default-clause-none : goal.returns-in_default-clause-none
returns-in_default-clause-none c = λ z small t.
    let same : unsigned_abs z ≡ t.0 = ap unsigned_abs t.2 ∙ abs-signed c.args.self.now.negative t.0 in
    let big = c.in_default.ensures.none t.0 t.1 in
    omega arith

pub returns-then-whole-gt-MOST_HALVES-clause-none : goal.returns-then-whole-gt-MOST_HALVES-clause-none
returns-then-whole-gt-MOST_HALVES-clause-none c = λ z small t.
    let same : unsigned_abs z ≡ t.0 = ap unsigned_abs t.2 ∙ abs-signed c.args.self.now.negative t.0 in
    let one : twice (c.in-Some.whole, c.in-Some.half) ≡ t.0 = scaled_same _ t.0 _ c.args.self.now.exponent c.in-Some.ensures.some t.1 in
    omega arith

pub returns-then-twice-gt-MOST_HALVES-clause-none : goal.returns-then-twice-gt-MOST_HALVES-clause-none
returns-then-twice-gt-MOST_HALVES-clause-none c = λ z small t.
    let same : unsigned_abs z ≡ t.0 = ap unsigned_abs t.2 ∙ abs-signed c.args.self.now.negative t.0 in
    let one : twice (c.in-Some.whole, c.in-Some.half) ≡ t.0 = scaled_same _ t.0 _ c.args.self.now.exponent c.in-Some.ensures.some t.1 in
    grind arith
