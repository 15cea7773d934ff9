use Rattle.std.proofs.Common.{◌≡◌, ◌*◌, arith, ap, sym, ◌∙◌, true, false}
use Rattle.std.specs.Int.RustNames.{unsigned_abs}
use Rattle.bt_json.specs.Value.{signed}
use Rattle.bt_json.specs.inner.Halves.{twice}
use Rattle.bt_json.proofs.Scaled.{scaled_same, abs-signed, doubled, sign_of_zero}
use Rattle.bt_json.proofs.decimal.Decimal.whole.Goals as goal

pub returns-in_default-clause-none : goal.returns-in_default-clause-none
returns-in_default-clause-none c = λ n small t.
    let same : n ≡ t.0 = ap unsigned_abs t.2 ∙ abs-signed c.args.self.now.negative t.0 in
    let big = c.in_default.ensures.none (2 * t.0) (doubled t.0 _ c.args.self.now.exponent t.1) in
    omega arith

pub returns-then-half-clause-none : goal.returns-then-half-clause-none
returns-then-half-clause-none c = λ n small t.
    let one : twice (c.in-Some.whole, c.in-Some.half) ≡ 2 * t.0 = scaled_same _ (2 * t.0) _ c.args.self.now.exponent c.in-Some.ensures.some (doubled t.0 _ c.args.self.now.exponent t.1) in
    let half : twice (c.in-Some.whole, true) ≡ 2 * t.0 = ap (λ b. twice (c.in-Some.whole, b)) (sym c.if-half.true) ∙ one in
    omega arith

pub returns-then-whole-ne0-clause-none : goal.returns-then-whole-ne0-clause-none
returns-then-whole-ne0-clause-none c = λ n small t.
    let one : twice (c.in-Some.whole, c.in-Some.half) ≡ 2 * t.0 = scaled_same _ (2 * t.0) _ c.args.self.now.exponent c.in-Some.ensures.some (doubled t.0 _ c.args.self.now.exponent t.1) in
    let no_half : twice (c.in-Some.whole, false) ≡ 2 * t.0 = ap (λ b. twice (c.in-Some.whole, b)) (sym c.if-half.false) ∙ one in
    let zero = sign_of_zero n t.0 (t.2 ∙ ap (λ b. signed b t.0) c.if-self.true) in
    let some = c.if-whole-ne0.true in
    omega arith
