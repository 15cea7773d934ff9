use Rattle.std.proofs.Common.{arith, take, ◌-◌, ◌<◌, length, rules, ap, sym, ◌∙◌, drop, ◌≡◌}
use Rattle.std.specs.Int.Digits.{number_from_digits}
use Rattle.std.proofs.lemmas.Grind.{common_steps}
use Rattle.bt_json.proofs.Halves.{half_is}
use Rattle.bt_json.proofs.decimal.is_half.Goals as goal

pub returns-then-fraction-ne5 : goal.returns-then-fraction-ne5
returns-then-fraction-ne5 c =
    let some : 0 < length c.args.fraction.now = search rules in
    let h = half_is c.args.fraction.now c.requires some in
    (λ no. absurd (search rules), λ e. absurd (c.if-fraction-ne5.true (h.1 e).0))

pub returns : goal.returns
returns c =
    let some : 0 < length c.args.fraction.now = search rules in
    let h = half_is c.args.fraction.now c.requires some in
    let tail : take (length c.args.fraction.now - 1) (drop 1 c.args.fraction.now) ≡ drop 1 c.args.fraction.now = grind (arith, common_steps) in
    let zeros : number_from_digits 10 (take (length c.args.fraction.now - 1) (drop 1 c.args.fraction.now)) ≡ number_from_digits 10 (drop 1 c.args.fraction.now) = ap (number_from_digits 10) tail in
    (λ yes. h.0 (c.if-fraction-ne5.false, sym zeros ∙ c.are_zeros.ensures.0 yes), λ e. c.are_zeros.ensures.1 (zeros ∙ (h.1 e).1))
