use Rattle.std.proofs.Common.{◌^◌, rules, length}
use Rattle.std.specs.Int.Digits.{number_from_digits}
use Rattle.bt_json.proofs.Halves.{Split, split_is, no_halves, halves_are, too_many_halves}
use Rattle.bt_json.proofs.decimal.whole_and_half.Goals as goal

pub returns-in_default-clause-none : goal.returns-in_default-clause-none
returns-in_default-clause-none c =
    let ds = c.args.digits.now in
    let s : Split (number_from_digits 10 ds) (number_from_digits 10 c.split_at.result.0.now) (number_from_digits 10 c.split_at.result.1.now) (10 ^ length c.split_at.result.1.now) (length ds) c.args.places =
    rw (c.split_at.ensures.front, c.split_at.ensures.back, c.saturating_sub.ensures) (split_is ds c.args.places c.requires) in
    let h = c.in_default.ensures in
    λ m e. absurd (no_halves _ _ _ _ _ c.args.places _ s (λ le. search rules) h.0 h.1 m e)

pub returns-in_default-number_of_digits-clause-none : goal.returns-in_default-number_of_digits-clause-none
returns-in_default-number_of_digits-clause-none c =
    let ds = c.args.digits.now in
    let s : Split (number_from_digits 10 ds) (number_from_digits 10 c.split_at.result.0.now) (number_from_digits 10 c.split_at.result.1.now) (10 ^ length c.split_at.result.1.now) (length ds) c.args.places =
    rw (c.split_at.ensures.front, c.split_at.ensures.back, c.saturating_sub.ensures) (split_is ds c.args.places c.requires) in
    λ m e. too_many_halves _ _ _ _ _ c.args.places s (c.in_default-number_of_digits.ensures) m e

pub returns-clause-some : goal.returns-clause-some
returns-clause-some c =
    let ds = c.args.digits.now in
    let s : Split (number_from_digits 10 ds) (number_from_digits 10 c.split_at.result.0.now) (number_from_digits 10 c.split_at.result.1.now) (10 ^ length c.split_at.result.1.now) (length ds) c.args.places =
    rw (c.split_at.ensures.front, c.split_at.ensures.back, c.saturating_sub.ensures) (split_is ds c.args.places c.requires) in
    let n = c.in-Some-number_of_digits.ensures in
    rw n (halves_are _ _ _ _ _ c.args.places c.in-Some.half _ s (λ h. search rules) (c.in-Some.ensures))
