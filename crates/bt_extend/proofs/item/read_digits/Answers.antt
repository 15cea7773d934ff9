use Rattle.std.proofs.Common.{get_or, arith}
use Rattle.std.specs.Int.{IsInRange}
use Rattle.std.proofs.lemmas.Int.Digits.{digits_value_more, digits_more}
use Rattle.std.proofs.lemmas.Grind.{common_steps}
use Rattle.std.proofs.lemmas.Str.{digit_value_digit}
use Rattle.std.proofs.lemmas.Str.Parse.{digit_at}
use Rattle.bt_extend.proofs.Numbers.{value_so_far}
use Rattle.bt_extend.proofs.item.read_digits.Goals as goal

pub returns-then-not-is_ascii_digit-clause-none : goal.returns-then-not-is_ascii_digit-clause-none
returns-then-not-is_ascii_digit-clause-none c = λ all.
    let inside = digit_at c.args.word.now c.loop-digit.digit-index all (omega arith) in
    grind (arith, common_steps, inside, c.is_ascii_digit.ensures.value)

pub overflow_mul-value : goal.overflow_mul-value
overflow_mul-value c =
    let below = value_so_far c.args.word.now c.loop-digit.digit-index c.loop-digit.invariant.digits (omega arith) (omega arith) in
    let value = c.loop-digit.invariant.value in
    omega arith

pub overflow_add-value : goal.overflow_add-value
overflow_add-value c =
    let below = value_so_far c.args.word.now c.loop-digit.digit-index c.loop-digit.invariant.digits (omega arith) (omega arith) in
    let value = c.loop-digit.invariant.value in
    let word = c.args.word.now in
    let i = c.loop-digit.digit-index in
    let digit : IsInRange 48 57 (get_or word i 0) = (grind (arith, common_steps, c.is_ascii_digit.ensures.value), grind (arith, common_steps, c.is_ascii_digit.ensures.value)) in
    omega arith

pub loop-digit-preserved : goal.loop-digit-preserved
loop-digit-preserved c =
    let word = c.args.word.now in
    let i = c.loop-digit.digit-index in
    let digit : IsInRange 48 57 (get_or word i 0) = (grind (arith, common_steps, c.is_ascii_digit.ensures.value), grind (arith, common_steps, c.is_ascii_digit.ensures.value)) in
    let is = digit_value_digit (get_or word i 0) digit in
    let more = digits_value_more 10 word i (omega arith) in
    let value = c.loop-digit.invariant.value in
    record {
      digits = digits_more 10 word i (omega arith) c.loop-digit.invariant.digits (omega arith);
      value = omega arith;
    }
