use Rattle.std.proofs.Common.{◌≡◌, ◌<◌, length, drop, subst, arith}
use Rattle.bt_text.specs.Blanks.{SkipsBlanks}
use Rattle.bt_designs.proofs.Blanks.{nil_of}
use Rattle.bt_designs.proofs.alone.refused_behind.Goals as goal

pub returns-then-is_empty : goal.returns-then-is_empty
returns-then-is_empty c =
    let none : length c.skip_blanks-text.result.now ≡ 0 = grind arith in
    subst (λ text. SkipsBlanks (drop c.args.used c.args.bytes.now) text) (nil_of c.skip_blanks-text.result.now none)
    (subst (λ rest. SkipsBlanks rest c.skip_blanks-text.result.now) c.split_at.ensures.back c.skip_blanks-text.ensures)

pub returns-else-is_empty : goal.returns-else-is_empty
returns-else-is_empty c =
    let some : 0 < length c.skip_blanks-text.result.now = grind arith in
    let text = c.skip_blanks-text.result.now in
    (text, subst (λ rest. SkipsBlanks rest text) c.split_at.ensures.back c.skip_blanks-text.ensures, some, c.refused_at.ensures)
