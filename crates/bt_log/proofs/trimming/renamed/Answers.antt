use Rattle.std.proofs.Common.{◌≡◌, ℕ, ◌+◌, ◌-◌, ◌≤◌, arith, get_or, ap, ◌∙◌}
use Rattle.std.proofs.lemmas.List.{get_or_default}
use Rattle.bt_log.specs.declared.needed.Kept.{Kept}
use Rattle.bt_log.proofs.Numbers.{found, IsFound, moved_hint}
use Rattle.bt_log.proofs.trimming.renamed.Goals as goal

-- what is read is the number
number_read : (first : ℕ) (kept : Kept) (hint read : ℕ) → IsFound first kept hint → read ≡ get_or kept.numbers.items (hint - first) read
    → read ≡ get_or kept.numbers.items (hint - first) 0
number_read first kept hint read is e = e ∙ get_or_default kept.numbers.items (hint - first) read 0 is.inside

small : (first : ℕ) (kept : Kept) (hint read : ℕ) → IsFound first kept hint → read ≡ get_or kept.numbers.items (hint - first) 0 → first + read ≤ hint
small first kept hint read is e = omega (arith, is.small, e, is.numbers)

pub index-requires : goal.index-requires
index-requires c =
    let is = found c.args.first c.args.kept.now c.args.hint c.if-first-number.true c.requires.numbered
    (c.requires.named (c.args.hint - c.args.first) c.if-number-first.true (omega arith)) in
    let inside = is.inside in
    omega (arith, inside)

pub overflow_add-result : goal.overflow_add-result
overflow_add-result c =
    let hint = c.args.hint in
    let is = found c.args.first c.args.kept.now hint c.if-first-number.true c.requires.numbered (c.requires.named (hint - c.args.first) c.if-number-first.true (omega arith)) in
    let few = small c.args.first c.args.kept.now hint c.index.result.now is (number_read c.args.first c.args.kept.now hint c.index.result.now is c.index.ensures) in
    omega (arith, few, c.ranges.hint.fits)

pub overflow_cast-result : goal.overflow_cast-result
overflow_cast-result c =
    let hint = c.args.hint in
    let is = found c.args.first c.args.kept.now hint c.if-first-number.true c.requires.numbered (c.requires.named (hint - c.args.first) c.if-number-first.true (omega arith)) in
    let few = small c.args.first c.args.kept.now hint c.index.result.now is (number_read c.args.first c.args.kept.now hint c.index.result.now is c.index.ensures) in
    omega (arith, few, c.ranges.hint.fits)

pub returns-then-number-first : goal.returns-then-number-first
returns-then-number-first c =
    let hint = c.args.hint in
    let is = found c.args.first c.args.kept.now hint c.if-first-number.true c.requires.numbered (c.requires.named (hint - c.args.first) c.if-number-first.true (omega arith)) in
    moved_hint c.args.first c.args.kept.now c.args.place hint c.if-first-number.true c.if-number-first.true is (c.args.first + c.index.result.now)
    (ap (λ n. c.args.first + n) (number_read c.args.first c.args.kept.now hint c.index.result.now is c.index.ensures))
