use Rattle.std.proofs.Common.{refl}
use Rattle.std.specs.Prelude.{codes}
use Rattle.bt_net.proofs.Spelling.{header_words, header_spaces, header_of}
use Rattle.bt_net.proofs.header.read_sizes.Goals as goal

pub returns-in_err-outputs-clause-none : goal.returns-in_err-outputs-clause-none
returns-in_err-outputs-clause-none c =
    rw c.from_residual-in_err-outputs.ensures (λ i o s h.
    header_spaces c.args.line.now (codes "net ") c.in_ok-after_word.field-0.now _ _ i o s c.in_ok-after_word.ensures.some refl c.in_ok-inputs.ensures.some c.in_err-outputs.ensures.none h)

pub returns-in_default-3-clause-none : goal.returns-in_default-3-clause-none
returns-in_default-3-clause-none c = λ i o s h.
    let words = header_words c.args.line.now (codes "net ") c.in_ok-after_word.field-0.now _ _ _ _ i o s c.in_ok-after_word.ensures.some refl c.in_ok-inputs.ensures.some c.in_ok-outputs.ensures.some h in
    (rw c.in_default.is-0 at c.read_whole.ensures.none) i words.0

pub returns-in_default-2-clause-none : goal.returns-in_default-2-clause-none
returns-in_default-2-clause-none c = λ i o s h.
    let words = header_words c.args.line.now (codes "net ") c.in_ok-after_word.field-0.now _ _ _ _ i o s c.in_ok-after_word.ensures.some refl c.in_ok-inputs.ensures.some c.in_ok-outputs.ensures.some h in
    (rw c.in_default.is-1 at c.read_whole-2.ensures.none) o words.1

pub returns-in_default-clause-none : goal.returns-in_default-clause-none
returns-in_default-clause-none c = λ i o s h.
    let words = header_words c.args.line.now (codes "net ") c.in_ok-after_word.field-0.now _ _ _ _ i o s c.in_ok-after_word.ensures.some refl c.in_ok-inputs.ensures.some c.in_ok-outputs.ensures.some h in
    (rw c.in_default.is-2 at c.read_whole-3.ensures.none) s words.2

pub returns-in-Some-Some-Some-clause-some : goal.returns-in-Some-Some-Some-clause-some
returns-in-Some-Some-Some-clause-some c =
    let one = c.in-Some-Some-Some.ensures.some in
    let two = c.in-Some-Some-Some.ensures'.some in
    let three = c.in-Some-Some-Some.ensures''.some in
    (one.0, two.0, three.0, header_of c.args.line.now (codes "net ") c.in_ok-after_word.field-0.now _ _ _ _ one.0 two.0 three.0 c.in_ok-after_word.ensures.some refl c.in_ok-inputs.ensures.some c.in_ok-outputs.ensures.some one.1 two.1 three.1, one.2, two.2, three.2)
