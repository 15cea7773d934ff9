use Rattle.std.proofs.Common.{◌≡◌, true, refl}
use Rattle.bt_print.specs.declared.answer.Brief.TheVariants.{NoLayout}
use Rattle.bt_print.specs.Answers.{none_word}
use Rattle.bt_top.proofs.LayoutFronts.{none_is_front, other_is_front}
use Rattle.bt_top.proofs.layout_front.behind_title.Goals as goal

pub returns-then-says_none : goal.returns-then-says_none
returns-then-says_none c = λ ended text told.
    none_is_front c.args.request.now ended text c.args.title.now c.args.lines.now told c.requires (c.says_none.ensures.0 c.if-says_none.true)
    (record { formula = c.in_ok-formula.formula; lines = c.args.lines; accepted = NoLayout }) c.in_ok-formula.ensures.formula refl refl

pub returns : goal.returns
returns c = λ ended text told.
    other_is_front c.args.request.now ended text c.args.title.now c.args.lines.now told
    (λ (e : c.args.title.now ≡ none_word). (let none : c.says_none.result ≡ true = c.says_none.ensures.1 e in cc (c.if-says_none.false)))
