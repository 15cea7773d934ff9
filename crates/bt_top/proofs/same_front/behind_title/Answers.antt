use Rattle.std.proofs.Common.{◌≡◌, true, codes, refl}
use Rattle.bt_print.specs.declared.answer.Brief.TheVariants.{ShownSame}
use Rattle.bt_top.proofs.SameFronts.{same_is_front, pair_is_front, other_is_front}
use Rattle.bt_top.proofs.same_front.behind_title.Goals as goal

pub returns-then-says_same : goal.returns-then-says_same
returns-then-says_same c = λ ended told.
    let written = c.args.written in
    same_is_front written.first written.second ended written.text.now c.args.title.now c.args.lines.now told c.in_ok-formula.ensures.networks c.requires (c.says_same.ensures.0 c.if-says_same.true)
    (record { formula = c.in_ok-formula.formula; lines = c.args.lines; accepted = ShownSame }) c.in_ok-formula.ensures.formula refl refl

pub returns-then-says_differ : goal.returns-then-says_differ
returns-then-says_differ c = λ ended told.
    let written = c.args.written in
    pair_is_front written.first written.second ended written.text.now c.args.title.now c.args.lines.now told c.requires
    (λ (e : c.args.title.now ≡ codes "same"). (let said : c.says_same.result ≡ true = c.says_same.ensures.1 e in cc (c.if-says_same.false))) written refl refl refl

pub returns : goal.returns
returns c = λ ended told.
    let written = c.args.written in
    other_is_front written.first written.second ended written.text.now c.args.title.now c.args.lines.now told
    (λ (e : c.args.title.now ≡ codes "same"). (let said : c.says_same.result ≡ true = c.says_same.ensures.1 e in cc (c.if-says_same.false)))
    (λ (e : c.args.title.now ≡ codes "differ"). (let said : c.says_differ.result ≡ true = c.says_differ.ensures.1 e in cc (c.if-says_differ.false)))
