use Rattle.std.proofs.Common.{◌≡◌, ◌++◌, true, codes, refl}
use Rattle.bt_flow.specs.Names.{property_name}
use Rattle.bt_print.specs.declared.answer.Brief.TheVariants.{Yes}
use Rattle.bt_top.proofs.FlowFronts.{yes_is_front, state_is_front, other_is_front}
use Rattle.bt_top.proofs.flow_front.behind_title.Goals as goal

pub returns-then-says_yes : goal.returns-then-says_yes
returns-then-says_yes c = λ ended told.
    let written = c.args.written in
    yes_is_front written.net written.property ended written.text.now c.args.title.now c.args.lines.now told c.requires (c.says_yes.ensures.0 c.if-says_yes.true)
    (record { formula = c.in_ok-formula.formula; lines = c.args.lines; accepted = Yes written.property }) c.in_ok-formula.ensures.formula refl refl

pub returns-then-says_no : goal.returns-then-says_no
returns-then-says_no c = λ ended told.
    let written = c.args.written in
    state_is_front written.net written.property ended written.text.now c.args.title.now c.args.lines.now told
    (λ (e : c.args.title.now ≡ codes "yes " ++ property_name c.args.written.property). (let said : c.says_yes.result ≡ true = c.says_yes.ensures.1 e in cc (c.if-says_yes.false))) written refl refl refl

pub returns : goal.returns
returns c = λ ended told.
    let written = c.args.written in
    other_is_front written.net written.property ended written.text.now c.args.title.now c.args.lines.now told
    (λ (e : c.args.title.now ≡ codes "yes " ++ property_name c.args.written.property). (let said : c.says_yes.result ≡ true = c.says_yes.ensures.1 e in cc (c.if-says_yes.false)))
    (λ (e : c.args.title.now ≡ codes "no " ++ property_name c.args.written.property). (let said : c.says_no.result ≡ true = c.says_no.ensures.1 e in cc (c.if-says_no.false)))
