use Rattle.std.proofs.Common.{◌≡◌, ◌<◌, ◌∙◌, arith, get_or, length, sym, subst}
use Rattle.std.proofs.lemmas.Bool.{false≢true}
use Rattle.std.proofs.lemmas.List.{get_or_default}
use Rattle.bt_cnf.specs.Truths.{LacksValue}
use Rattle.bt_choosers.proofs.Listing.{none_beyond, pass_more}
use Rattle.bt_choosers.proofs.order.pass.Goals as goal

pub loop-place-preserved : goal.loop-place-preserved
loop-place-preserved c =
    let values = c.args.values.now in
    let vars = c.args.vars.now in
    let place = c.loop-place.place in
    let var = c.index-vars-place.result in
    let small : place < length vars = omega arith in
    let at : var ≡ get_or vars place 0 = c.index-vars-place.is ∙ get_or_default vars place var 0 small in
    pass_more values vars c.args.from place small (λ lacks. false≢true (sym c.if-lacks_value.false ∙ c.lacks_value.ensures.1 (subst (LacksValue values) (sym at) lacks)))
    c.loop-place.invariant

pub returns-then-lacks_value : goal.returns-then-lacks_value
returns-then-lacks_value c =
    let values = c.args.values.now in
    let vars = c.args.vars.now in
    let place = c.loop-place.place in
    let var = c.index-vars-place.result in record {
      left = c.loop-place.invariant;
      found = λ d small.
          let at : var ≡ get_or vars place d = c.index-vars-place.is ∙ get_or_default vars place var d small in
          subst (LacksValue values) at (c.lacks_value.ensures.0 c.if-lacks_value.true);
    }

pub returns : goal.returns
returns c = record {
  left = λ v lacks among. absurd (none_beyond c.args.vars.now c.loop-place.place v (omega arith) (c.loop-place.invariant v lacks among));
  found = λ d small. absurd (omega (arith, small));
}
