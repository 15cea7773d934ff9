use Rattle.std.proofs.Common.{take, sym, refl}
use Rattle.std.proofs.lemmas.List.{take_all}
use Rattle.std.proofs.lemmas.List.Elements.{All-same}
use Rattle.bt_farkas.proofs.Tested.{all_more}
use Rattle.bt_cert.specs.inner.Assuming.{IsFalseIn}
use Rattle.bt_cert.proofs.units.are_false.Goals as goal

pub loop-lit-preserved : goal.loop-lit-preserved
loop-lit-preserved c =
    all_more (IsFalseIn c.args.assumed.now) c.args.clause.now c.loop-lit.lit-index c.lit-item.result c.loop-lit-test.true (sym c.lit-item.is) c.loop-lit.invariant
    (c.is_false.ensures.0 c.if-not-is_false.false)

pub returns : goal.returns
returns c =
    let lits = c.args.clause.now in
    (λ h. All-same (IsFalseIn c.args.assumed.now) lits (take c.loop-lit.lit-index lits) (sym (take_all c.loop-lit.lit-index lits c.loop-lit-test.false)) c.loop-lit.invariant, λ h. refl)
