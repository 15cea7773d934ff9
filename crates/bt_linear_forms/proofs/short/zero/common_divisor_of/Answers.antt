use Rattle.std.proofs.Common.{FitsSigned, rules, ◌≤◌, ◌∙◌, arith, length, ap, sym, subst, unsigned_abs}
use Rattle.std.specs.Int.{w64}
use Rattle.std.specs.List.{All}
use Rattle.std.proofs.lemmas.Int.{to_z-of_z}
use Rattle.std.proofs.lemmas.List.{take_all}
use Prim.Native.Nat.{◌∣◌}
use Rattle.bt_linear_forms.specs.Shorts.{IsSmall}
use Rattle.bt_linear_forms.proofs.ShortZeros.{common_more}
use Rattle.bt_linear_forms.proofs.short.zero.common_divisor_of.Goals as goal

pub magnitude-requires : goal.magnitude-requires
magnitude-requires c =
    let fits : FitsSigned w64 c.number.result = search rules in
    let number = c.number.ensures ∙ ap (λ e. e.1) c.term-item.is in
    simp to_z-of_z (subst (λ z. IsSmall z) (sym number) (c.requires.small c.loop-term.term-index c.term-item.result c.loop-term-test.true))

pub loop-term-preserved : goal.loop-term-preserved
loop-term-preserved c =
    let fits : FitsSigned w64 c.number.result = search rules in
    let number = c.number.ensures ∙ ap (λ e. e.1) c.term-item.is in
    let size = simp to_z-of_z at c.magnitude.ensures in
    common_more c.args.terms.now c.loop-term.term-index c.term-item.result c.loop-term.common c.args.under c.magnitude.result c.common_divisor-common.result c.loop-term-test.true (size ∙ ap unsigned_abs number)
    c.common_divisor-common.ensures c.loop-term.invariant

pub returns-clause-terms : goal.returns-clause-terms
returns-clause-terms c =
    let past : length c.args.terms.now ≤ c.loop-term.term-index = omega arith in
    subst (λ l. All (λ t. c.loop-term.common ∣ unsigned_abs t.1) l) (take_all c.loop-term.term-index c.args.terms.now past) c.loop-term.invariant.2
