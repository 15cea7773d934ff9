use Rattle.std.proofs.Common.{◌∷◌, Less, Greater, refl, arith, pos, ◌<ℤ◌, sym, subst, []}
use Rattle.std.proofs.lemmas.Int.{ints}
use Rattle.bt_frac.specs.Ratio.{negated}
use Rattle.bt_linear_forms.specs.Lines.{signed_terms, one}
use Rattle.bt_linear_forms.specs.TermSigns.{IsSignedTerm}
use Rattle.bt_simplex.proofs.bland.alone_sign.Goals as goal

pub returns-then-negated : goal.returns-then-negated
returns-then-negated c position =
    let below : (negated one).over <ℤ pos 0 = omega (arith, ints) in
    subst (λ n. IsSignedTerm (signed_terms n ((position, one) ∷ [])) 0 (position, Less)) (sym c.if-negated.true) (negated one, refl, below)

pub returns-else-negated : goal.returns-else-negated
returns-else-negated c position =
    let above : pos 0 <ℤ pos 1 = omega (arith, ints) in
    subst (λ n. IsSignedTerm (signed_terms n ((position, one) ∷ [])) 0 (position, Greater)) (sym c.if-negated.false) (one, refl, above)
