use Rattle.std.proofs.Common.{◌≡◌, pos, ◌*ℤ◌, Less, Equal, Greater, ap, refl, rules, sym, ◌∙◌, subst, FitsSigned, w64, ℤ}
use Rattle.std.specs.Int.{w32}
use Rattle.bt_frac.proofs.Ring.{products}
use Rattle.std.proofs.lemmas.Cmp.{int_ranked}
use Rattle.std.proofs.lemmas.Int.{to_z-of_z}
use Rattle.bt_pivot.specs.inner.ShortPoints.{BreaksTiny}
use Rattle.bt_pivot.proofs.ShortPoints.{below_breaks, above_breaks, level_breaks}
use Rattle.bt_pivot.proofs.short_points.sums_break.Goals as goal

pivoted : (a b : ℤ) → a *ℤ b ≡ b *ℤ a
pivoted a b = simp products

pub returns-in-Less : goal.returns-in-Less
returns-in-Less c row same rests =
    let first : FitsSigned w32 c.args.rest.value = search rules in
    let second : FitsSigned w64 c.from.result = search rules in
    let third : FitsSigned w64 c.multiple-level.result = search rules in
    let product = simp to_z-of_z at c.multiple-level.ensures in
    let level = product ∙ ap (λ z. z *ℤ c.args.rest.value) c.from.ensures ∙ pivoted (pos c.args.sums.under) c.args.rest.value in
    let order = simp to_z-of_z at c.in-Less.ensures in
    let less = int_ranked c.args.sums.value c.multiple-level.result Less order in
    let whole = ap (λ d. d.value) rests in
    (λ h. below_breaks row c.args.sums c.args.rest.value c.multiple-level.result whole level less, λ h. refl)

pub returns-in-Equal : goal.returns-in-Equal
returns-in-Equal c row same rests =
    let first : FitsSigned w32 c.args.rest.value = search rules in
    let second : FitsSigned w64 c.from.result = search rules in
    let third : FitsSigned w64 c.multiple-level.result = search rules in
    let fourth : FitsSigned w64 c.args.sums.tiny = search rules in
    let product = simp to_z-of_z at c.multiple-level.ensures in
    let level = product ∙ ap (λ z. z *ℤ c.args.rest.value) c.from.ensures ∙ pivoted (pos c.args.sums.under) c.args.rest.value in
    let order = simp to_z-of_z at c.in-Equal.ensures in
    let even = int_ranked c.args.sums.value c.multiple-level.result Equal order in
    let whole = ap (λ d. d.value) rests in
    let tiny = simp to_z-of_z at c.breaks_tiny.ensures in
    let both = level_breaks row c.args.sums c.args.rest.value c.multiple-level.result whole level even in (
      λ h. both.0 (subst (λ r. BreaksTiny r (record { over = c.args.sums.tiny; under = c.args.sums.under })) (sym same) (tiny.0 h)),
      λ h. tiny.1 (subst (λ r. BreaksTiny r (record { over = c.args.sums.tiny; under = c.args.sums.under })) same (both.1 h)),
    )

pub returns-in-Greater : goal.returns-in-Greater
returns-in-Greater c row same rests =
    let first : FitsSigned w32 c.args.rest.value = search rules in
    let second : FitsSigned w64 c.from.result = search rules in
    let third : FitsSigned w64 c.multiple-level.result = search rules in
    let product = simp to_z-of_z at c.multiple-level.ensures in
    let level = product ∙ ap (λ z. z *ℤ c.args.rest.value) c.from.ensures ∙ pivoted (pos c.args.sums.under) c.args.rest.value in
    let order = simp to_z-of_z at c.in-Greater.ensures in
    let more = int_ranked c.args.sums.value c.multiple-level.result Greater order in
    let whole = ap (λ d. d.value) rests in
    let both = above_breaks row c.args.sums c.args.rest.value c.multiple-level.result whole level more in
    (λ h. both.0 (same ∙ c.is_equation.ensures.0 h), λ h. c.is_equation.ensures.1 (sym same ∙ both.1 h))
