use Rattle.std.proofs.Common.{pos, ◌≡◌, ◌*ℤ◌, ◌<ℤ◌, Less, Equal, Greater, ap, rules, sym, ◌∙◌, subst, FitsSigned, w64, ℤ}
use Rattle.std.specs.Cmp.{int_ranks}
use Rattle.std.specs.Int.{w32}
use Rattle.std.specs.Ordering.{MatchOrdering}
use Rattle.bt_frac.proofs.Ring.{products}
use Rattle.std.proofs.lemmas.Cmp.{int_ranked}
use Rattle.std.proofs.lemmas.Int.{to_z-of_z}
use Rattle.bt_pivot.proofs.ShortPoints.{order_less, order_more, order_tiny}
use Rattle.bt_pivot.proofs.short_points.sums_order.Goals as goal

pivoted : (a b : ℤ) → a *ℤ b ≡ b *ℤ a
pivoted a b = simp products

pub returns-in-Less : goal.returns-in-Less
returns-in-Less c =
    let first : FitsSigned w32 c.args.rest.value = search rules in
    let second : FitsSigned w64 c.from.result = search rules in
    let third : FitsSigned w64 c.multiple-level.result = search rules in
    let product = simp to_z-of_z at c.multiple-level.ensures in
    let level = product ∙ ap (λ z. z *ℤ c.args.rest.value) c.from.ensures ∙ pivoted (pos c.args.sums.under) c.args.rest.value in
    let order = simp to_z-of_z at c.in-Less.ensures in
    let less = int_ranked c.multiple-level.result c.args.sums.value Less order in
    order_less c.args.rest.value c.args.rest.tiny c.args.sums c.multiple-level.result level less

pub returns-in-Greater : goal.returns-in-Greater
returns-in-Greater c =
    let first : FitsSigned w32 c.args.rest.value = search rules in
    let second : FitsSigned w64 c.from.result = search rules in
    let third : FitsSigned w64 c.multiple-level.result = search rules in
    let product = simp to_z-of_z at c.multiple-level.ensures in
    let level = product ∙ ap (λ z. z *ℤ c.args.rest.value) c.from.ensures ∙ pivoted (pos c.args.sums.under) c.args.rest.value in
    let order = simp to_z-of_z at c.in-Greater.ensures in
    let more = int_ranked c.multiple-level.result c.args.sums.value Greater order in
    order_more c.args.rest.value c.args.rest.tiny c.args.sums c.multiple-level.result level more

pub returns-in-Equal : goal.returns-in-Equal
returns-in-Equal c =
    let first : FitsSigned w32 c.args.rest.value = search rules in
    let second : FitsSigned w64 c.from.result = search rules in
    let third : FitsSigned w64 c.multiple-level.result = search rules in
    let fourth : FitsSigned w32 c.args.rest.tiny = search rules in
    let fifth : FitsSigned w64 c.from-in-Equal.result = search rules in
    let sixth : FitsSigned w64 c.multiple-tiny.result = search rules in
    let product = simp to_z-of_z at c.multiple-level.ensures in
    let level = product ∙ ap (λ z. z *ℤ c.args.rest.value) c.from.ensures ∙ pivoted (pos c.args.sums.under) c.args.rest.value in
    let product' = simp to_z-of_z at c.multiple-tiny.ensures in
    let tiny = product' ∙ ap (λ z. z *ℤ c.args.rest.tiny) c.from-in-Equal.ensures ∙ pivoted (pos c.args.sums.under) c.args.rest.tiny in
    let order = simp to_z-of_z at c.in-Equal.ensures in
    let even = int_ranked c.multiple-level.result c.args.sums.value Equal order in
    let order' = simp to_z-of_z at c.cmp-in-Equal.ensures in
    let ranks = subst (λ o. MatchOrdering o (c.multiple-tiny.result <ℤ c.args.sums.tiny) (c.multiple-tiny.result ≡ c.args.sums.tiny) (c.args.sums.tiny <ℤ c.multiple-tiny.result)) (sym order')
    (int_ranks c.multiple-tiny.result c.args.sums.tiny) in
    order_tiny c.args.rest.value c.args.rest.tiny c.args.sums c.multiple-level.result c.multiple-tiny.result c.cmp-in-Equal.result level even tiny ranks
