use Rattle.std.proofs.Common.{◌++◌, ◌∷◌, [], ap, ◌∙◌}
use Rattle.bt_linear_forms.proofs.ShortZeros.{lone_one}
use Rattle.bt_linear_forms.proofs.short.copying.lone_short.Goals as goal

pub invariant_of-result : goal.invariant_of-result
invariant_of-result c =
    (lone_one c.args.position c.push.new.self.items c.requires (c.in_ok-push.ensures.items ∙ ap (λ l. l ++ c.in-Some.entry ∷ []) c.clear.ensures.items ∙ ap (λ e. e ∷ []) c.in-Some.ensures)).0

pub returns : goal.returns
returns c =
    (lone_one c.args.position c.push.new.self.items c.requires (c.in_ok-push.ensures.items ∙ ap (λ l. l ++ c.in-Some.entry ∷ []) c.clear.ensures.items ∙ ap (λ e. e ∷ []) c.in-Some.ensures)).1
