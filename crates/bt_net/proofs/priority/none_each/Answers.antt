use Rattle.std.proofs.Common.{◌≡◌, ◌∙◌, ◌++◌, ◌∷◌, [], None, ap, subst, arith}
use Rattle.bt_net.specs.Network.{none_each}
use Rattle.bt_net.proofs.Preference.{one_more_none}
use Rattle.bt_net.proofs.priority.none_each.Goals as goal

pub loop-init : goal.loop-init
loop-init c = c.new-edges.ensures.items

pub loop-preserved : goal.loop-preserved
loop-preserved c = c.in_ok-push.ensures.items ∙ ap (λ es. es ++ None ∷ []) c.loop.invariant ∙ one_more_none c.loop.counter

pub returns : goal.returns
returns c = subst (λ k. c.loop.edges.items ≡ none_each k) (omega arith) c.loop.invariant
