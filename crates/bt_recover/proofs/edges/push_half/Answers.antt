use Rattle.std.proofs.Common.{[], ◌∷◌, ◌++◌, ◌∙◌, ap, inr, refl}
use Rattle.bt_model.specs.Chains.{leaves}
use Rattle.bt_recover.proofs.edges.push_half.Goals as goal

pub returns : goal.returns
returns c =
    inr (c.in-Some.way, c.in-Some.ensures, c.in_ok-push.ensures.items ∙ ap (λ j. c.args.joints.now.items ++ j ∷ []) (c.joint_of.ensures (leaves c.args.s c.args.half) refl))
