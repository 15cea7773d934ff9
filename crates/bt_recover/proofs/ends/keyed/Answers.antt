use Rattle.std.proofs.Common.{◌++◌, ◌∷◌, [], take, get_or, sym, subst}
use Rattle.std.proofs.lemmas.List.{take_more}
use Rattle.std.proofs.lemmas.Option.{slice_get-get_or}
use Rattle.bt_recover.specs.inner.Ends.{AreKeyed}
use Rattle.bt_recover.proofs.EndLemmas.{keyed_more}
use Rattle.bt_recover.proofs.ends.keyed.Goals as goal

pub loop-i-preserved : goal.loop-i-preserved
loop-i-preserved c =
    let indices = c.args.indices.now in
    let k = c.loop-i.i-index in
    subst (λ xs. AreKeyed c.args.parts.now xs c.push.new.self.items) (sym (take_more indices k 0 c.loop-i-test.true))
    (subst (λ ys. AreKeyed c.args.parts.now (take k indices ++ get_or indices k 0 ∷ []) ys) (sym c.in_ok-push.ensures.items)
    (keyed_more c.args.parts.now (take k indices) c.loop-i.list.items (get_or indices k 0) _ c.loop-i.invariant (slice_get-get_or c.args.parts.now (get_or indices k 0) _ (c.requires k 0 c.loop-i-test.true))))
