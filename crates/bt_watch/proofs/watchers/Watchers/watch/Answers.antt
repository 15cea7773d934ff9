use Rattle.bt_watch.proofs.Lent.{pushed_at}
use Rattle.bt_watch.proofs.watchers.Watchers.watch.Goals as goal

pub returns : goal.returns
returns c =
    pushed_at c.self.inside.lists c.args.self.now c.args.lit.now c.number.result c.args.watch c.index_mut.result.now c.push.new.self c.self.view_is c.requires c.number.ensures
    c.index_mut.ensures.value c.in_ok-push.ensures.items
