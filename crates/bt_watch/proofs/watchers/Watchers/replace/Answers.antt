use Rattle.std.proofs.Common.{List, set, ap, ◌∙◌}
use Rattle.std.specs.Global.{Vec}
use Rattle.bt_watch.specs.declared.clause_pool.Watch.{Watch}
use Rattle.bt_cnf.specs.Codes.{code_of}
use Rattle.bt_watch.specs.inner.Watchers.{lists_of, with_list}
use Rattle.bt_watch.specs.WatchersParts.{WatchersParts}
use Rattle.bt_watch.proofs.Lent.{put_at}
use Rattle.bt_watch.proofs.watchers.Watchers.replace.Goals as goal

pub returns-clause-put : goal.returns-clause-put
returns-clause-put c =
    let make : List (List Watch) → WatchersParts = λ lists. record { lists = lists } in
    ap make (put_at c.self.inside.lists c.args.lit.now c.number.result c.replace.new.dest c.number.ensures
    ∙ ap (λ (v : Vec Watch). set (lists_of c.self.inside.lists) (code_of c.args.lit.now) v.items) c.replace.ensures.after)
    ∙ ap (λ w. with_list w c.args.lit.now c.args.list.items) c.self.view_is
