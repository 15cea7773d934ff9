use Rattle.bt_model.specs.inner.Sight.{LooksToward}
use Rattle.bt_model.proofs.SightLemmas.{some_tells}
use Rattle.bt_recover.proofs.sight.is_seen.Goals as goal

pub returns : goal.returns
returns c = some_tells (LooksToward c.args.grid.now c.args.cell c.args.dir) c.looker.result c.is_some.result c.is_some.ensures c.looker.ensures.seen
