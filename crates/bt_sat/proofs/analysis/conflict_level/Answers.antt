use Rattle.bt_sat.proofs.ConflictLevels
use Rattle.bt_sat.proofs.analysis.conflict_level.Goals as goal

pub returns-then-level-gt0 : goal.returns-then-level-gt0
returns-then-level-gt0 c =
    ConflictLevels.cut_high c.args.search.now c.args.agenda.now c.top_level-level.result c.start-root.result c.start-current.result c.top_level-level.ensures c.if-level-gt0.true c.start-root.ensures
    c.start-current.ensures

pub returns-else-level-gt0 : goal.returns-else-level-gt0
returns-else-level-gt0 c =
    ConflictLevels.cut_low c.args.search.now c.args.agenda.now c.top_level-level.result c.start-root.result c.top_level-level.ensures c.if-level-gt0.false c.start-root.ensures
