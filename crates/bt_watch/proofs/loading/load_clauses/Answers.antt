use Rattle.std.proofs.Common.{arith}
use Rattle.bt_watch.proofs.Loaded.{all_loaded}
use Rattle.bt_watch.proofs.loading.load_clauses.Goals as goal

pub returns-clause-stands : goal.returns-clause-stands
returns-clause-stands c = all_loaded c.args.formula.now.clauses c.loop-number.number c.loop-number.search c.loop-number.invariant.loaded (omega arith)
