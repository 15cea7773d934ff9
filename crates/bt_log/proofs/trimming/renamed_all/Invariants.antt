use Rattle.std.proofs.Common.{take}
use Rattle.std.specs.List.{AllZip}
use Rattle.bt_log.specs.Trimming.{IsRenamed}
use Rattle.bt_log.proofs.trimming.renamed_all.Given as goal

abbrev pub invariant-loop-hint : goal.invariant-loop-hint
invariant-loop-hint l = AllZip (IsRenamed l.first l.kept.places.items l.place) (take l.hint-index l.hints) l.again.items
