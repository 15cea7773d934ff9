use Rattle.std.proofs.Common.{leb, leb-true, arith, rules, ℕ}
use Rattle.std.proofs.lemmas.Bool.{leb-false}
use Rattle.std.proofs.lemmas.List.Sorted.{IsPartitionPoint-from_clause, IsPartitionedBy-leb}
use Rattle.bt_watch.proofs.levels.level_of.Goals as goal

pub returns : goal.returns
returns c =
    let parted = IsPartitionedBy-leb (λ (n : ℕ). n) _ c.args.place c.requires in
    let point = IsPartitionPoint-from_clause (λ (n : ℕ). leb n c.args.place) _ _ c.partition_point.ensures.partitioned parted (λ a r q k. search rules) in
    record {
      within = c.partition_point.ensures.bound;
      before = λ j small. leb-true _ _ (point.0 j 0 (omega arith) small);
      after = λ j late small. leb-false _ _ (point.1 j 0 late small);
    }
