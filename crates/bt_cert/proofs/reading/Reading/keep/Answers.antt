use Rattle.std.proofs.Common.{◌≡◌, ◌++◌, sym, arith}
use Rattle.std.proofs.lemmas.Grind.{common_steps}
use Rattle.bt_cert.proofs.Stages.{part_reads}
use Rattle.bt_cert.proofs.reading.Reading.keep.Goals as goal

pub returns-else-is_err-clause-reads : goal.returns-else-is_err-clause-reads
returns-else-is_err-clause-reads c =
    let kept : c.extend_from_slice.new.self.items ≡ c.self.inside.part.items ++ c.args.part.now = grind (arith, common_steps, c.extend_from_slice.ensures.items, c.is_err.ensures.value) in
    part_reads c.args.self.now _ c.args.part.now c.extend_from_slice.new.self.items (sym c.self.view_is) kept c.requires.stage c.requires.lacks
