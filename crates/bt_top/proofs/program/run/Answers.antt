use Rattle.std.proofs.Common.{refl}
use Rattle.bt_top.proofs.Ended.{ends, ends_told, ends_too_long, ends_read_fault, ends_no_memory}
use Rattle.bt_top.proofs.program.run.Goals as goal

pub returns-in-Ok-clause-ends : goal.returns-in-Ok-clause-ends
returns-in-Ok-clause-ends g c = ends _ _ _ _ (ends_told _ _ _ _ _ c.in-Ok.ensures.answer c.told.ensures)

pub returns-in-Err-TooLong-clause-ends : goal.returns-in-Err-TooLong-clause-ends
returns-in-Err-TooLong-clause-ends g c =
    ends_too_long _ _ _ _ _ c.in-Err-TooLong.ensures.answer c.in-Err-TooLong.field-0-is c.told-in-Err-TooLong.ensures

pub returns-in-Err-ReadFault-clause-ends : goal.returns-in-Err-ReadFault-clause-ends
returns-in-Err-ReadFault-clause-ends g c =
    ends_read_fault _ _ _ _ c.in-Err-ReadFault.ensures.answer c.in-Err-ReadFault.field-0-is (refl, refl)

pub returns-in-Err-Memory-clause-ends : goal.returns-in-Err-Memory-clause-ends
returns-in-Err-Memory-clause-ends g c =
    ends_no_memory _ _ _ _ c.in-Err-Memory.ensures.answer c.in-Err-Memory.field-0-is (refl, refl)
