use Rattle.bt_pivot.proofs.Named.{slot_zero_told}
use Rattle.bt_pivot.proofs.pivoting.slot_zero.Goals as goal

pub returns-in-Some-2-clause-zero : goal.returns-in-Some-2-clause-zero
returns-in-Some-2-clause-zero c =
    slot_zero_told c.args.slot.now c.args.leaves c.args.enters c.in-Some.line c.in_ok-zero.field-0 c.in-Some-2.zero c.requires.can c.in-Some.is c.whole_zero.ensures.known c.in-Some-2.is c.in_ok-zero.ensures.zero
