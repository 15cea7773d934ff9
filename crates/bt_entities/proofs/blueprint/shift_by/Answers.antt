use Rattle.bt_entities.proofs.Placed.{first_shift, told_first_off}
use Rattle.bt_entities.proofs.blueprint.shift_by.Goals as goal

pub returns-in-Some-shift : goal.returns-in-Some-shift
returns-in-Some-shift c = λ major first v p h. first_shift major first v c.args.set c.args.piece.now c.in-Some-shift.shift c.in_default.is h p c.in-Some-shift.ensures

pub returns-in-None : goal.returns-in-None
returns-in-None c = λ major first v p h members. told_first_off members major first c.args.place v c.args.set c.args.piece.now c.in_default.is h p c.in-None.ensures
