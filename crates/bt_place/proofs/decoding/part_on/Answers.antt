use Rattle.bt_place.proofs.Gathering.{none_on_empty, none_on_greater}
use Rattle.bt_place.proofs.decoding.part_on.Goals as goal

pub returns-in_default : goal.returns-in_default
returns-in_default c = none_on_empty c.args.reading.now c.requires.solved c.args.i c.requires.within c.in_default.ensures

pub returns-in_default-kind_of : goal.returns-in_default-kind_of
returns-in_default-kind_of c =
    none_on_greater c.args.reading.now c.requires.solved c.args.i c.in-Turned.shape c.in-Turned.dir
    c.requires.within c.in-Turned.ensures c.in_default-kind_of.ensures
