use Rattle.bt_extend.proofs.DefinitionTexts.{no_named}
use Rattle.bt_extend.proofs.item.NamedLitItem.read.Goals as goal

pub returns-in-None-clause-none : goal.returns-in-None-clause-none
returns-in-None-clause-none c = no_named c.args.bytes.now c.in-None.ensures.none
