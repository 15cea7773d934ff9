use Rattle.bt_extend.proofs.OneDefinition.{printed_definition_is_read}
use Rattle.bt_extend.proofs.law.printed_definition_is_read.Goals as goal

pub returns : goal.returns
returns c = printed_definition_is_read
