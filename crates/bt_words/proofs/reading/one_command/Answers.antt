use Rattle.bt_words.proofs.OneCommand.{same_command}
use Rattle.bt_words.proofs.reading.one_command.Goals as goal

pub returns : goal.returns
returns c = same_command
