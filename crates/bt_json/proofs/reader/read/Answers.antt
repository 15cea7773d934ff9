use Rattle.bt_json.proofs.OneRead.{front_told, read_answers}
use Rattle.bt_json.proofs.reader.read.Goals as goal

pub returns-clause-answer : goal.returns-clause-answer
returns-clause-answer c = read_answers c.args.bytes.now _ (front_told c.args.bytes.now c.read_value.result c.read_value.ensures.read)
