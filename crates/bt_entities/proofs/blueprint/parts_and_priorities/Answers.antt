use Rattle.bt_text.specs.Answers.{seen}
use Rattle.bt_json.specs.Stands.{json_of}
use Rattle.bt_entities.specs.Answers.{parts_and_priorities_in}
use Rattle.bt_entities.proofs.OneAnswer.{priorities_answer}
use Rattle.bt_entities.proofs.blueprint.parts_and_priorities.Goals as goal

pub returns : goal.returns
returns c = priorities_answer (json_of c.args.tree.now) (seen parts_and_priorities_in c.read_as.result) c.read_as.ensures
