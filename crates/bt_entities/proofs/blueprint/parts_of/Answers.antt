use Rattle.std.specs.Prelude.{Ok, Err}
use Rattle.bt_json.specs.Stands.{json_of}
use Rattle.bt_entities.proofs.OneAnswer.{parts_answers, parts_alone}
use Rattle.bt_entities.proofs.blueprint.parts_of.Goals as goal

pub returns-in-Ok : goal.returns-in-Ok
returns-in-Ok c = parts_answers (json_of c.args.tree.now) (Ok _) (parts_alone (json_of c.args.tree.now) _ c.in-Ok.ensures)

pub returns : goal.returns
returns c = parts_answers (json_of c.args.tree.now) (Err c.in-Err.fault) c.in-Err.ensures
