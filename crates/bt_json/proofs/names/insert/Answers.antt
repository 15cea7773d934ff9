use Rattle.bt_json.proofs.NameLemmas.{added_name}
use Rattle.bt_json.proofs.names.insert.Goals as goal

pub returns-clause-added : goal.returns-clause-added
returns-clause-added c = added_name c.args.set.now.keys c.in_ok-from_str.field-0 c.args.name.now c.in_ok-added.added c.in_ok-from_str.ensures.ok c.in_ok-added.ensures.added
