use Rattle.bt_demands.proofs.Sharing.{told_names}
use Rattle.bt_demands.proofs.classes.is_named.Goals as goal

pub returns : goal.returns
returns c = told_names c.names.result c.args.ends c.args.end c.names.ensures.0 c.names.ensures.1
