use Rattle.std.proofs.Common.{◌∙◌}
use Rattle.bt_flow_formula.proofs.Kept.{steady_kept}
use Rattle.bt_flow_formula.proofs.encoding.encode_steady.Goals as goal

pub returns-clause-formula : goal.returns-clause-formula
returns-clause-formula c = c.in_ok-formula.ensures.formula ∙ steady_kept c.args.net.now c.in_ok-pairs.pairs c.in_ok-pairs.ensures c.in_ok-formula.ensures.network
