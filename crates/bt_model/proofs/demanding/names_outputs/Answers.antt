use Rattle.std.proofs.Common.{rules, sym, subst}
use Rattle.bt_net.specs.declared.network.End.TheVariants.{Output}
use Rattle.bt_net.specs.declared.network.Ends.TheVariants.{Outputs}
use Rattle.bt_model.specs.Requests.{ShareEnd}
use Rattle.bt_model.proofs.demanding.names_outputs.Goals as goal

pub returns-in-Outputs : goal.returns-in-Outputs
returns-in-Outputs c = (λ t. subst (ShareEnd Outputs) (sym c.in-Outputs.is) (Output 0, tt, tt), λ h. search rules)
