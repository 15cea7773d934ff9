use Rattle.std.proofs.Common.{rules, sym, subst}
use Rattle.bt_net.specs.declared.network.End.TheVariants.{Input}
use Rattle.bt_net.specs.declared.network.Ends.TheVariants.{Inputs}
use Rattle.bt_model.specs.Requests.{ShareEnd}
use Rattle.bt_model.proofs.demanding.names_inputs.Goals as goal

pub returns-in-Inputs : goal.returns-in-Inputs
returns-in-Inputs c = (λ t. subst (ShareEnd Inputs) (sym c.in-Inputs.is) (Input 0, tt, tt), λ h. search rules)
