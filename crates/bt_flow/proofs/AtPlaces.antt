-- The ports of a trial at a place, and its flows and ends there.
use Rattle.std.proofs.Common.{ℕ, ◌<◌, List, length, get_or, arith}
use Rattle.bt_frac.specs.Ratio.{Ratio}
use Rattle.bt_net.specs.Network.{Network}
use Rattle.bt_flow.specs.declared.ports.Port.{Port}
use Rattle.bt_flow.specs.declared.ports.Port.TheVariants.{Unused}
use Rattle.bt_flow.specs.declared.ports.Ports.{Ports}
use Rattle.bt_flow.specs.declared.ports.Role.{Role}
use Rattle.bt_flow.specs.declared.ports.Role.TheVariants.{FromInput, ToOutput, OutOf, Into}
use Rattle.bt_flow.specs.States.{Fractions}
use Rattle.bt_flow.specs.Ports.{IsPort}
use Rattle.bt_flow.specs.inner.AtPorts.{AtEach}
use Rattle.bt_flow.specs.inner.Trials.{IsReady}
use Rattle.bt_flow.proofs.Each.{port_below}

module _ (n : Network) (ports : Ports) (t : Fractions) (flows : List Ratio) (ready : IsReady n ports t flows) (k : ℕ) where
  pub port_of_input : k < n.inputs → IsPort n FromInput k (get_or ports.inputs k Unused)
  port_of_input l = ready.ports.inputs.at k (let few = ready.ports.network.few_inputs in omega (arith, few, l)) Unused

  pub port_of_output : k < n.outputs → IsPort n ToOutput k (get_or ports.outputs k Unused)
  port_of_output l = ready.ports.outputs.at k (let few = ready.ports.network.few_outputs in omega (arith, few, l)) Unused

  pub port_into : k < n.splitters → IsPort n Into k (get_or ports.into k Unused)
  port_into l = ready.ports.into.at k (let few = ready.ports.network.few_splitters in omega (arith, few, l)) Unused

  pub port_out_of : k < n.splitters → IsPort n OutOf k (get_or ports.out_of k Unused)
  port_out_of l = ready.ports.out_of.at k (let few = ready.ports.network.few_splitters in omega (arith, few, l)) Unused

  pub has_load : k < n.inputs → k < length t.loads
  has_load l = let e = ready.fits.loads in omega (arith, e, l)

  pub has_room : k < n.outputs → k < length t.rooms
  has_room l = let e = ready.fits.rooms in omega (arith, e, l)

  pub flows_below : (r : Role) (port : Port) → IsPort n r k port → AtEach port (λ a. a < length t.flows)
  flows_below r port is = port_below n r k port is (length t.flows) ready.fits.flows

  pub marks_below : (r : Role) (port : Port) → IsPort n r k port → AtEach port (λ a. a < length t.backed)
  marks_below r port is = port_below n r k port is (length t.backed) ready.fits.backed
