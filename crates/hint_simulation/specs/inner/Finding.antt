-- What is found: a simulation under loads and rooms.
use Rattle.bt_net.specs.Network.{Network}
use Rattle.hint_simulation.specs.declared.simulation.Found.{Found}
use Rattle.hint_simulation.specs.Simulations.{IsSimulated, IsCase}

-- a simulation of the network, with its loads and rooms
pub record IsFound (n : Network) (f : Found) : Type 0 where
  pub simulated : IsSimulated n f.simulated
  pub case : IsCase n f.case
