use Rattle.std.proofs.Common.{◌≡◌, ℕ, List, [], Option, refl, Result, Ok, Err}
use Rattle.bt_net.specs.declared.network.Block.{Block}
use Rattle.bt_net.specs.declared.network.Demand.{Demand}
use Rattle.bt_net.specs.Network.{Network}
use Rattle.bt_parts.specs.declared.part.Tier.{Tier}
use Rattle.bt_designs.specs.declared.fault.DesignFault.{DesignFault}
use Rattle.bt_designs.specs.declared.fault.DesignFault.TheVariants.{Memory}
use Rattle.bt_designs.specs.Designs.{IsJsonPreferring}
use Rattle.bt_designs.specs.Requested.{PinnedNet, pinned_laid}
use Rattle.bt_designs.specs.Steps.{went_on}
use Rattle.bt_designs.proofs.InTurns.{stops}
use Rattle.bt_designs.proofs.request.read_pinned_json.Goals as goal

-- no pins, sides, rows and blocks
without : (n : Network) (tier : Option Tier) (used : ℕ) (demands : List Demand) (blocks : List Block) → demands ≡ [] → blocks ≡ []
    → ◌≡◌ {A = Result (PinnedNet × ℕ) DesignFault} (Ok (record { net = n; demands = demands; blocks = blocks; tier = tier }, used)) (Ok (pinned_laid (record { net = n; tier = tier }), used))
without n tier used demands blocks e f = λ i. Ok (record { net = n; demands = e i; blocks = f i; tier = tier }, used)

pub returns-in-Ok-clause-design : goal.returns-in-Ok-clause-design
returns-in-Ok-clause-design c = went_on _ c.in-Ok.ensures.layout (without _ _ _ _ _ c.new-demands.ensures.items c.new-blocks.ensures.items)

pub returns-in-Err-clause-design : goal.returns-in-Err-clause-design
returns-in-Err-clause-design c =
    stops Memory Memory (IsJsonPreferring c.args.bytes.now) Err (λ found answer. answer ≡ Ok (pinned_laid found.0, found.1))
    c.in-Err.fault (Err c.in-Err.fault) refl c.in-Err.ensures.layout refl
