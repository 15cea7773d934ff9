-- What a design tells.
use Rattle.std.specs.Prelude.{ℕ}
use Rattle.bt_net.specs.Network.{Network}
use Rattle.bt_designs.specs.declared.design.Design as read
use Rattle.bt_designs.specs.declared.kept.BlueprintRequest.{BlueprintRequest}
use Rattle.bt_designs.specs.declared.request.PinnedDesign.{PinnedDesign}
use Rattle.bt_model.specs.Requests.{LayoutRequest}
use Rattle.bt_designs.specs.Requested.{PinnedNet}

-- a design's network, and how many bytes it has
abbrev pub net_and_used : read.Design → Network × ℕ
net_and_used design = (design.net, design.used)

-- a design's network, with its pins, sides and rows, its blocks and its tier
abbrev pub pinned_of : PinnedDesign → PinnedNet
pinned_of design = record { net = design.net; demands = design.demands.items; blocks = design.blocks.items; tier = design.tier }

-- the same, and how many bytes the design has
abbrev pub pinned_and_used : PinnedDesign → PinnedNet × ℕ
pinned_and_used design = (pinned_of design, design.used)

-- the request for a blueprint
abbrev pub blueprint_request_of : BlueprintRequest → LayoutRequest
blueprint_request_of found = found.request
