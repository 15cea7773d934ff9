-- What is answered to the parts of an input with a request.
use Rattle.std.specs.Prelude.{ℕ, List, Option}
use Rattle.bt_parts.specs.declared.part.Rect.{Rect}
use Rattle.bt_parts.specs.declared.part.Tier.{Tier}
use Rattle.bt_top.specs.NoneCertificates.{IsNoneCertificateChecked}
use Rattle.bt_print.specs.Replies.{Reply, UnlessLarge, design_told}
use Rattle.bt_designs.specs.Requested.{PinnedNet, IsRequestFor}
use Rattle.bt_designs.specs.Steps.{InTurn}

-- what is answered to what follows a network with its pins, sides and blocks: the refusal of the request for it, of which
-- the last is that it has no formula, or what is answered to the certificate
abbrev pub IsRequestChecked : Rect → Option Tier → PinnedNet → List ℕ → Reply → Type 0
IsRequestChecked rect tier n rest = InTurn (IsRequestFor rect tier n) design_told (UnlessLarge (λ request. IsNoneCertificateChecked request rest))
