-- What is answered to the parts of an input with two designs.
use Rattle.std.specs.Prelude.{ℕ, List, drop}
use Rattle.bt_text.specs.Blanks.{SkipsBlanks}
use Rattle.bt_net.specs.Network.{Network}
use Rattle.bt_designs.specs.Designs.{IsBareDesign}
use Rattle.bt_print.specs.Replies.{Reply, design_told}
use Rattle.bt_top.specs.SameCertificates.{IsSameCertificateChecked}
use Rattle.bt_designs.specs.Steps.{InTurn}
use Rattle.bt_designs.specs.TwoDesigns.{IsPaired}

-- what is answered to what follows two networks: the refusal of their ends, or what is answered to the certificate
abbrev pub IsPairedChecked : Network → Network → List ℕ → Reply → Type 0
IsPairedChecked a b rest = InTurn (IsPaired a b) design_told (λ nets. IsSameCertificateChecked nets rest)

-- what is answered to a text behind a first network: the refusal of the design at its front, or what is answered to
-- what follows that
abbrev pub IsSecondChecked : Network → List ℕ → Reply → Type 0
IsSecondChecked a text = InTurn (IsBareDesign text) design_told (λ found. IsPairedChecked a found.0 (drop found.1 text))

-- what is answered to what follows a first design: behind blanks, the answer to the text with the second
abbrev pub IsBehindFirstChecked : Network → List ℕ → Reply → Type 0
IsBehindFirstChecked a rest reply = (text : List ℕ) × SkipsBlanks rest text × IsSecondChecked a text reply
