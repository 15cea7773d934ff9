-- What certificates are to show.
use Rattle.std.specs.Prelude.{ℕ, List}
use Rattle.bt_model.specs.Requests.{IsGrid}
use Rattle.bt_words.specs.declared.command.Command.{Command}
use Rattle.bt_words.specs.declared.command.Command.TheVariants.{Check, CheckLayout, CheckSame}
use Rattle.bt_top.specs.declared.claim.CertificateClaim.{CertificateClaim}
use Rattle.bt_top.specs.declared.claim.CertificateClaim.TheVariants.{Flow, NoLayout, Same}
use Rattle.bt_top.specs.Certificates.{IsChecked}
use Rattle.bt_top.specs.NoneCertificates.{IsLayoutChecked}
use Rattle.bt_print.specs.Replies.{Reply}
use Rattle.bt_top.specs.SameCertificates.{IsSameCertified}

-- what is answered to bytes of which the certificate is to show the claim
abbrev pub IsClaimed : CertificateClaim → List ℕ → Reply → Type 0
IsClaimed (Flow p) = IsChecked p
IsClaimed (NoLayout rect tier) = IsLayoutChecked rect tier
IsClaimed Same = IsSameCertified

-- where the claim names a rectangle, it is the grid of a request
abbrev pub HasClaimedGrid : CertificateClaim → Type 0
HasClaimedGrid (Flow p) = Unit {0}
HasClaimedGrid (NoLayout rect tier) = IsGrid rect
HasClaimedGrid Same = Unit {0}

-- the command's input is read whole: the command checks no certificate
abbrev pub IsReadWhole : Command → Type 0
IsReadWhole (Check p) = ⊥
IsReadWhole (CheckLayout rect tier) = ⊥
IsReadWhole CheckSame = ⊥
IsReadWhole other = Unit {0}
