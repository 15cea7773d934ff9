-- What `check-same` answers: two designs, blanks, and a certificate that their networks behave the same, or a written
-- pair of states that shows a difference.
use Rattle.std.specs.Prelude.{◌≡◌, ℕ, List, ◌⊎◌, Ok, Err, Result, drop, codes}
use Rattle.bt_text.specs.Blanks.{SkipsBlanks}
use Rattle.bt_text.specs.Lines.{IsFirstLine}
use Rattle.bt_net.specs.Network.{Network}
use Rattle.bt_cert.specs.Certificates.{IsCertRead}
use Rattle.bt_same.specs.declared.pair.Pair.{Pair}
use Rattle.bt_same.specs.declared.pair.PairJudgement.{PairJudgement}
use Rattle.bt_same.specs.declared.pair.PairJudgement.TheVariants.{Holds, Fails}
use Rattle.bt_same.specs.declared.pair.PairWide.{PairWide}
use Rattle.bt_same.specs.Judging.{IsPairAnswer}
use Rattle.bt_same.specs.PairReading.{IsPairRead}
use Rattle.bt_same.specs.SameFormula.{same_formula}
use Rattle.bt_same.specs.Sameness.{AreSame}
use Rattle.bt_print.specs.declared.answer.Answer.{Answer}
use Rattle.bt_print.specs.declared.answer.Answer.TheVariants as answer
use Rattle.bt_print.specs.declared.answer.Brief.TheVariants as brief
use Rattle.bt_top.specs.Certificates.{cert_told}
use Rattle.bt_print.specs.Replies.{Reply, design_told, state_told}
use Rattle.bt_designs.specs.Steps.{InTurn}
use Rattle.bt_designs.specs.TwoDesigns.{IsFrontNets}

-- the text's first line says that the networks behave the same, and this follows it
abbrev pub SaysSame : List ℕ → List ℕ → Type 0
SaysSame text lines = IsFirstLine text (codes "same") lines

-- what is answered to the lines of steps: that the networks behave the same; or the first line for which the steps are
-- no certificate
abbrev pub IsSameChecked : Network × Network → List ℕ → Reply → Type 0
IsSameChecked nets lines = InTurn (IsCertRead (same_formula nets.0 nets.1) lines) cert_told (λ done reply. AreSame nets.0 nets.1 × (reply ≡ Ok (answer.Brief brief.ShownSame)))

-- the verdict on a pair of states: that it shows a difference, the first test that it fails and at which place, or a
-- sum that leaves 128 bits
abbrev pub pair_verdict : Result PairJudgement PairWide → Answer
pair_verdict (Ok Holds) = answer.Brief brief.ShownDiffer
pair_verdict (Ok (Fails which test place)) = answer.Brief (brief.NotDiffering which test place)
pair_verdict (Err wide) = answer.Brief (brief.WidePair wide.place wide.sum.test wide.sum.place)

-- what is answered to a pair of states of the networks: the verdict on it
abbrev pub IsPairJudged : Network × Network → Pair → Reply → Type 0
IsPairJudged nets pair reply = (told : Result PairJudgement PairWide) × IsPairAnswer nets.0 nets.1 pair.first pair.second told × (reply ≡ Ok (pair_verdict told))

-- what is answered to a text: the first line that isn't that of a written pair, or the verdict on the pair
abbrev pub IsPairTextJudged : Network × Network → List ℕ → Reply → Type 0
IsPairTextJudged nets text = InTurn (IsPairRead nets.0 nets.1 text) state_told (IsPairJudged nets)

-- what is answered to a certificate: the answer to its steps where its first line says same, and else that to a written
-- pair
abbrev pub IsSameTextChecked : Network × Network → List ℕ → Reply → Type 0
IsSameTextChecked nets text reply = ((lines : List ℕ) × SaysSame text lines × IsSameChecked nets lines reply)
    ⊎ (((lines : List ℕ) → SaysSame text lines → ⊥) × IsPairTextJudged nets text reply)

-- what is answered to what follows two designs: behind blanks, the answer to the certificate
abbrev pub IsSameCertificateChecked : Network × Network → List ℕ → Reply → Type 0
IsSameCertificateChecked nets rest reply = (text : List ℕ) × SkipsBlanks rest text × IsSameTextChecked nets text reply

-- what `check-same` answers to bytes: the refusal of the designs at their front, or what is answered to what follows
-- them
abbrev pub IsSameCertified : List ℕ → Reply → Type 0
IsSameCertified bytes = InTurn (IsFrontNets bytes) design_told (λ found. IsSameCertificateChecked found.0 (drop found.1 bytes))
