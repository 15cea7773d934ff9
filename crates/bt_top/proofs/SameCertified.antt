-- What `check-same` answers is one answer, and what its steps are answered.
use Rattle.std.proofs.Common.{ℕ, List, Ok, drop, inl, inr, refl, ap, sym, subst, ◌∙◌}
use Rattle.bt_text.specs.Answers.{HasOneAnswer}
use Rattle.bt_text.proofs.FirstLines.{IsFirstLine-unique}
use Rattle.bt_net.specs.Network.{Network, IsNetwork}
use Rattle.bt_cert.specs.Certificates.{IsCertRead}
use Rattle.bt_cert.proofs.OneAnswer.{certificate_shows_unmet, one_answer}
use Rattle.bt_same.specs.declared.pair.Pair.{Pair}
use Rattle.bt_same.specs.PairReading.{IsPairRead}
use Rattle.bt_same.specs.SameFormula.{same_formula}
use Rattle.bt_same.specs.Sameness.{HaveEqualEnds}
use Rattle.bt_same.proofs.Formed.{formed}
use Rattle.bt_same.proofs.Judged.{one_pair_answer}
use Rattle.bt_same.proofs.PairTexts.{one_pair_read}
use Rattle.bt_same.proofs.Refuted.{unmet_are_same}
use Rattle.bt_print.specs.declared.answer.Answer.TheVariants as answer
use Rattle.bt_print.specs.declared.answer.Brief.TheVariants as brief
use Rattle.bt_top.specs.Certificates.{cert_told}
use Rattle.bt_print.specs.Replies.{design_told, state_told}
use Rattle.bt_top.specs.SameCertificates.{IsSameChecked, pair_verdict, IsPairJudged, IsPairTextJudged, IsSameTextChecked, IsSameCertificateChecked, IsSameCertified}
use Rattle.bt_designs.specs.Steps.{went_on}
use Rattle.bt_designs.specs.TwoDesigns.{IsFrontNets}
use Rattle.bt_designs.proofs.BareNets.{front_networks}
use Rattle.bt_designs.proofs.Blanks.{one_rest}
use Rattle.bt_designs.proofs.InTurns.{one_in_turn, one_in_turn_of}
use Rattle.bt_designs.proofs.OnePair.{one_front_nets}

-- two networks
abbrev AreNetworks : Network × Network → Type 0
AreNetworks nets = IsNetwork nets.0 × IsNetwork nets.1

one_same_checked : (nets : Network × Network) → AreNetworks nets → (lines : List ℕ) → HasOneAnswer (IsSameChecked nets lines)
one_same_checked nets are lines =
    one_in_turn (IsCertRead (same_formula nets.0 nets.1) lines) cert_told _ (one_answer (same_formula nets.0 nets.1) (formed nets.0 nets.1 are.0 are.1) lines) (λ done x y i j. i.1 ∙ sym j.1)

one_pair_judged : (nets : Network × Network) (pair : Pair) → HasOneAnswer (IsPairJudged nets pair)
one_pair_judged nets pair a b h k =
    h.2 ∙ ap (λ told. Ok (pair_verdict told)) (one_pair_answer nets.0 nets.1 pair.first pair.second h.0 k.0 h.1 k.1) ∙ sym k.2

one_pair_text : (nets : Network × Network) (text : List ℕ) → HasOneAnswer (IsPairTextJudged nets text)
one_pair_text nets text = one_in_turn (IsPairRead nets.0 nets.1 text) state_told (IsPairJudged nets) (one_pair_read nets.0 nets.1 text) (one_pair_judged nets)

one_same_text : (nets : Network × Network) → AreNetworks nets → (text : List ℕ) → HasOneAnswer (IsSameTextChecked nets text)
one_same_text nets are text a b (inl h) (inl k) =
    one_same_checked nets are k.0 a b (subst (λ lines. IsSameChecked nets lines a) (IsFirstLine-unique text _ _ h.0 k.0 h.1 k.1).1 h.2) k.2
one_same_text nets are text a b (inl h) (inr k) = absurd (k.0 h.0 h.1)
one_same_text nets are text a b (inr h) (inl k) = absurd (h.0 k.0 k.1)
one_same_text nets are text a b (inr h) (inr k) = one_pair_text nets text a b h.1 k.1

one_same_certificate : (nets : Network × Network) → AreNetworks nets → (rest : List ℕ) → HasOneAnswer (IsSameCertificateChecked nets rest)
one_same_certificate nets are rest a b h k =
    one_same_text nets are k.0 a b (subst (λ text. IsSameTextChecked nets text a) (one_rest rest h.0 k.0 h.1 k.1) h.2) k.2

-- two right answers of `check-same` are equal
pub one_same_certified : (bytes : List ℕ) → HasOneAnswer (IsSameCertified bytes)
one_same_certified bytes =
    one_in_turn_of (IsFrontNets bytes) design_told _ (one_front_nets bytes)
    (λ found is. one_same_certificate found.0 (front_networks bytes found is) (drop found.1 bytes))

-- a certificate that is one shows that the networks behave the same
pub same_shown : (a b : Network) (lines : List ℕ) → IsNetwork a → IsNetwork b → HaveEqualEnds a b → IsCertRead (same_formula a b) lines (Ok tt)
    → IsSameChecked (a, b) lines (Ok (answer.Brief brief.ShownSame))
same_shown a b lines first second ends h = went_on tt h (unmet_are_same a b first second ends (certificate_shows_unmet (same_formula a b) lines (formed a b first second) h), refl)
