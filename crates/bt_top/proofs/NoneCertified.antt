-- What the steps of a certificate that no layout lays a request are answered.
use Rattle.std.proofs.Common.{◌≡◌, ℕ, List, [], ◌∷◌, Ok, inl, inr, refl, arith}
use Rattle.std.proofs.lemmas.List.{append_assoc}
use Rattle.std.proofs.lemmas.List.Elements.{All-nil, All-cons}
use Rattle.bt_text.specs.Blanks.{IsBlank, SkipsBlanks}
use Rattle.bt_text.proofs.Lacking.{lacks}
use Rattle.bt_log.specs.Logs.{Step}
use Rattle.bt_log.specs.LogText.{log_text}
use Rattle.bt_cert.specs.Certificates.{IsCertRead}
use Rattle.bt_cert.proofs.OneAnswer.{certificate_shows_unmet}
use Rattle.bt_model.specs.Requests.{LayoutRequest, IsRequest}
use Rattle.bt_place.specs.PlaceFormula.{place_formula}
use Rattle.bt_layout.proofs.Certified.{nowhere_is_certificate}
use Rattle.bt_layout.proofs.Formulas.{place_is_formula}
use Rattle.bt_layout.proofs.Refuted.{unmet_has_no_layout}
use Rattle.bt_print.specs.declared.answer.Answer.TheVariants as answer
use Rattle.bt_print.specs.declared.answer.Brief.TheVariants as brief
use Rattle.bt_top.specs.NoneCertificates.{IsNoneChecked, SaysNone, NoneIsAccepted}
use Rattle.bt_print.specs.Answers.{none_word, nowhere_text}
use Rattle.bt_designs.specs.Steps.{went_on}

-- a certificate that is one shows that no parts lay the request
pub none_told : (r : LayoutRequest) (lines : List ℕ) → IsRequest r → IsCertRead (place_formula r) lines (Ok tt) → IsNoneChecked r lines (Ok (answer.Brief brief.NoLayout))
none_told r lines is h = went_on tt h (unmet_has_no_layout r is (certificate_shows_unmet (place_formula r) lines (place_is_formula r is) h), refl)

-- ---- what `layout` writes

-- the first line of a none certificate, and what follows it
pub says_none : (steps : List Step) → SaysNone (nowhere_text steps) (log_text steps)
says_none steps = inl (record { first = lacks 10 none_word refl; text_is = append_assoc none_word (10 ∷ []) (log_text steps) })

-- it begins with no blank
not_blank : (byte : ℕ) → byte ≡ 110 → IsBlank byte → ⊥
not_blank byte is (inl e) = omega (arith, is, e)
not_blank byte is (inr (inl e)) = omega (arith, is, e)
not_blank byte is (inr (inr (inl e))) = omega (arith, is, e)
not_blank byte is (inr (inr (inr e))) = omega (arith, is, e)

-- and a line feed before it is one
skips_line_feed : (steps : List Step) → SkipsBlanks (10 ∷ nowhere_text steps) (nowhere_text steps)
skips_line_feed steps = record {
  blanks = 10 ∷ [];
  are_blanks = All-cons IsBlank 10 [] (inr (inr (inl refl))) (All-nil IsBlank);
  text_is = refl;
  no_more = λ some. not_blank 110 refl;
}

pub none_is_accepted : NoneIsAccepted
none_is_accepted r steps is refutes few =
    (nowhere_text steps, skips_line_feed steps, inl (log_text steps, says_none steps, none_told r (log_text steps) is (nowhere_is_certificate r steps is refutes few)))
