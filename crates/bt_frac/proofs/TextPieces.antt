-- A fraction's text in a buffer.
use Rattle.std.proofs.Common.{◌≡◌, ◌≢◌, ℕ, ◌+◌, ◌<◌, ◌≤◌, arith, List, [], ◌∷◌, ◌++◌, length, take, set, ap, sym, ◌∙◌, false, cond, ◌==◌, append_assoc, length-append, length-set}
use Rattle.std.specs.Fmt.{decimal, signed_decimal}
use Rattle.std.proofs.lemmas.Bool.Decides.{nat_tests}
use Rattle.std.proofs.lemmas.List.{take_more_set}
use Rattle.std.proofs.lemmas.Slice.{take-put_mid}
use Rattle.std.proofs.Math.Seq.{take-append_seam}
use Rattle.bt_frac.specs.Ratio.{Ratio}
use Rattle.bt_frac.specs.Texts.{frac_text}
use borrow.Rule.Slice.PartMut.{put_mid}

ne_test : (n : ℕ) → n ≢ 1 → (n == 1) ≡ false
ne_test n h = grind (arith, nat_tests)

-- a numerator, a slash and a denominator, written one after another
pieces : (over under tail : List ℕ) (k : ℕ) → 0 < length tail
    → take (length over + 1 + length under) (put_mid (length over + 1) k (set (over ++ tail) (length over) 47) under) ≡ over ++ 47 ∷ under
pieces over under tail k some =
    let inside : length over < length (over ++ tail) = omega (arith, length-append over tail) in
    let fits : length over + 1 ≤ length (set (over ++ tail) (length over) 47) = omega (arith, length-append over tail, length-set (over ++ tail) (length over) 47) in
    take-put_mid (length over + 1) k (set (over ++ tail) (length over) 47) under (length over + 1 + length under) (omega arith) fits
    ∙ ap (λ t. t ++ under) (take_more_set (over ++ tail) (length over) 47 inside ∙ ap (λ t. t ++ 47 ∷ []) (take-append_seam over tail))
    ∙ append_assoc over (47 ∷ []) under

-- the text of a fraction that is no whole number is in the buffer
pub text_written : (r : Ratio) (over piece under piece' tail : List ℕ) (k : ℕ) → over ≡ signed_decimal r.over → piece ≡ over → under ≡ decimal r.under → piece' ≡ under
    → r.under ≢ 1 → 0 < length tail
    → take (length over + 1 + length under) (put_mid (length over + 1) k (set (piece ++ tail) (length over) 47) piece') ≡ frac_text r
text_written r over piece under piece' tail k over_is same under_is same' no_whole some =
    ap (λ p. take (length over + 1 + length under) (put_mid (length over + 1) k (set (p ++ tail) (length over) 47) piece')) same
    ∙ ap (λ p. take (length over + 1 + length under) (put_mid (length over + 1) k (set (over ++ tail) (length over) 47) p)) same'
    ∙ pieces over under tail k some
    ∙ ap (λ t. t ++ 47 ∷ under) over_is ∙ ap (λ t. signed_decimal r.over ++ 47 ∷ t) under_is
    ∙ sym (ap (λ t. cond t (signed_decimal r.over) (signed_decimal r.over ++ 47 ∷ decimal r.under)) (ne_test r.under no_whole))
