-- Operations of lines that don't fit, and where all fit.
use Rattle.std.proofs.Common.{◌≡◌, ℕ, arith, Bool, true, false, if◌then◌else◌, ◌==◌, [], ◌∷◌, Result, Ok, Err, IfOk, IfErr, Some, None, ap, sym, ◌∙◌, refl, subst}
use Rattle.std.specs.List.{All}
use Rattle.std.proofs.lemmas.Bool.Decides.{nat_tests}
use Rattle.bt_frac.specs.Ratio.{Ratio, IsLowest, IsWide, negated}
use Rattle.bt_frac.specs.Products.{IsProduct}
use Rattle.bt_farkas.specs.WeightedRows.{coefficient_at}
use Rattle.bt_linear_forms.specs.Lines.{one, Terms, HasNumber, IsLine, IsCombination}
use Rattle.bt_linear_forms.specs.Unfits.{IsNone, IsUnfitStep, IsUnfit, IsUnfitShare, IsUnfitTerm, IsUnfitZero}
use Rattle.bt_linear_forms.specs.declared.unfit.Operation.{Operation}
use Rattle.bt_linear_forms.specs.declared.unfit.Operation.TheVariants.{Add, Mul, Div}
use Rattle.bt_linear_forms.specs.declared.unfit.Unfit.{Unfit}
use Rattle.std.specs.declared.alloc.AllocError.{AllocError}
use Rattle.bt_linear_forms.specs.inner.Shares.{IsNegatedShare, AreNegatedShares}
use Rattle.bt_linear_forms.specs.Substituting.{IsZeroLine}
use Rattle.bt_linear_forms.proofs.Indicators.{number_has}
use Rattle.bt_linear_forms.proofs.Numbers.{Positive}
use Rattle.bt_linear_forms.proofs.Shares.{shares_lack, shares_zero}
use Rattle.bt_linear_forms.proofs.Zeros.{one_times}

-- 1 times a number fits, and is the number
one_product : (by : Ratio) → Positive by → IsProduct one by by
one_product by some = sym (one_times by some).same

-- a line added to another fits where each sum does
combined_fits : (left right : Terms) (unfit : Unfit) → All HasNumber right
    → ((a b : Ratio) → coefficient_at unfit.column left ≡ Some a → (by : Ratio) → coefficient_at unfit.column right ≡ Some by → IsLowest b → IsProduct one by b → IsWide a b → ⊥)
    → IsUnfit left one right unfit → ⊥
combined_fits left right unfit all sums (by, named, (column, none, step)) = at unfit.operation none step
  where
    low : IsLowest by
    low = (number_has unfit.column right (Some by) all (sym named)).0

    at : (operation : Operation) → IsNone operation unfit.left unfit.right → IsUnfitStep (coefficient_at unfit.column left) one by operation unfit.left unfit.right → ⊥
    at Add none step = sums unfit.left unfit.right step.0 by named step.1 step.2 none
    at Mul none step =
        none by low
        (subst (λ l. IsProduct l unfit.right by) (sym step.0) (subst (λ r. IsProduct one r by) (sym step.1) (one_product by low.positive)))
    at Div none step = absurd step

alone_named : (s : ℕ × Ratio) (p : ℕ) (a : Ratio) → coefficient_at p (s ∷ []) ≡ Some a → (s.0 ≡ p) × (s.1 ≡ a)
alone_named s p a e = at (s.0 == p) refl e
  where
    at : (b : Bool) → (s.0 == p) ≡ b → (if b then Some s.1 else None) ≡ Some a → (s.0 ≡ p) × (s.1 ≡ a)
    at true test is = (grind (arith, nat_tests), cc)
    at false test is = absurd cc

-- a position that the line lacks is added to it
zero_fits : (s : ℕ × Ratio) (shares : Terms) (unfit : Unfit) → All HasNumber shares → coefficient_at s.0 shares ≡ None → IsUnfit (s ∷ []) one shares unfit → ⊥
zero_fits s shares unfit all lacks =
    combined_fits (s ∷ []) shares unfit all (λ a b has by named low product wide.
    let here : Some by ≡ None = sym named ∙ ap (λ p. coefficient_at p shares) (sym (alone_named s unfit.column a has).0) ∙ lacks in
    let same : Some by ≡ None = here in
    cc)

-- the quotient of a term
pub term_unfit : (terms : Terms) (t : ℕ × Ratio) (by : Ratio) (unfit : Unfit) → coefficient_at t.0 terms ≡ Some t.1 → IsUnfitShare t.0 t.1 by unfit → IsUnfitTerm terms by unfit
term_unfit terms t by unfit named share = subst (λ u. IsUnfitTerm terms by u) (sym share.0) (t.1, named, (refl, share.1))

-- the zero line as it is formed: the share of the position and those of its line
module _ (position : ℕ) (terms : Terms) (number : Ratio) (minus : Ratio) (s : ℕ × Ratio) (shares shares' : Terms) (factor : Ratio) (line : IsLine terms) (has : HasNumber (position, number))
    (lacks : coefficient_at position terms ≡ None) (minus_is : minus ≡ negated one) (share : IsNegatedShare number (position, minus) s) (are : AreNegatedShares number terms shares)
    (shares_are : shares' ≡ shares) (factor_is : factor ≡ one) where
  pub zero_formed : (r : Result (Result Terms Unfit) AllocError) → IfOk r (λ o. IfOk o IsLine) → IfOk r (λ o. IfOk o (IsCombination (s ∷ []) factor shares'))
      → IfOk r (λ o. IfOk o (IsZeroLine position terms number))
  zero_formed (Err e) is sum = tt
  zero_formed (Ok (Err unfit)) is sum = tt
  zero_formed (Ok (Ok zero)) is sum =
      shares_zero position terms number s shares zero line has (subst (λ m. IsNegatedShare number (position, m) s) minus_is share) are is
      (subst (λ f. IsCombination (s ∷ []) f shares zero) factor_is (subst (λ l. IsCombination (s ∷ []) factor l zero) shares_are sum))

  pub zero_formed_fits : (r : Result (Result Terms Unfit) AllocError) → IfOk r (λ o. IfErr o (IsUnfit (s ∷ []) factor shares')) → IfOk r (λ o. IfErr o (IsUnfitZero position terms number))
  zero_formed_fits (Err e) told = tt
  zero_formed_fits (Ok (Ok zero)) told = tt
  zero_formed_fits (Ok (Err unfit)) told =
      absurd (zero_fits s shares unfit are.line.numbers (shares_lack number s.0 terms shares are.each (ap (λ p. coefficient_at p terms) share.position ∙ lacks))
      (subst (λ f. IsUnfit (s ∷ []) f shares unfit) factor_is (subst (λ l. IsUnfit (s ∷ []) factor l unfit) shares_are told)))
