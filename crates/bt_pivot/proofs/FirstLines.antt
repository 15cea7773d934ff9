-- The first basis has a solved form.
use Rattle.std.proofs.Math.IntN.{zero-*ℤ}
use Rattle.std.proofs.Common.{◌≡◌, ◌≢◌, ◌+◌, arith, pos, ◌*ℤ◌, unsigned_abs, Bool, true, false, if◌then◌else◌, ◌==◌, ◌∷◌, ap, ◌∙◌, refl, ℕ, ℤ, []}
use Rattle.std.specs.List.{All}
use Rattle.std.proofs.lemmas.Int.{ints}
use Rattle.std.proofs.lemmas.Bool.Decides.{nat_tests}
use Rattle.std.proofs.lemmas.List.Elements.{All-head, All-tail, All-cons, All-nil}
use Rattle.bt_frac.specs.Ratio.{Ratio, IsLowest}
use Rattle.bt_frac.specs.Columns.{AreColumnsFrom}
use Rattle.bt_frac.specs.Rows.{columns_of}
use Rattle.bt_frac.specs.Values.{AreValues, nothing, plus, times}
use Rattle.bt_linear_forms.specs.Lines.{Terms, HasNumber, IsLineFrom, total}
use Rattle.bt_pivot.specs.inner.Starts.{kept}
use Rattle.bt_linear_forms.proofs.Numbers.{Alike, itself, back, next, both_plus, drop_zero, times_positive, swap_times}
use Rattle.bt_linear_forms.proofs.Walks.{starts_before}

none_size : (z : ℤ) → unsigned_abs z ≡ 0 → z ≡ pos 0
none_size z e = grind (arith, ints)

some_size : (z : ℤ) → (unsigned_abs z ≡ 0 → ⊥) → z ≢ pos 0
some_size z h e = h (ap unsigned_abs e)

-- what is kept of a row's terms is a line
pub kept_line : (least : ℕ) (terms : Terms) → AreColumnsFrom least (columns_of terms) → All (λ t. IsLowest t.1) terms → IsLineFrom least (kept terms)
kept_line least [] ascends low = record { ascends = tt; numbers = All-nil HasNumber }
kept_line least (t ∷ terms) ascends low = chosen (unsigned_abs t.1.over == 0) refl (kept_line (t.0 + 1) terms ascends.2 (All-tail (λ u. IsLowest u.1) t terms low))
  where
    chosen : (b : Bool) → (unsigned_abs t.1.over == 0) ≡ b → IsLineFrom (t.0 + 1) (kept terms) → IsLineFrom least (if b then kept terms else t ∷ kept terms)
    chosen true e rest = starts_before least (t.0 + 1) (kept terms) (let h = ascends.0 in omega arith) rest
    chosen false e rest = record {
      ascends = (ascends.0, ascends.1, rest.ascends);
      numbers = All-cons HasNumber t (kept terms) (All-head (λ u. IsLowest u.1) t terms low, some_size t.1.over (λ h. grind (arith, nat_tests))) rest.numbers;
    }

-- and adds up to the same
pub kept_total : (at : ℕ → Ratio) → AreValues at → (terms : Terms) → All (λ t. IsLowest t.1) terms → Alike (total at (kept terms)) (total at terms)
kept_total at values [] low = itself nothing (omega arith)
kept_total at values (t ∷ terms) low = chosen (unsigned_abs t.1.over == 0) refl (kept_total at values terms (All-tail (λ u. IsLowest u.1) t terms low))
  where
    chosen : (b : Bool) → (unsigned_abs t.1.over == 0) ≡ b → Alike (total at (kept terms)) (total at terms)
        → Alike (total at (if b then kept terms else t ∷ kept terms)) (plus (times t.1 (at t.0)) (total at terms))
    chosen true e rest =
        let here = All-head (λ u. IsLowest u.1) t terms low in
        let zero : t.1.over ≡ pos 0 = none_size t.1.over (grind (arith, nat_tests)) in
        let product = times_positive t.1 (at t.0) here.positive (values t.0) in
        let none = (swap_times t.1 (at t.0) here.positive (values t.0)) in
        next rest (back (drop_zero (times t.1 (at t.0)) (total at terms) product rest.right (zero_first t.1 (at t.0) zero)))
      where
        zero_first : (a b : Ratio) → a.over ≡ pos 0 → (times a b).over ≡ pos 0
        zero_first a b h = ap (λ x. x *ℤ b.over) h ∙ zero-*ℤ b.over
    chosen false e rest =
        let here = All-head (λ u. IsLowest u.1) t terms low in
        both_plus (itself (times t.1 (at t.0)) (times_positive t.1 (at t.0) here.positive (values t.0))) rest

-- what is kept is over the same columns
pub kept_over : (P : ℕ → Type 0) (terms : Terms) → All (λ t. P t.0) terms → All (λ t. P t.0) (kept terms)
kept_over P [] all = All-nil (λ u. P u.0)
kept_over P (t ∷ terms) all = chosen (unsigned_abs t.1.over == 0) (kept_over P terms (All-tail (λ u. P u.0) t terms all))
  where
    chosen : (b : Bool) → All (λ u. P u.0) (kept terms) → All (λ u. P u.0) (if b then kept terms else t ∷ kept terms)
    chosen true rest = rest
    chosen false rest = All-cons (λ u. P u.0) t (kept terms) (All-head (λ u. P u.0) t terms all) rest
