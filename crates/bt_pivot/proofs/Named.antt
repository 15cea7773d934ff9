-- Terms that name a position, and what a pivot makes of them.
use Rattle.std.proofs.Common.{◌≡◌, Option, Some, None, IfSome, ◌∙◌, sym, subst, ℕ}
use Rattle.bt_frac.specs.Ratio.{Ratio}
use Rattle.bt_farkas.specs.WeightedRows.{coefficient_at}
use Rattle.bt_linear_forms.specs.Lines.{Terms, IsLine}
use Rattle.bt_linear_forms.specs.Substituting.{IsZeroLine}
use Rattle.bt_pivot.specs.PivotedSlots.{CanPart}
use Rattle.bt_pivot.specs.inner.UnfitPivots.{IsSlotZero}

-- the zero line of a slot
pub slot_zero_told : (slot : Option Terms) (leaves enters : ℕ) (terms : Terms) (made : Option Terms) (zero : Terms) → CanPart slot leaves enters → slot ≡ Some terms → IsLine terms → made ≡ Some zero
    → ((number : Ratio) → coefficient_at enters terms ≡ Some number → IfSome made (IsZeroLine leaves terms number)) → IsSlotZero slot leaves enters zero
slot_zero_told slot leaves enters terms made zero can slot_is line made_is told =
    let both : Some can.terms ≡ Some terms = sym can.slot_is ∙ slot_is in
    let same : can.terms ≡ terms = cc in
    let named = subst (λ l. coefficient_at enters l ≡ Some can.number) same can.named in
    record {
      terms = terms;
      slot_is = slot_is;
      is_line = line;
      number = can.number;
      named = named;
      lacks = subst (λ l. coefficient_at leaves l ≡ None) same can.lacks;
      is_zero = subst (λ o. IfSome o (IsZeroLine leaves terms can.number)) made_is (told can.number named);
    }
