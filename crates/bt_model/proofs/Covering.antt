-- Which cells a part covers, by its one or two cells.
use Rattle.std.proofs.Common.{◌≡◌, ◌↔◌, Option, Some, None, Bool, false, IsTrue, sym, ◌∙◌, subst, inr, ⊎_elim}
use Rattle.std.proofs.lemmas.Option.{same_Some, none-some}
use Rattle.std.proofs.lemmas.Bool.{false≢true}
use Rattle.bt_parts.specs.declared.part.Cell.{Cell}
use Rattle.bt_parts.specs.declared.part.Part.{Part}
use Rattle.bt_parts.specs.Cells.{Covers, IsGreaterHalf}

-- a part covers its own cell and, of a splitter, the greater half
pub covers_two : (part : Part) (first : Cell) (second : Option Cell) (greater cell : Cell) (b : Bool) → first ≡ part.cell
    → ((c : Cell) → (second ≡ Some c) ↔ IsGreaterHalf part c) → second ≡ Some greater → (cell ≡ first → ⊥)
    → (IsTrue b ↔ (cell ≡ greater)) → IsTrue b ↔ Covers part cell
covers_two part first second greater cell b e is_second some apart tells = (
  λ t. inr (subst (λ c. IsGreaterHalf part c) (sym (tells.0 t)) ((is_second greater).0 some)),
  λ cov. ⊎_elim (λ own. absurd (apart (own ∙ sym e)))
      (λ half. tells.1 (same_Some cell greater (sym ((is_second cell).1 half) ∙ some))) cov,
)

pub covers_one : (part : Part) (first : Cell) (second : Option Cell) (cell : Cell) → first ≡ part.cell
    → ((c : Cell) → (second ≡ Some c) ↔ IsGreaterHalf part c) → second ≡ None → (cell ≡ first → ⊥)
    → IsTrue false ↔ Covers part cell
covers_one part first second cell e is_second none apart = (
  λ t. absurd (false≢true t),
  λ cov. ⊎_elim (λ own. absurd (apart (own ∙ sym e))) (λ half. absurd (none-some cell (sym none ∙ (is_second cell).1 half))) cov,
)
