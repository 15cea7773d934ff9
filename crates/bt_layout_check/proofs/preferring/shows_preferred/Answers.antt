use Rattle.std.proofs.Common.{subst, ⊎_elim}
use Rattle.std.specs.Prelude.{Err}
use Rattle.std.proofs.lemmas.Bool.{false≢true}
use Rattle.bt_text.specs.Answers.{UnlessMemory}
use Rattle.bt_recover.specs.declared.grid.GridFault.TheVariants.{Memory}
use Rattle.bt_recover.specs.Placing.{IsFirstOverlap, IsPlaced}
use Rattle.bt_layout_check.proofs.Within.{overlap_no_memory}
use Rattle.bt_layout_check.proofs.preferring.shows_preferred.Goals as goal

pub returns-in-Err-Overlap : goal.returns-in-Err-Overlap
returns-in-Err-Overlap c =
    let one = c.in-Err-Overlap.field-0-0 in
    let other = c.in-Err-Overlap.field-0-1 in
    let told = subst (λ f. UnlessMemory Memory (IsPlaced c.in_ok-from_slice.field-0.items) (Err f)) c.in-Err-Overlap.field-0-is c.in-Err-Overlap.ensures.right in (
      λ t. absurd (false≢true t),
      λ shows. absurd (⊎_elim
          (λ right. let overlap = subst (λ ps. IsFirstOverlap ps one other) c.in_ok-from_slice.ensures.items right in shows.clean.well_placed one other overlap.earlier overlap.shared)
          (λ e. overlap_no_memory one other e) told),
    )
