use Rattle.std.proofs.Common.{sym, ◌∙◌, subst, ⊎_elim}
use Rattle.std.specs.Prelude.{Err}
use Rattle.std.specs.List.{All}
use Rattle.std.proofs.lemmas.Bool.{false≢true}
use Rattle.bt_parts.specs.Layouts.{AreInRange}
use Rattle.bt_text.specs.Answers.{UnlessMemory}
use Rattle.bt_recover.specs.declared.grid.GridFault.TheVariants.{Memory}
use Rattle.bt_recover.specs.Placing.{IsFirstOverlap, IsPlaced}
use Rattle.bt_model.specs.Requests.{IsGrid}
use Rattle.bt_layout_check.specs.Laid.{naming_of}
use Rattle.bt_layout_check.specs.inner.Fitting.{SuitsAlone}
use Rattle.bt_layout_check.proofs.Within.{overlap_no_memory, overlapping_lays_not, suits_in_range, suits_of}
use Rattle.bt_layout_check.proofs.testing.lays.Goals as goal

pub returns-then-not-all_suit : goal.returns-then-not-all_suit
returns-then-not-all_suit c = (
  λ t. absurd (false≢true t),
  λ lays. absurd (false≢true (sym c.if-not-all_suit.true ∙ c.all_suit.ensures.1 (subst (λ r. All (SuitsAlone r c.tier.result) c.args.parts.now) (sym c.rect.ensures.rect)
      (subst (λ t. All (SuitsAlone c.args.request.now.rect t) c.args.parts.now) (sym c.tier.ensures) (suits_of c.args.request.now c.args.parts.now lays.fits))))),
)

pub place-requires : goal.place-requires
place-requires c =
    let grid = subst (λ r. IsGrid r) (sym c.rect.ensures.rect) c.rect.ensures.request.grid in
    subst AreInRange (sym c.in_ok-from_slice.ensures.items) (suits_in_range c.rect.result c.tier.result c.args.parts.now grid (c.all_suit.ensures.0 c.if-not-all_suit.false))

pub returns-in-Err-Overlap : goal.returns-in-Err-Overlap
returns-in-Err-Overlap c =
    let one = c.in-Err-Overlap.field-0-0 in
    let other = c.in-Err-Overlap.field-0-1 in
    let told = subst (λ f. UnlessMemory Memory (IsPlaced c.in_ok-from_slice.field-0.items) (Err f)) c.in-Err-Overlap.field-0-is c.in-Err-Overlap.ensures.right in (
      λ t. absurd (false≢true t),
      λ lays. absurd (⊎_elim
          (λ right. overlapping_lays_not c.args.parts.now (naming_of c.args.names.now) c.args.request.now one other (subst (λ ps. IsFirstOverlap ps one other) c.in_ok-from_slice.ensures.items right) lays)
          (λ e. overlap_no_memory one other e) told),
    )
