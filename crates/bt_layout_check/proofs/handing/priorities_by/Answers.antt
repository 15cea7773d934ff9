use Rattle.std.proofs.Common.{sym, subst, ⊎_elim}
use Rattle.std.specs.Prelude.{Err}
use Rattle.bt_parts.specs.Layouts.{AreInRange}
use Rattle.bt_text.specs.Answers.{UnlessMemory}
use Rattle.bt_recover.specs.declared.grid.GridFault.TheVariants.{Memory}
use Rattle.bt_recover.specs.Placing.{IsFirstOverlap, IsPlaced}
use Rattle.bt_layout_check.specs.Laid.{naming_of}
use Rattle.bt_layout_check.proofs.Within.{overlap_no_memory, overlapping_lays_not, suits_in_range, suits_of}
use Rattle.bt_layout_check.proofs.handing.priorities_by.Goals as goal

pub place-requires : goal.place-requires
place-requires c =
    subst AreInRange (sym c.in_ok-from_slice.ensures.items) (suits_in_range c.args.request.now.rect c.args.request.now.tier c.args.parts.now c.net-net.ensures.request.grid
    (suits_of c.args.request.now c.args.parts.now c.requires.fits))

pub unreachable-requires : goal.unreachable-requires
unreachable-requires c =
    let one = c.in-Err-Overlap.field-0-0 in
    let other = c.in-Err-Overlap.field-0-1 in
    let told = subst (λ f. UnlessMemory Memory (IsPlaced c.in_ok-from_slice.field-0.items) (Err f)) c.in-Err-Overlap.field-0-is c.in-Err-Overlap.ensures.right in
    ⊎_elim
    (λ right. overlapping_lays_not c.args.parts.now (naming_of c.args.names.now) c.args.request.now one other (subst (λ ps. IsFirstOverlap ps one other) c.in_ok-from_slice.ensures.items right) c.requires)
    (λ e. overlap_no_memory one other e) told
