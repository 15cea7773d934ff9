use Rattle.std.proofs.Common.{◌<◌, length, sym, subst}
use Rattle.std.specs.List.{All}
use Rattle.bt_layout_check.specs.Laid.{naming_of}
use Rattle.bt_layout_check.proofs.Within.{inputs_within, outputs_within, fits_told, unfree_told, unfirst_told}
use Rattle.bt_layout_check.proofs.testing.fits.Goals as goal

pub are_first-requires-clause-within : goal.are_first-requires-clause-within
are_first-requires-clause-within c =
    subst (All (λ i. i < length c.parts-parts.result.now)) (sym c.deref.ensures.value)
    (subst (λ ps. All (λ i. i < length ps) c.args.own.now.inputs.items) (sym c.parts-parts.ensures.value) (inputs_within c.args.grid.now c.args.own.now.inputs.items c.requires.inputs))

pub are_last-requires-clause-within : goal.are_last-requires-clause-within
are_last-requires-clause-within c =
    subst (All (λ i. i < length c.parts-parts.result.now)) (sym c.deref-2.ensures.value)
    (subst (λ ps. All (λ i. i < length ps) c.args.own.now.outputs.items) (sym c.parts-parts.ensures.value) (outputs_within c.args.grid.now c.args.own.now.outputs.items c.requires.outputs))

pub returns-then-not-are_free : goal.returns-then-not-are_free
returns-then-not-are_free c = unfree_told c.args.grid.now c.args.request.now c.blocks-2.result.now c.are_free.result c.blocks-2.ensures c.are_free.ensures c.if-not-are_free.true

pub returns-then-not-are_first : goal.returns-then-not-are_first
returns-then-not-are_first c =
    unfirst_told c.args.grid.now c.parts-parts.result.now c.args.request.now c.rect-rect.result (naming_of c.args.own.now) c.deref.result.now c.are_first.result c.parts-parts.ensures.value
    c.rect-rect.ensures.rect c.deref.ensures.value c.requires.inputs c.are_first.ensures c.if-not-are_first.true

pub returns : goal.returns
returns c =
    fits_told c.args.grid.now c.parts-parts.result.now c.args.request.now c.rect-rect.result (naming_of c.args.own.now) c.blocks-2.result.now c.deref.result.now c.deref-2.result.now c.are_last.result
    c.parts-parts.ensures.value c.rect-rect.ensures.rect c.blocks-2.ensures c.deref.ensures.value c.deref-2.ensures.value c.requires.suits c.requires.inputs c.requires.outputs
    (c.are_free.ensures.0 c.if-not-are_free.false) (c.are_first.ensures.0 c.if-not-are_first.false) c.are_last.ensures
