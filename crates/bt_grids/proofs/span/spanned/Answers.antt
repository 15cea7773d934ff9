use Rattle.std.proofs.Common.{◌≡◌, ◌<◌, arith, length, sym, subst, ap, ◌∙◌, take}
use Rattle.std.specs.Option.{option_copied}
use Rattle.std.specs.Prelude.{None, slice_get}
use Rattle.std.proofs.lemmas.List.{take_all, take_more}
use Rattle.std.proofs.lemmas.List.Elements.{Contains-get_or}
use Rattle.bt_grids.specs.inner.Spans.{Encloses}
use Rattle.bt_grids.specs.Spanned.{IsSpanned}
use Rattle.bt_grids.proofs.Spanning.{none_first, none_spanned}
use Rattle.bt_grids.proofs.span.spanned.Goals as goal

pub loop-part-preserved : goal.loop-part-preserved
loop-part-preserved c =
    let parts = c.args.parts.now in
    let seen = c.loop-part.part-index in
    let inside : seen < length parts = omega (arith, c.loop-part-test.true, c.loop-part.auto.part-index-end) in
    let added = c.with_part-span.ensures.encloses (take seen parts) c.loop-part.invariant.encloses in
    record {
      within = c.with_part-span.ensures.within parts c.loop-part.invariant.within (Contains-get_or parts seen _ inside);
      encloses = subst (Encloses c.with_part-span.result) (sym (take_more parts seen _ inside)) added;
      least = c.with_part-span.ensures.least;
      greatest = c.with_part-span.ensures.greatest;
    }

pub returns : goal.returns
returns c =
    let parts = c.args.parts.now in
    c.cells.ensures parts c.loop-part.invariant.within
    (subst (Encloses c.loop-part.span) (take_all c.loop-part.part-index parts (omega (arith, c.loop-part-test.false, c.loop-part.auto.part-index-end))) c.loop-part.invariant.encloses)

pub returns-in_default : goal.returns-in_default
returns-in_default c =
    let none : slice_get c.args.parts.now 0 ≡ None = sym c.first.ensures.value ∙ ap (λ first. option_copied first) c.in_default.is in
    subst (IsSpanned 0) (sym (none_first c.args.parts.now none)) none_spanned
