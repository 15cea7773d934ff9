use Rattle.std.proofs.Common.{◌≡◌, true, ap, sym, ◌∙◌, subst}
use Rattle.bt_facts.specs.declared.fact.Fact.TheVariants.{Pair}
use Rattle.bt_parts.specs.Cells.{steps}
use Rattle.bt_place.specs.inner.Grid.{cell_numbered, IsNumberOf}
use Rattle.bt_place.specs.inner.Told.{reading_of}
use Rattle.bt_place.specs.inner.Reaching.{Says, cell_in}
use Rattle.bt_place.proofs.Marking.{paired_by}
use Rattle.bt_place.proofs.reaching.paired.Goals as goal

pub returns-then-says : goal.returns-then-says
returns-then-says c =
    let t = c.args.reading.now in
    let cell : c.cell_of.result ≡ cell_in t c.args.i = c.cell_of.ensures ∙ ap (λ rect. cell_numbered rect c.args.i) c.rect-rect.ensures.rect in
    let pair : Says t (Pair (cell_in t c.args.i) c.args.dir c.args.distance) =
    subst (λ x. reading_of t (Pair x c.args.dir c.args.distance) ≡ true) cell (sym c.says.ensures ∙ c.if-says.true) in
    paired_by t c.args.i c.args.dir c.args.distance c.in-Some.there c.rect-rect.ensures.request.grid pair
    (subst (λ rect. IsNumberOf rect (steps c.args.distance c.args.dir (cell_numbered rect c.args.i)) c.in-Some.there) c.rect-rect.ensures.rect c.in-Some.ensures)
