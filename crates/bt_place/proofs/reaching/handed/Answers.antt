use Rattle.std.proofs.Common.{◌≡◌, true, ap, sym, ◌∙◌, subst}
use Rattle.bt_facts.specs.declared.fact.Fact.TheVariants.{Goes}
use Rattle.bt_place.specs.inner.Grid.{cell_numbered, TellsAhead}
use Rattle.bt_place.specs.inner.Told.{reading_of}
use Rattle.bt_place.specs.inner.Reaching.{Says, cell_in}
use Rattle.bt_place.proofs.Marking.{handed_by}
use Rattle.bt_place.proofs.reaching.handed.Goals as goal

pub returns : goal.returns
returns c =
    let t = c.args.reading.now in
    let cell : c.cell_of.result ≡ cell_in t c.args.i = c.cell_of.ensures ∙ ap (λ rect. cell_numbered rect c.args.i) c.rect-rect.ensures.rect in
    let goes : Says t (Goes (cell_in t c.args.i) c.args.dir) =
    subst (λ x. reading_of t (Goes x c.args.dir) ≡ true) cell (sym c.says.ensures ∙ c.if-not-says.false) in
    handed_by t c.requires.solved c.args.i c.args.dir c.ahead.result c.requires.within goes
    (subst (λ rect. TellsAhead rect (cell_numbered rect c.args.i) c.args.dir 1 c.ahead.result) c.rect-rect.ensures.rect c.ahead.ensures)
