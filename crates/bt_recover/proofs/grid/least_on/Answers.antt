use Rattle.std.proofs.Common.{◌≡◌, ◌∙◌, ap, rules, None}
use Rattle.std.specs.Option.{MatchOption}
use Rattle.bt_recover.specs.inner.Index.{index_at}
use Rattle.bt_recover.proofs.IndexLemmas.{least_on_part}
use Rattle.bt_recover.proofs.grid.least_on.Goals as goal

pub returns : goal.returns
returns c =
    let there : MatchOption c.cells_of-second.result.1 (c.and_then.result ≡ None) (λ cell. c.and_then.result ≡ index_at c.args.cells.now cell) = search rules in
    least_on_part c.args.cells.now c.args.part.now c.cells_of-second.result.1 c.index_at.result c.and_then.result c.lesser.result
    c.cells_of-second.ensures.second (c.index_at.ensures ∙ ap (λ k. index_at c.args.cells.now k) c.cells_of-second.ensures.first) there c.lesser.ensures
