use Rattle.std.proofs.Common.{ℕ, ◌∙◌, ap, subst}
use Rattle.bt_parts.specs.Cells.{opposite}
use Rattle.std.specs.Option.{MatchOption}
use Rattle.bt_model.specs.inner.Sight.{LooksToward}
use Rattle.bt_model.proofs.SightLemmas.{not_opposite}
use Rattle.bt_model.proofs.HandLaws.{three_seen}
use Rattle.bt_recover.proofs.following.belt_feeder.Goals as goal

pub returns-in-Some-clause-feeder : goal.returns-in-Some-clause-feeder
returns-in-Some-clause-feeder c = (c.args.belt.now.dir, not_opposite c.args.belt.now.dir, c.in-Some.ensures.seen)

pub returns-clause-feeder : goal.returns-clause-feeder
returns-clause-feeder c =
    let grid = c.args.grid.now in
    let belt = c.args.belt.now in
    three_seen grid belt c.in_default.ensures.seen
    (subst (λ d. (p : ℕ) → LooksToward grid belt.cell d p → ⊥) c.left.ensures c.in_default-looker.ensures.seen)
    c.looker-3.result
    (subst (λ d. MatchOption c.looker-3.result ((p : ℕ) → LooksToward grid belt.cell d p → ⊥) (LooksToward grid belt.cell d))
    (c.opposite.ensures ∙ ap (λ d. opposite d) c.left-2.ensures) c.looker-3.ensures.seen)
