use Rattle.std.proofs.Common.{subst}
use Rattle.bt_layout.specs.Early.{IsEarly}
use Rattle.bt_layout.proofs.Smaller.{laid_small, spent_small}
use Rattle.bt_layout.proofs.small.small_of.Goals as goal

pub returns-in-Laid : goal.returns-in-Laid
returns-in-Laid c = λ r cells learnt few asks is.
    laid_small r cells c.args.requests.now asks few learnt c.in-Laid.place c.in-Laid.parts c.index-requests-place.result c.rect.result
    (subst (IsEarly c.args.requests.now learnt) c.in-Laid.is is) c.index-requests-place.is c.rect.ensures.rect

pub returns-in-Spent : goal.returns-in-Spent
returns-in-Spent c = λ r cells learnt few asks is.
    spent_small r cells c.args.requests.now asks few learnt c.in-Spent.steps (subst (IsEarly c.args.requests.now learnt) c.in-Spent.is is)
