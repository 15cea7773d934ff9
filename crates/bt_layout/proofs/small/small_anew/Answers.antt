use Rattle.std.proofs.Common.{sym, ◌∙◌}
use Rattle.std.specs.Prelude.{IfSome, MatchOption}
use Rattle.std.proofs.lemmas.Bool.{false≢true}
use Rattle.std.proofs.lemmas.Result.{IfOk-weaker}
use Rattle.bt_layout.specs.Small.{IsBeyond, IsSmall}
use Rattle.bt_layout.proofs.Smaller.{said_or}
use Rattle.bt_layout.proofs.small.small_anew.Goals as goal

pub sought_small-requires-clause-few : goal.sought_small-requires-clause-few
sought_small-requires-clause-few c = λ beyond. false≢true (sym c.if-is_beyond.false ∙ c.is_beyond.ensures.1 beyond)

pub returns-then-is_beyond : goal.returns-then-is_beyond
returns-then-is_beyond c =
    let small = IsSmall c.args.request.now c.args.cells c.args.learnt in
    let beyond = IsBeyond c.args.request.now c.args.cells in
    IfOk-weaker c.proposed_small.result (λ answer. IfSome answer small) (λ answer. MatchOption answer beyond small)
    (λ answer said. said_or answer beyond small (c.is_beyond.ensures.0 c.if-is_beyond.true) said) c.proposed_small.ensures
