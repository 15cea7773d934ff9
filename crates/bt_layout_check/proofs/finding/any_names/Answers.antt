use Rattle.std.proofs.Common.{[], ◌∙◌, ap}
use Rattle.std.specs.Prelude.{MatchOption}
use Rattle.std.proofs.lemmas.Result.{IfOk-weaker}
use Rattle.bt_model.specs.Laying.{Lays}
use Rattle.bt_layout_check.specs.Laid.{LaysBy, naming_of}
use Rattle.bt_layout_check.specs.inner.Finding.{NoneGoesOn, count_in}
use Rattle.bt_layout_check.proofs.Gone.{none_at_all, told_weaker}
use Rattle.bt_layout_check.proofs.finding.any_names.Goals as goal

pub returns : goal.returns
returns c =
    IfOk-weaker c.gone_on.result
    (λ found. MatchOption found (NoneGoesOn c.args.parts.now c.args.request.now [] c.count_of.result) (λ names. LaysBy c.args.parts.now (naming_of names) c.args.request.now))
    (λ found. MatchOption found (Lays c.args.parts.now c.args.request.now → ⊥) (λ names. LaysBy c.args.parts.now (naming_of names) c.args.request.now))
    (λ found told. told_weaker found (NoneGoesOn c.args.parts.now c.args.request.now [] c.count_of.result) (Lays c.args.parts.now c.args.request.now → ⊥)
    (λ names. LaysBy c.args.parts.now (naming_of names) c.args.request.now)
    (λ none. none_at_all c.args.parts.now c.args.request.now c.count_of.result (c.count_of.ensures ∙ ap count_in c.net.ensures.net) none) told) c.gone_on.ensures
