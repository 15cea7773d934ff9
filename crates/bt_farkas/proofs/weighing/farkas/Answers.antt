use Rattle.std.proofs.Common.{refl}
use Rattle.bt_text.proofs.OneAnswer.{answers_always_of}
use Rattle.bt_farkas.specs.Farkas.{IsFarkas}
use Rattle.bt_farkas.specs.WeightedRows.{weighted}
use Rattle.bt_farkas.proofs.FarkasLemmas.{one_farkas}
use Rattle.bt_farkas.proofs.weighing.farkas.Goals as goal

pub judged-requires-clause-may_weigh : goal.judged-requires-clause-may_weigh
judged-requires-clause-may_weigh c = c.if-not-may_weigh.ensures.0 refl

pub returns : goal.returns
returns c =
    let sum = weighted c.args.rows.now c.args.picks.now c.args.weights.now in
    answers_always_of (IsFarkas sum) (one_farkas sum) c.judged.result c.judged.ensures
