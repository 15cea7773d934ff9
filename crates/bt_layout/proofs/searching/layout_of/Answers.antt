use Rattle.std.proofs.Common.{length, sym, subst}
use Rattle.std.proofs.lemmas.Result.{IfOk-weaker}
use Rattle.bt_place.specs.Solutions.{IsSolution}
use Rattle.bt_layout.specs.inner.Ends.{EndsWith, IsSought, IsTrimmedTo}
use Rattle.bt_layout.specs.inner.Progressing.{HasLog}
use Rattle.bt_layout.proofs.LeftOut.{nowhere_layout, nowhere_log}
use Rattle.bt_layout.proofs.searching.layout_of.Goals as goal

pub decode-requires : goal.decode-requires
decode-requires c =
    let ends = subst (EndsWith c.args.request.now c.requires.ends.0 c.args.log.steps) c.in-Model.is c.requires.ends.1 in
    subst (IsSolution c.args.request.now) (sym c.deref.ensures.value) ends

pub returns-in-Refuted-clause-layout : goal.returns-in-Refuted-clause-layout
returns-in-Refuted-clause-layout c learnt ends =
    IfOk-weaker c.nowhere.result (IsTrimmedTo c.args.log) (IsSought c.args.request.now learnt)
    (λ told. nowhere_layout c.args.request.now learnt c.args.log told c.requires.over (subst (EndsWith c.args.request.now learnt c.args.log.steps) c.in-Refuted.is ends)) c.nowhere.ensures

pub returns-in-Refuted-clause-log : goal.returns-in-Refuted-clause-log
returns-in-Refuted-clause-log c =
    IfOk-weaker c.nowhere.result (IsTrimmedTo c.args.log) (λ told. HasLog told (length c.args.log.steps)) (nowhere_log c.args.log) c.nowhere.ensures

pub returns-in-Spent-clause-layout : goal.returns-in-Spent-clause-layout
returns-in-Spent-clause-layout c learnt ends = subst (EndsWith c.args.request.now learnt c.args.log.steps) c.in-Spent.is ends
