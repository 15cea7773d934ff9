use Rattle.std.proofs.Common.{◌↔◌, IsTrue, IsPermutation}
use Rattle.std.proofs.lemmas.Result.{IfOk-weaker}
use Rattle.bt_layout_check.specs.Laid.{naming_of}
use Rattle.bt_layout_check.specs.inner.Marks.{AreMarkedAs, HaveSameMarks}
use Rattle.bt_layout_check.proofs.preferring.prefer_same.Goals as goal

pub returns-clause-marked : goal.returns-clause-marked
returns-clause-marked c =
    IfOk-weaker c.are_rearranged.result (λ same. IsTrue same ↔ IsPermutation c.in_ok-first.first.items c.in_ok-second.second.items)
    (λ same. IsTrue same → AreMarkedAs (naming_of c.args.own.now.names) c.args.own.now.net (naming_of c.args.names.now) c.args.net.now)
    (λ same tells t. record {
      first = c.in_ok-first.first.items;
      second = c.in_ok-second.second.items;
      are_first = c.in_ok-first.ensures;
      are_second = c.in_ok-second.ensures;
      same = tells.0 t;
    }) c.are_rearranged.ensures

pub returns-clause-same : goal.returns-clause-same
returns-clause-same c =
    IfOk-weaker c.are_rearranged.result (λ same. IsTrue same ↔ IsPermutation c.in_ok-first.first.items c.in_ok-second.second.items)
    (λ same. HaveSameMarks (naming_of c.args.own.now.names) c.args.own.now.net (naming_of c.args.names.now) c.args.net.now → IsTrue same)
    (λ same tells marks. tells.1 (marks c.in_ok-first.first.items c.in_ok-second.second.items c.in_ok-first.ensures c.in_ok-second.ensures)) c.are_rearranged.ensures
