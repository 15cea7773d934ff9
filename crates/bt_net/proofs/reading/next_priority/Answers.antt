use Rattle.std.proofs.Common.{subst}
use Rattle.std.proofs.lemmas.Bool.{iff_false}
use Rattle.bt_net.specs.Priorities.{AdmitsPriority}
use Rattle.bt_net.proofs.PrioritySpelling.{priority_apart}
use Rattle.bt_net.proofs.reading.next_priority.Goals as goal

pub returns-else-admits : goal.returns-else-admits
returns-else-admits c = λ p here free.
    let same = priority_apart c.args.wiring.now c.requires.small c.requires.few 0 c.args.line.now p c.in_ok-priority.priority here.1 c.in_ok-priority.ensures.0 in
    iff_false c.admits.ensures c.if-admits.false (subst (AdmitsPriority c.args.admitted) same here.0)
