use Rattle.std.proofs.Common.{length, sym, subst}
use Rattle.bt_watch.specs.Agendas.{NoneMarked}
use Rattle.bt_watch.proofs.Marks.{none_marked}
use Rattle.bt_watch.proofs.agenda.unmark_all.Goals as goal

pub returns-clause-none : goal.returns-clause-none
returns-clause-none c = subst NoneMarked (sym (c.fill.ensures.after (λ y is. is))) (none_marked (length c.args.marks.now))
