use Rattle.std.proofs.Common.{sym, subst}
use Rattle.bt_watch.specs.Agendas.{NoneMarked}
use Rattle.bt_watch.proofs.Marks.{none_marked, none_places}
use Rattle.bt_watch.proofs.agenda.Agenda.new.Goals as goal

pub returns : goal.returns
returns c = none_places c.in_ok-vec.field-0.items (subst NoneMarked (sym (c.in_ok-vec.ensures.items_if_clones_equal (λ y is. is))) (none_marked c.args.size))
