use Rattle.std.proofs.Common.{subst}
use Rattle.std.specs.Prelude.{OnOk}
use Rattle.bt_watch.specs.Agendas.{places_of, Adds}
use Rattle.bt_watch.proofs.agenda.Agenda.add.Goals as goal

pub returns : goal.returns
returns c = subst (λ old. OnOk c.mark.result (Adds old c.args.place (places_of c.mark.new.marks.items))) c.self.view_is c.mark.ensures.adds
