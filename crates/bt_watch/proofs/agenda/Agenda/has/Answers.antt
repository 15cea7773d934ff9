use Rattle.std.proofs.Common.{ap, false, get_or, sym, subst, ◌∙◌}
use Rattle.std.specs.Prelude.{Contains}
use Rattle.bt_watch.proofs.Marks.{in_places}
use Rattle.bt_watch.proofs.agenda.Agenda.has.Goals as goal

pub returns : goal.returns
returns c = λ is.
    subst (λ places. Contains places c.args.place) c.self.view_is
    (in_places c.self.inside.marks.items c.args.place (ap (λ marks. get_or marks c.args.place false) (sym c.deref.ensures.value) ∙ sym c.is_marked.ensures ∙ is))
