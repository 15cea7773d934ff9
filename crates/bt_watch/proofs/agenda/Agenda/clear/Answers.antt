use Rattle.std.proofs.Common.{ap, length, sym, ◌∙◌}
use Rattle.std.proofs.lemmas.List.{with_items_is}
use Rattle.bt_watch.specs.Agendas.{places_of}
use Rattle.bt_watch.proofs.Marks.{none_places}
use Rattle.bt_watch.proofs.agenda.Agenda.clear.Goals as goal

pub returns : goal.returns
returns c =
    let size = c.unmark_all.ensures.size ∙ ap length c.deref_mut.ensures.value ∙ sym c.self.inside.marks.ok.0 in
    ap places_of (with_items_is c.self.inside.marks c.unmark_all.new.marks size) ∙ none_places c.unmark_all.new.marks c.unmark_all.ensures.none
