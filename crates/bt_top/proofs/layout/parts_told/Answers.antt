use Rattle.std.proofs.Common.{refl, sym, subst}
use Rattle.bt_model.specs.Laying.{Lays, LaysPreferring}
use Rattle.bt_entities.specs.ReadBack.{SplittersPrefer}
use Rattle.bt_layout.proofs.Written.{laid_is_read_back}
use Rattle.bt_top.proofs.layout.parts_told.Goals as goal

pub priorities_of-requires : goal.priorities_of-requires
priorities_of-requires c = subst (λ parts. Lays parts c.args.request.now) (sym c.deref.ensures.value) c.requires.lays

pub returns : goal.returns
returns c =
    let r = c.args.request.now in
    let priorities = c.in_ok-priorities.priorities in
    let lays = subst (λ parts. LaysPreferring parts priorities.items r) c.deref.ensures.value c.in_ok-priorities.ensures.lays in
    let may = subst (λ parts. SplittersPrefer parts priorities.items) c.deref.ensures.value c.in_ok-priorities.ensures.splitters in
    (priorities, lays, laid_is_read_back r c.args.parts.items priorities.items c.requires.request c.requires.few c.requires.lays may, refl)
