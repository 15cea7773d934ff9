use Rattle.std.proofs.Common.{sym, subst, ◌∙◌}
use Rattle.bt_layout.specs.Early.{IsEarly}
use Rattle.bt_layout.specs.inner.Progressing.{AskEach}
use Rattle.bt_layout.proofs.small.sought_small.Goals as goal

pub small_of-requires : goal.small_of-requires
small_of-requires c = (c.args.learnt, subst (λ requests. IsEarly requests c.args.learnt c.in_ok-early.early) (c.deref.ensures.value ∙ sym c.deref-2.ensures.value) c.in_ok-early.ensures)

pub returns : goal.returns
returns c =
    c.small_of.ensures c.args.request.now c.args.cells c.args.learnt c.requires.few
    (subst (AskEach c.args.request.now c.args.cells) (sym c.deref-2.ensures.value) c.in_ok-requests.ensures)
    (subst (λ requests. IsEarly requests c.args.learnt c.in_ok-early.early) (c.deref.ensures.value ∙ sym c.deref-2.ensures.value) c.in_ok-early.ensures)
