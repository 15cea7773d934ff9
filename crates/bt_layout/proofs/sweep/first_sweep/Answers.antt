use Rattle.std.proofs.Common.{◌<◌, ◌∙◌, ap, subst}
use Rattle.std.specs.List.{All}
use Rattle.std.specs.Prelude.{All}
use Rattle.bt_layout.specs.inner.Progressing.{lesser_of}
use Rattle.bt_layout.proofs.sweep.first_sweep.Goals as goal

pub returns : goal.returns
returns c = λ requests learnt size is. record {
  progress = is;
  lesser = subst (λ n. All (λ place. place < n) c.in_ok-places.places.items) (c.lesser.ensures ∙ ap (λ n. lesser_of n c.args.progress.found) size) c.in_ok-places.ensures.below;
  in_order = c.in_ok-places.ensures.in_order;
}
