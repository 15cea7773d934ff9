use Rattle.std.proofs.Common.{◌<◌, length, sym, subst}
use Rattle.std.specs.Prelude.{All}
use Rattle.bt_layout.specs.inner.Progressing.{lesser_of}
use Rattle.bt_layout.proofs.sweep.after_giving_up.Goals as goal

pub returns-clause-sweep : goal.returns-clause-sweep
returns-clause-sweep c = λ requests learnt is are. record {
  progress = c.with_steps.ensures.progress requests learnt is.progress are;
  lesser =
      subst (λ found. All (λ place. place < lesser_of (length requests) found) c.args.sweep.places.items) (sym c.with_steps.ensures.found) is.lesser;
  in_order = is.in_order;
}
