use Rattle.std.proofs.Common.{◌<◌, length, sym, subst}
use Rattle.std.specs.Prelude.{All, AllPairs}
use Rattle.std.specs.List.{remove}
use Rattle.std.proofs.lemmas.List.Quantifiers.{all_pairs_remove}
use Rattle.bt_layout.specs.inner.Progressing.{lesser_of}
use Rattle.bt_layout.proofs.Sweeps.{all_left}
use Rattle.bt_layout.proofs.sweep.after_refutation.Goals as goal

pub returns-clause-sweep : goal.returns-clause-sweep
returns-clause-sweep c = λ requests learnt is are.
    let xs = c.args.sweep.places.items in
    let at = c.args.at in
    let left = sym c.remove.ensures.items in
    record {
      progress = c.with_steps.ensures.progress requests learnt is.progress are;
      lesser =
          subst (All (λ place. place < lesser_of (length requests) c.with_steps.result.found)) left
          (subst (λ found. All (λ place. place < lesser_of (length requests) found) (remove xs at)) (sym c.with_steps.ensures.found)
          (all_left (λ place. place < lesser_of (length requests) c.args.sweep.progress.found) xs at c.requires is.lesser));
      in_order = subst (AllPairs (λ one other. one < other)) left (all_pairs_remove (λ one other. one < other) xs at c.requires is.in_order);
    }
