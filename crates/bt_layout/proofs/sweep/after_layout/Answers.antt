use Rattle.std.proofs.Common.{◌≡◌, ◌∙◌, ◌<◌, get_or, length, sym, subst}
use Rattle.std.specs.Prelude.{All, AllPairs, take}
use Rattle.std.proofs.lemmas.List.{get_or_default}
use Rattle.bt_layout.specs.Early.{IsLaid}
use Rattle.bt_layout.specs.inner.Progressing.{lesser_of}
use Rattle.bt_layout.proofs.Sweeps.{first_ascend, first_less}
use Rattle.bt_layout.proofs.sweep.after_layout.Goals as goal

pub returns-clause-sweep : goal.returns-clause-sweep
returns-clause-sweep c = λ requests learnt is are laid.
    let xs = c.args.sweep.places.items in
    let at = c.args.at in
    let place = c.index-place.result.now in
    let same : place ≡ get_or xs at 0 = c.index-place.ensures ∙ get_or_default xs at place 0 c.requires.inside in
    let first = sym c.truncate.ensures.items in
    record {
      progress = c.with_layout.ensures.progress requests learnt is.progress are (subst (λ p. IsLaid requests p c.args.parts) (sym same) laid);
      lesser =
          subst (All (λ p. p < lesser_of (length requests) c.with_layout.result.found)) first
          (subst (λ found. All (λ p. p < lesser_of (length requests) found) (take at xs)) (sym c.with_layout.ensures.found)
          (subst (λ n. All (λ p. p < n) (take at xs)) (sym same) (first_less xs at c.requires.inside is.in_order)));
      in_order = subst (AllPairs (λ one other. one < other)) first (first_ascend xs at is.in_order);
    }
