use Rattle.std.proofs.Common.{◌<◌, ◌+◌, sym, subst, arith}
use Rattle.std.specs.List.{All, AllPairs}
use Rattle.std.proofs.lemmas.List.Elements.{All-push, All-weaker}
use Rattle.std.proofs.lemmas.List.Quantifiers.{all_pairs_push}
use Rattle.bt_layout.proofs.sweep.places_below.Goals as goal

pub loop-place-init : goal.loop-place-init
loop-place-init c = record {
  below = λ i d within. absurd (omega (arith, within));
  in_order = λ i j d before within. absurd (omega (arith, within));
}

pub loop-place-preserved : goal.loop-place-preserved
loop-place-preserved c =
    let place = c.loop-place.place in
    let before = c.loop-place.places.items in
    let below = c.loop-place.invariant.below in
    let is = sym c.in_ok-push.ensures.items in
    record {
      below =
          subst (All (λ x. x < place + 1)) is
          (All-push (λ x. x < place + 1) before place (All-weaker (λ x. x < place) (λ x. x < place + 1) (λ x lt. omega (arith, lt)) before below) (omega arith));
      in_order = subst (AllPairs (λ one other. one < other)) is (all_pairs_push (λ one other. one < other) before place c.loop-place.invariant.in_order below);
    }
