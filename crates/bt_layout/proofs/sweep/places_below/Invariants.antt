use Rattle.std.proofs.Common.{◌<◌}
use Rattle.std.specs.List.{All, AllPairs}
use Rattle.bt_layout.proofs.sweep.places_below.Given as goal

-- the places so far are below the next one, and ascend
abbrev pub invariant-loop-place : goal.invariant-loop-place
invariant-loop-place l = record {
  below : All (λ place. place < l.place) l.places.items;
  in_order : AllPairs (λ one other. one < other) l.places.items;
}
