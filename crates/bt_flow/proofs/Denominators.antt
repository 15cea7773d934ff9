-- Fractions in lowest terms stand for whole numbers over one denominator.
use Rattle.std.proofs.Common.{◌<◌, ℤ, List, ◌++◌, refl, ◌∙◌}
use Rattle.std.specs.List.{All}
use Rattle.std.proofs.lemmas.List.Elements.{All-append}
use Rattle.std.proofs.lemmas.Slice.Zip.{AllZip-long}
use Rattle.bt_frac.specs.Ratio.{Ratio, IsLowest, IsOver}
use Rattle.bt_frac.proofs.Over.{common_denominator, are_over_split}
use Rattle.bt_net.specs.Network.{Network}
use Rattle.bt_flow.specs.States.{Flows, Fractions, AreLowest, StandsFor, Fits}

positive : (rs : List Ratio) → All IsLowest rs → All (λ r. 0 < r.under) rs
positive rs h = λ k d l. (h k d l).positive

pub some_flows : (n : Network) (t : Fractions) → AreLowest t → Fits n t → (s : Flows) × StandsFor n t s
some_flows n t lowest fits =
    let ends = t.loads ++ t.rooms in
    let all : All IsLowest (t.flows ++ ends) = All-append IsLowest t.flows ends lowest.flows (All-append IsLowest t.loads t.rooms lowest.loads lowest.rooms) in
    let c = common_denominator (t.flows ++ ends) (positive (t.flows ++ ends) all) in
    let front = are_over_split t.flows ends c.2.0 c.0 c.2.1 in
    let back = are_over_split t.loads t.rooms front.1.0 c.0 front.1.3 in
    let long = λ (rs : List Ratio) (ws : List ℤ). AllZip-long (λ r w. IsOver r w c.0) rs ws in (
      record { denominator = c.0; flows = front.0; backed = t.backed; loads = back.0; rooms = back.1.0 },
      record {
        is_state = record {
          positive = c.1;
          flows = long t.flows front.0 front.1.2 ∙ fits.flows;
          backed = fits.backed;
          loads = long t.loads back.0 back.1.2 ∙ fits.loads;
          rooms = long t.rooms back.1.0 back.1.3 ∙ fits.rooms;
        };
        flows = front.1.2;
        backed = refl;
        loads = back.1.2;
        rooms = back.1.3;
      },
    )
