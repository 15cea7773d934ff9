use Rattle.std.proofs.Common.{◌≡◌, ◌+◌, ◌≤◌, length, ap, sym, ◌∙◌, subst}
use Rattle.std.proofs.lemmas.List.{get_or-replicate, length-replicate, length-set, take_all}
use Rattle.bt_net.specs.declared.network.TheConstants.{MOST_OF_EACH}
use Rattle.bt_flow.specs.declared.ports.Port.TheVariants.{Unused}
use Rattle.bt_flow.specs.Ports.{numbers_of, plays, numbers_where}
use Rattle.bt_flow.proofs.Numbers.{Fill, port_has_room, number_fits, filled_with, filled_without}
use Rattle.bt_flow.proofs.ports.ports_of.Goals as goal
use Rattle.bt_flow.proofs.ports.ports_of.Goals.{in-Some, in_default}

pub loop-place-init : goal.loop-place-init
loop-place-init c = (length-replicate MOST_OF_EACH Unused, λ k h d. ap numbers_of (get_or-replicate MOST_OF_EACH k Unused d h))

pub bounds-ports-number : goal.bounds-ports-number
bounds-ports-number c =
    number_fits c.args.net.now c.args.role c.edges-edge-items.ensures.network c.edges-edge-items.result.now c.loop-place.place c.in-Some.number _
    c.edges-edge-items.ensures.edges c.loop-place-test.true c.in-Some.ensures.some

pub with-requires : goal.with-requires
with-requires c =
    port_has_room c.args.net.now c.args.role c.edges-edge-items.ensures.network c.edges-edge-items.result.now c.loop-place.place c.in-Some.number _ c.loop-place.ports
    c.edges-edge-items.ensures.edges c.loop-place-test.true c.in-Some.ensures.some c.loop-place.invariant.1

pub bounds-ports-number-in-Some : goal.bounds-ports-number-in-Some
bounds-ports-number-in-Some c =
    number_fits c.args.net.now c.args.role c.edges-edge-items.ensures.network c.edges-edge-items.result.now c.loop-place.place c.in-Some.number _
    c.edges-edge-items.ensures.edges c.loop-place-test.true c.in-Some.ensures.some

pub loop-place-preserved : goal.loop-place-preserved
loop-place-preserved c =
    let n = c.args.net.now in
    let same = c.edges-edge-items.ensures.edges in
    elim c.match-number_in.branch [
      | in-Some w ↦
          let few = number_fits n c.args.role c.edges-edge-items.ensures.network c.edges-edge-items.result.now c.loop-place.place w.in-Some.number _ same c.loop-place-test.true w.in-Some.ensures.some in
          subst (λ ports. (length ports ≡ MOST_OF_EACH) × Fill n c.args.role (c.loop-place.place + 1) ports) (sym w.ports-is) (
            length-set c.loop-place.ports w.in-Some.number w.with.result ∙ c.loop-place.invariant.0,
            filled_with n c.args.role c.edges-edge-items.result.now c.loop-place.place c.loop-place.ports _ w.in-Some.number w.with.result same c.loop-place-test.true
                c.loop-place.invariant.0 few w.in-Some.ensures.some w.with.ensures c.loop-place.invariant.1,
          )
      | in_default w ↦
          subst (λ ports. (length ports ≡ MOST_OF_EACH) × Fill n c.args.role (c.loop-place.place + 1) ports) (sym w.ports-is)
          (c.loop-place.invariant.0, filled_without n c.args.role c.edges-edge-items.result.now c.loop-place.place c.loop-place.ports _ same c.loop-place-test.true w.in_default.ensures.none c.loop-place.invariant.1)
    ]

pub returns-clause-ports : goal.returns-clause-ports
returns-clause-ports c =
    record {
      long = c.loop-place.invariant.0;
      at = λ k h d. c.loop-place.invariant.1 k h d ∙ ap (numbers_where (plays c.args.role k) 0) (take_all c.loop-place.place c.args.net.now.edges (subst (λ l. length l ≤ c.loop-place.place) c.edges-edge-items.ensures.edges c.loop-place-test.false));
    }
