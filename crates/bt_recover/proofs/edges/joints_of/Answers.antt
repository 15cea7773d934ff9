use Rattle.std.proofs.Common.{◌≡◌, ◌+◌, ◌<◌, length, get_or, subst, sym, ap, arith}
use Rattle.bt_net.specs.declared.network.Start.TheVariants as from
use Rattle.bt_model.specs.Chains.{IsInput, IsSplitter, IsLink}
use Rattle.bt_recover.specs.inner.Edges.{naming_of, IsJoint, HasEdges, LeadsTo, AddsHalves}
use Rattle.bt_recover.proofs.Done.{InputsDone, SplittersDone}
use Rattle.bt_model.proofs.ExistLemmas.{input_link}
use Rattle.bt_recover.proofs.EdgeLemmas.{edges_none, edges_inputs, edges_all}
use Rattle.bt_recover.proofs.NetworkLemmas.{each_at, input_within, splitter_within, input_step, halves_step}
use Rattle.bt_recover.proofs.edges.joints_of.Goals as goal

pub loop-k-init : goal.loop-k-init
loop-k-init c =
    subst (λ es. HasEdges c.args.grid.now (IsJoint c.args.grid.now (naming_of c.args.names.now)) (InputsDone c.args.names.now.inputs.items 0) es) (sym c.new-joints.ensures.items)
    (edges_none c.args.grid.now (IsJoint c.args.grid.now (naming_of c.args.names.now)) (naming_of c.args.names.now))

pub way_from-way-requires-clause-link : goal.way_from-way-requires-clause-link
way_from-way-requires-clause-link c =
    subst (λ xs. IsLink c.args.grid.now (get_or xs c.loop-k.k 0)) (sym c.deref-i-items.ensures.value)
    (input_link c.args.grid.now _ (each_at (IsInput c.args.grid.now) c.args.names.now.inputs.items c.loop-k.k c.requires.names.inputs (omega (arith, ap length c.deref-i-items.ensures.value))))

pub way_from-way-requires-clause-within : goal.way_from-way-requires-clause-within
way_from-way-requires-clause-within c =
    subst (λ xs. get_or xs c.loop-k.k 0 < length c.args.grid.now) (sym c.deref-i-items.ensures.value)
    (input_within c.args.grid.now _ (each_at (IsInput c.args.grid.now) c.args.names.now.inputs.items c.loop-k.k c.requires.names.inputs (omega (arith, ap length c.deref-i-items.ensures.value))))

pub loop-k-preserved : goal.loop-k-preserved
loop-k-preserved c =
    subst (λ es. HasEdges c.args.grid.now (IsJoint c.args.grid.now (naming_of c.args.names.now)) (InputsDone c.args.names.now.inputs.items (c.loop-k.k + 1)) es) (sym c.in_ok-push.ensures.items)
    (input_step c.args.grid.now c.requires.clean (naming_of c.args.names.now) c.in_ok-labels.labels c.requires.names c.in_ok-labels.ensures c.loop-k.k c.loop-k.joints.items c.way_from-way.result c.joint_of.result c.joint_of.ensures
    (omega (arith, ap length c.deref-i-items.ensures.value))
    (subst (λ xs. LeadsTo c.args.grid.now c.in_ok-labels.labels.numbers.items (get_or xs c.loop-k.k 0) c.way_from-way.result) c.deref-i-items.ensures.value c.way_from-way.ensures)
    c.loop-k.invariant)

pub loop-k-2-init : goal.loop-k-2-init
loop-k-2-init c =
    let all : c.loop-k.k ≡ length c.args.names.now.inputs.items = omega (arith, ap length c.deref-i-items.ensures.value) in
    edges_inputs c.args.grid.now (IsJoint c.args.grid.now (naming_of c.args.names.now)) (naming_of c.args.names.now) c.loop-k.joints.items c.requires.names
    (subst (λ k. HasEdges c.args.grid.now (IsJoint c.args.grid.now (naming_of c.args.names.now)) (InputsDone c.args.names.now.inputs.items k) c.loop-k.joints.items) all c.loop-k.invariant)

pub push_halves-requires-clause-splitter : goal.push_halves-requires-clause-splitter
push_halves-requires-clause-splitter c =
    subst (λ xs. IsSplitter c.args.grid.now (get_or xs c.loop-k-2.k 0)) (sym c.deref-s-items.ensures.value)
    (each_at (IsSplitter c.args.grid.now) c.args.names.now.splitters.items c.loop-k-2.k c.requires.names.splitters (omega (arith, ap length c.deref-s-items.ensures.value)))

pub push_halves-requires-clause-within : goal.push_halves-requires-clause-within
push_halves-requires-clause-within c =
    subst (λ xs. get_or xs c.loop-k-2.k 0 < length c.args.grid.now) (sym c.deref-s-items.ensures.value)
    (splitter_within c.args.grid.now _ (each_at (IsSplitter c.args.grid.now) c.args.names.now.splitters.items c.loop-k-2.k c.requires.names.splitters (omega (arith, ap length c.deref-s-items.ensures.value))))

pub loop-k-2-preserved : goal.loop-k-2-preserved
loop-k-2-preserved c =
    halves_step c.args.grid.now c.requires.clean (naming_of c.args.names.now) c.in_ok-labels.labels c.requires.names c.in_ok-labels.ensures c.loop-k-2.k c.loop-k-2.joints.items c.push_halves.new.joints.items
    (omega (arith, ap length c.deref-s-items.ensures.value))
    (subst (λ xs. AddsHalves c.args.grid.now c.in_ok-labels.labels (get_or xs c.loop-k-2.k 0) (from.Split c.loop-k-2.k) c.loop-k-2.joints.items c.push_halves.new.joints.items) c.deref-s-items.ensures.value
    c.in_ok-push_halves.ensures)
    c.loop-k-2.invariant

pub returns : goal.returns
returns c =
    let all : c.loop-k-2.k ≡ length c.args.names.now.splitters.items = omega (arith, ap length c.deref-s-items.ensures.value) in
    edges_all c.args.grid.now (IsJoint c.args.grid.now (naming_of c.args.names.now)) (naming_of c.args.names.now) c.loop-k-2.joints.items c.requires.names
    (subst (λ k. HasEdges c.args.grid.now (IsJoint c.args.grid.now (naming_of c.args.names.now)) (SplittersDone c.args.names.now.splitters.items k) c.loop-k-2.joints.items) all c.loop-k-2.invariant)
