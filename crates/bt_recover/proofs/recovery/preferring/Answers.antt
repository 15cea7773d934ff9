use Rattle.std.proofs.Common.{◌≡◌, ◌<◌, length, subst, sym}
use Rattle.std.specs.Prelude.{Ok}
use Rattle.std.specs.List.{All, AllZip}
use Rattle.bt_model.specs.Chains.{IsSplitter}
use Rattle.bt_recover.specs.Preferred.{IsGivenFirst, IsTakenFirst, ArePreferred, IsRecoveredWith}
use Rattle.bt_recover.specs.inner.Edges.{naming_of, IsJoint}
use Rattle.bt_recover.proofs.NetworkLemmas.{splitter_within, each_within}
use Rattle.bt_recover.proofs.PreferLemmas.{found_with}
use Rattle.bt_recover.proofs.recovery.preferring.Goals as goal

pub gives_of-requires-clause-within : goal.gives_of-requires-clause-within
gives_of-requires-clause-within c =
    subst (λ xs. All (λ s. s < length c.args.grid.now) xs) (sym c.deref.ensures.value)
    (each_within (IsSplitter c.args.grid.now) c.args.found.names.splitters.items (length c.args.grid.now) (splitter_within c.args.grid.now) c.requires.names.splitters)

pub takes_of-requires-clause-within : goal.takes_of-requires-clause-within
takes_of-requires-clause-within c =
    subst (λ xs. All (λ s. s < length c.args.grid.now) xs) (sym c.deref-3.ensures.value)
    (each_within (IsSplitter c.args.grid.now) c.args.found.names.splitters.items (length c.args.grid.now) (splitter_within c.args.grid.now) c.requires.names.splitters)

pub preferring-requires : goal.preferring-requires
preferring-requires c =
    (found_with c.args.grid.now c.args.priorities.now c.args.found c.in_ok-gives.gives.items c.in_ok-takes.takes.items c.requires
    (λ naming chains same zip. subst (λ xs. ArePreferred (IsGivenFirst c.args.grid.now c.args.priorities.now) xs chains c.in_ok-gives.gives.items) c.deref.ensures.value
    (c.in_ok-gives.ensures naming chains (subst (λ xs. naming.splitters ≡ xs) (sym c.deref.ensures.value) same) (subst (λ js. AllZip (IsJoint c.args.grid.now naming) chains js) (sym c.deref-2.ensures.value) zip)))
    (λ naming chains same zip. subst (λ xs. ArePreferred (IsTakenFirst c.args.grid.now c.args.priorities.now) xs chains c.in_ok-takes.takes.items) c.deref-3.ensures.value
    (c.in_ok-takes.ensures naming chains (subst (λ xs. naming.splitters ≡ xs) (sym c.deref-3.ensures.value) same) (subst (λ js. AllZip (IsJoint c.args.grid.now naming) chains js) (sym c.deref-4.ensures.value) zip)))).0

pub returns : goal.returns
returns c =
    let found =
    (found_with c.args.grid.now c.args.priorities.now c.args.found c.in_ok-gives.gives.items c.in_ok-takes.takes.items c.requires
    (λ naming chains same zip. subst (λ xs. ArePreferred (IsGivenFirst c.args.grid.now c.args.priorities.now) xs chains c.in_ok-gives.gives.items) c.deref.ensures.value
    (c.in_ok-gives.ensures naming chains (subst (λ xs. naming.splitters ≡ xs) (sym c.deref.ensures.value) same) (subst (λ js. AllZip (IsJoint c.args.grid.now naming) chains js) (sym c.deref-2.ensures.value) zip)))
    (λ naming chains same zip. subst (λ xs. ArePreferred (IsTakenFirst c.args.grid.now c.args.priorities.now) xs chains c.in_ok-takes.takes.items) c.deref-3.ensures.value
    (c.in_ok-takes.ensures naming chains (subst (λ xs. naming.splitters ≡ xs) (sym c.deref-3.ensures.value) same) (subst (λ js. AllZip (IsJoint c.args.grid.now naming) chains js) (sym c.deref-4.ensures.value) zip)))).1 in
    let net = c.preferring.ensures in
    subst (λ told. IsRecoveredWith c.args.grid.now c.args.priorities.now (Ok told)) (sym c.told_as.ensures)
    (subst (λ n. IsRecoveredWith c.args.grid.now c.args.priorities.now (Ok (n, naming_of c.args.found.names))) (sym net) found)
