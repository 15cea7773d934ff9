use Rattle.std.proofs.Common.{◌↔◌, IsTrue, sym, ◌∙◌}
use Rattle.std.proofs.lemmas.Bool.{false≢true}
use Rattle.std.proofs.lemmas.Result.{IfOk-weaker}
use Rattle.bt_model.specs.Shown.{Shows}
use Rattle.bt_layout_check.specs.Laid.{naming_of}
use Rattle.bt_layout_check.specs.inner.Tests.{AreJoinedAs}
use Rattle.bt_layout_check.proofs.Renamed.{joined_as, named_as, naming_as, shows_as}
use Rattle.bt_layout_check.proofs.testing.shows.Goals as goal

pub returns-then-not-branch : goal.returns-then-not-branch
returns-then-not-branch c =
    let own = c.requires.numbered.names in (
      λ t. absurd (false≢true t),
      λ shows. absurd (false≢true (sym c.if-not-branch.true ∙ c.in_ok-are_named.ensures.1
          (named_as c.args.grid.now (naming_of c.args.own.now.names) (naming_of c.args.names.now) c.args.net.now own.splitters own.inputs own.outputs shows.names))),
    )

pub returns : goal.returns
returns c =
    let own = c.requires.numbered.names in
    let names = naming_as c.args.grid.now (naming_of c.args.own.now.names) (naming_of c.args.names.now) c.args.net.now own.splitters own.inputs own.outputs
    (c.in_ok-are_named.ensures.0 c.if-not-branch.false) in
    IfOk-weaker c.are_joined.result (λ joined. IsTrue joined ↔ AreJoinedAs (naming_of c.args.own.now.names) c.args.own.now.net (naming_of c.args.names.now) c.args.net.now)
    (λ holds. IsTrue holds ↔ Shows c.args.grid.now c.args.net.now (naming_of c.args.names.now))
    (λ holds tells. (
      λ t. shows_as c.args.grid.now c.args.own.now.net c.args.net.now (naming_of c.args.own.now.names) (naming_of c.args.names.now) c.requires.network c.requires.numbered names (tells.0 t),
      λ shows. tells.1 (joined_as c.args.grid.now c.args.own.now.net c.args.net.now (naming_of c.args.own.now.names) (naming_of c.args.names.now) c.requires.numbered shows),
    )) c.are_joined.ensures
