use Rattle.std.proofs.Common.{◌≡◌, ◌≢◌, ℕ, length, replicate, ◌∙◌, ap, ⊎_elim}
use Rattle.std.proofs.lemmas.Result.{IfOk-weaker}
use Rattle.bt_parts.specs.Hands.{no_priority, priority_of}
use Rattle.bt_parts.specs.declared.part.Kind.TheVariants.{Splitter}
use Rattle.bt_parts.specs.declared.part.Part.{Part}
use Rattle.bt_parts.specs.Layouts.{HasPart}
use Rattle.bt_model.specs.Preferring.{ShowsPreferring}
use Rattle.bt_recover.specs.Recovered.{network_and_naming}
use Rattle.bt_layout_check.specs.Laid.{naming_of}
use Rattle.bt_layout_check.specs.inner.Handed.{AreHanded, to_left}
use Rattle.bt_layout_check.proofs.Halves.{handed_none, handed_told, own_preferring}
use Rattle.bt_layout_check.proofs.Renamed.{joined_as}
use Rattle.bt_layout_check.proofs.Within.{refused_shows_not}
use Rattle.bt_layout_check.proofs.handing.on_grid.Goals as goal

pub handed-requires : goal.handed-requires
handed-requires c =
    let found = network_and_naming c.in-Ok.traced in
    let own = own_preferring c.args.grid.now c.deref.result.now found.0 c.own_of.result.net found.1 (naming_of c.own_of.result.names) c.in-Ok.ensures.right c.own_of.ensures.net c.own_of.ensures.names in
    joined_as c.args.grid.now c.own_of.result.net c.args.net.now (naming_of c.own_of.result.names) (naming_of c.args.names.now) own.0.numbered c.requires.shows

pub returns-in-Ok-clause-shows : goal.returns-in-Ok-clause-shows
returns-in-Ok-clause-shows c =
    let found = network_and_naming c.in-Ok.traced in
    let own = own_preferring c.args.grid.now c.deref.result.now found.0 c.own_of.result.net found.1 (naming_of c.own_of.result.names) c.in-Ok.ensures.right c.own_of.ensures.net c.own_of.ensures.names in
    let lefts : c.deref.result.now ≡ replicate (length c.args.grid.now) to_left =
    c.deref.ensures.value ∙ c.in_ok-lefts.ensures ∙ ap (λ ps. replicate (length ps) to_left) c.parts.ensures.value in
    IfOk-weaker c.handed.result (λ priorities. AreHanded c.parts-in-Ok.result.now (naming_of c.own_of.result.names) c.own_of.result.net (naming_of c.args.names.now) c.args.net.now priorities.items)
    (λ priorities. ShowsPreferring c.args.grid.now priorities.items c.args.net.now (naming_of c.args.names.now))
    (λ priorities handed. handed_told c.args.grid.now c.parts-in-Ok.result.now c.deref.result.now c.own_of.result.net c.args.net.now (naming_of c.own_of.result.names) (naming_of c.args.names.now)
    lefts c.parts-in-Ok.ensures.value own c.requires.network c.requires.shows.names priorities.items handed) c.handed.ensures

pub returns-in-Ok-clause-splitters : goal.returns-in-Ok-clause-splitters
returns-in-Ok-clause-splitters c =
    IfOk-weaker c.handed.result (λ priorities. AreHanded c.parts-in-Ok.result.now (naming_of c.own_of.result.names) c.own_of.result.net (naming_of c.args.names.now) c.args.net.now priorities.items)
    (λ priorities. (i : ℕ) (part : Part) → HasPart c.args.grid.now i part → part.kind ≢ Splitter → priority_of priorities.items i ≡ no_priority)
    (λ priorities handed. handed_none c.args.grid.now c.parts-in-Ok.result.now c.own_of.result.net c.args.net.now (naming_of c.own_of.result.names) (naming_of c.args.names.now) priorities.items
    c.parts-in-Ok.ensures.value handed) c.handed.ensures

pub wanting-requires : goal.wanting-requires
wanting-requires c =
    ⊎_elim (λ right. absurd (refused_shows_not c.args.grid.now (naming_of c.args.names.now) c.args.net.now c.in-Err.fault c.requires.network right c.requires.shows)) (λ memory. memory) c.in-Err.ensures.right
