use Rattle.std.proofs.Common.{◌≡◌, ◌<◌, ◌^◌, ◌∙◌, ap, arith}
use Rattle.bt_place.specs.Numbering.{variables, variable_of}
use Rattle.bt_place.specs.inner.Blocks.{sizes_with}
use Rattle.bt_place.proofs.Sizing.{fact_few, fact_below}
use Rattle.bt_place.proofs.numbering.Numbers.variable.Goals as goal

pub number-variable-requires-clause-few : goal.number-variable-requires-clause-few
number-variable-requires-clause-few c =
    let z = sizes_with c.self.inside.extent c.self.inside.classes.items c.self.inside.ranks.items in
    let small : variable_of c.args.self.now c.args.fact < 2 ^ 32 = fact_few z c.self.inside.starts c.self.invariant c.args.self.now c.self.view_is c.args.fact c.requires in
    omega (arith, small)

pub prove-unreachable-requires : goal.prove-unreachable-requires
prove-unreachable-requires c =
    let z = sizes_with c.self.inside.extent c.self.inside.classes.items c.self.inside.ranks.items in
    let below : variable_of c.args.self.now c.args.fact < variables c.args.self.now = fact_below z c.self.inside.starts c.self.invariant c.args.self.now c.self.view_is c.args.fact c.requires in
    let end : c.self.inside.starts.end ≡ variables c.args.self.now = ap (λ s. s.end) c.self.invariant.begin ∙ ap variables c.self.view_is in
    let is = c.number-variable.ensures in
    let past = c.if-prove.true in
    omega (arith, below, end, is, past)

pub returns-clause-below : goal.returns-clause-below
returns-clause-below c =
    let z = sizes_with c.self.inside.extent c.self.inside.classes.items c.self.inside.ranks.items in
    let below : variable_of c.args.self.now c.args.fact < variables c.args.self.now = fact_below z c.self.inside.starts c.self.invariant c.args.self.now c.self.view_is c.args.fact c.requires in
    let is = c.number-variable.ensures in
    omega (arith, below, is)
