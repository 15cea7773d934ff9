use Rattle.std.proofs.Common.{◌<◌, length, subst, sym}
use Rattle.std.specs.Prelude.{All}
use Rattle.bt_recover.specs.Recovered.{network_and_naming}
use Rattle.bt_recover.proofs.SideLemmas.{few_inputs, few_outputs}
use Rattle.bt_recover.proofs.sides.stays_of.Goals as goal

pub push_stays-requires-clause-within : goal.push_stays-requires-clause-within
push_stays-requires-clause-within c =
    subst (λ is. All (λ i. i < length c.args.grid.now) is) (sym c.deref.ensures.value) (few_inputs c.args.grid.now (network_and_naming c.args.traced.now) c.requires).within

pub push_stays-requires-2-clause-within : goal.push_stays-requires-2-clause-within
push_stays-requires-2-clause-within c =
    subst (λ is. All (λ i. i < length c.args.grid.now) is) (sym c.deref-2.ensures.value) (few_outputs c.args.grid.now (network_and_naming c.args.traced.now) c.requires).within
