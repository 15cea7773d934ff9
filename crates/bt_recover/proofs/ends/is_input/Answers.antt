use Rattle.std.proofs.Common.{inl, inr}
use Rattle.bt_recover.proofs.EndLemmas.{input_tells}
use Rattle.bt_recover.proofs.ends.is_input.Goals as goal

pub returns-in-Belt : goal.returns-in-Belt
returns-in-Belt c = input_tells c.args.grid.now c.args.i c.part-part.result.now c.giver.result _ c.part-part.ensures.value (inl c.in-Belt.is) c.giver.ensures.gives c.is_none.ensures

pub returns-in-Entrance : goal.returns-in-Entrance
returns-in-Entrance c = input_tells c.args.grid.now c.args.i c.part-part.result.now c.giver-in-Entrance.result _ c.part-part.ensures.value (inr c.in-Entrance.is) c.giver-in-Entrance.ensures.gives c.is_none-in-Entrance.ensures
