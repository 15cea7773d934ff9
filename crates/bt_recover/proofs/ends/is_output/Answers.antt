use Rattle.std.proofs.Common.{inl, inr}
use Rattle.bt_recover.proofs.EndLemmas.{output_tells}
use Rattle.bt_recover.proofs.ends.is_output.Goals as goal

pub returns-in-Belt : goal.returns-in-Belt
returns-in-Belt c = output_tells c.args.grid.now c.args.i c.part-part.result.now c.front.result c.at.result _ c.part-part.ensures.value (inl c.in-Belt.is) c.front.ensures c.at.ensures.found c.is_none.ensures

pub returns-in-Exit : goal.returns-in-Exit
returns-in-Exit c = output_tells c.args.grid.now c.args.i c.part-part.result.now c.front-in-Exit.result c.at-in-Exit.result _ c.part-part.ensures.value (inr c.in-Exit.is) c.front-in-Exit.ensures c.at-in-Exit.ensures.found c.is_none-in-Exit.ensures
