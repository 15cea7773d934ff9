use Rattle.std.proofs.Common.{inl, inr}
use Rattle.bt_recover.proofs.RefusalLemmas.{belt_loaded, piece_loaded}
use Rattle.bt_recover.proofs.refusals.is_side_loaded.Goals as goal

pub returns-in-Belt : goal.returns-in-Belt
returns-in-Belt c = belt_loaded c.args.grid.now c.requires.well_placed c.args.i c.part-part.result.now _ c.part-part.ensures.value c.in-Belt.is c.is_seen_twice.ensures

pub returns-in-Entrance : goal.returns-in-Entrance
returns-in-Entrance c = piece_loaded c.args.grid.now c.args.i c.part-part.result.now _ c.part-part.ensures.value (inl c.in-Entrance.is) c.is_seen_aside.ensures

pub returns-in-Exit : goal.returns-in-Exit
returns-in-Exit c = piece_loaded c.args.grid.now c.args.i c.part-part.result.now _ c.part-part.ensures.value (inr c.in-Exit.is) c.is_seen_aside-in-Exit.ensures
