use Rattle.std.proofs.Common.{refl, inr}
use Rattle.std.proofs.lemmas.Bool.{iff_false}
use Rattle.bt_recover.proofs.RefusalLemmas.{blocked_two, blocked_one}
use Rattle.bt_recover.proofs.refusals.is_blocked.Goals as goal

pub returns-then-is_half_blocked : goal.returns-then-is_half_blocked
returns-then-is_half_blocked c = (λ _. (c.cells_of-second.result.0, c.is_half_blocked.ensures.0 c.if-is_half_blocked.true), λ _. refl)

pub is_half_blocked-requires-in-Some-clause-half : goal.is_half_blocked-requires-in-Some-clause-half
is_half_blocked-requires-in-Some-clause-half c = record {
  part = c.part.result.now;
  is_i = c.part.ensures.value;
  covers = inr ((c.cells_of-second.ensures.second c.in-Some.half).0 c.in-Some.is);
}

pub returns-in-Some : goal.returns-in-Some
returns-in-Some c =
    blocked_two c.args.grid.now c.args.i c.part.result.now c.cells_of-second.result.0 c.cells_of-second.result.1 c.in-Some.half _
    c.part.ensures.value c.cells_of-second.ensures.first c.cells_of-second.ensures.second c.in-Some.is
    (iff_false c.is_half_blocked.ensures c.if-is_half_blocked.false) c.is_half_blocked-in-Some.ensures

pub returns-in-None : goal.returns-in-None
returns-in-None c =
    blocked_one c.args.grid.now c.args.i c.part.result.now c.cells_of-second.result.0 c.cells_of-second.result.1
    c.part.ensures.value c.cells_of-second.ensures.first c.cells_of-second.ensures.second c.in-None.is
    (iff_false c.is_half_blocked.ensures c.if-is_half_blocked.false)
