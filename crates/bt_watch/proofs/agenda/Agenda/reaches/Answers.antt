use Rattle.std.proofs.Common.{◌≤◌, arith}
use Rattle.std.proofs.lemmas.Bool.{false≢true}
use Rattle.std.proofs.lemmas.Bool.Decides.{nat_tests}
use Rattle.bt_watch.proofs.agenda.Agenda.reaches.Goals as goal

pub returns-in-Some : goal.returns-in-Some
returns-in-Some c = (
  (λ is.
      let least : c.args.least ≤ c.in-Some.place = grind (arith, nat_tests) in
      (c.in-Some.place, c.in-Some.ensures.0, least)),
  (λ reaches.
      let below : reaches.0 ≤ c.in-Some.place = c.in-Some.ensures.1 reaches.0 reaches.1 in
      let least : c.args.least ≤ c.in-Some.place = omega (arith, below, reaches.2) in
      grind (arith, nat_tests)),
)

pub returns-in-None : goal.returns-in-None
returns-in-None c = ((λ is. absurd (false≢true is)), (λ reaches. absurd (c.in-None.ensures reaches.0 reaches.1)))
