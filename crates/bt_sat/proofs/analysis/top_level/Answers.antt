use Rattle.std.proofs.Common.{◌<◌, arith, subst}
use Rattle.bt_watch.specs.Levels.{IsLevelOf}
use Rattle.bt_sat.proofs.ConflictLevels
use Rattle.bt_sat.proofs.analysis.top_level.Goals as goal

pub returns-in-Some : goal.returns-in-Some
returns-in-Some c =
    ConflictLevels.top_level c.args.search.now c.args.agenda.now c.in-Some.place c.level_of.result c.requires.inside c.in-Some.ensures
    (subst (λ ns. IsLevelOf ns c.in-Some.place c.level_of.result) c.deref.ensures.value c.level_of.ensures)

pub returns-in-None : goal.returns-in-None
returns-in-None c = record {
  within = omega arith;
  under = λ k among. absurd (c.in-None.ensures k among);
  reached = λ (some : 0 < 0). absurd (omega (arith, some));
}
