-- What choosers remember.
use Rattle.bt_choosers.specs.Activities.{Activity}
use Rattle.bt_choosers.specs.Tallies.{activity_in}
use Rattle.bt_choosers.specs.declared.active.Active.{Active}

-- the scores and phases of all variables, and the bump
abbrev pub remembered : Active → Activity
remembered a = activity_in a.tallies.items a.bump
