use Rattle.std.proofs.Common.{◌-◌, arith, length, refl}
use Rattle.bt_choosers.proofs.Ascending.{up_to}
use Rattle.bt_choosers.proofs.choosers.HighestChooser.pick.Goals as goal

pub returns-clause-picks : goal.returns-clause-picks
returns-clause-picks c =
    let unset = c.args.unset.now in record {
      highest = λ k d below. up_to unset k (length unset - 1) d 0 c.requires.ascending (omega (arith, below)) (omega (arith, below));
      phase = refl;
    }
