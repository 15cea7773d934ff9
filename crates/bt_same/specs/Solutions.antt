-- Pairs of states whose marks and values are those of an assignment.
use Rattle.std.specs.Prelude.{ℕ, Bool}
use Rattle.bt_frac.specs.Ratio.{Ratio}
use Rattle.bt_net.specs.Network.{Network}
use Rattle.bt_flow.specs.States.{Fractions}
use Rattle.bt_cnf.specs.Meeting.{Meets}
use Rattle.bt_same.specs.Sameness.{ShowsDifference}
use Rattle.bt_same.specs.SameFormula.{same_formula}
use Rattle.bt_same.specs.Pairs.{IsTrueOfBoth}

-- the pair shows a difference where the assignment with values meets the formula of the two networks
abbrev pub ShowsWhereMet : Network → Network → (ℕ → Bool) → (ℕ → Ratio) → Fractions → Fractions → Type 0
ShowsWhereMet a b assignment values x y = Meets (same_formula a b) assignment values → IsTrueOfBoth a b x y (ShowsDifference a b)
