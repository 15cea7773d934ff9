-- What meets the formula of two networks shows a difference.
use Rattle.std.proofs.Common.{◌≡◌, List, Bool, sym, subst}
use Rattle.bt_frac.specs.Ratio.{Ratio}
use Rattle.bt_frac.specs.Values.{value_in}
use Rattle.bt_net.specs.Network.{Network}
use Rattle.bt_flow.specs.States.{Fractions}
use Rattle.bt_cnf.specs.Assignments.{truth_in}
use Rattle.bt_cnf.specs.Meeting.{Meets}
use Rattle.bt_same.specs.Sameness.{ShowsDifference}
use Rattle.bt_same.specs.Pairs.{IsTrueOfBoth}
use Rattle.bt_same.specs.SameFormula.{same_formula}
use Rattle.bt_same.specs.Solutions.{ShowsWhereMet}

-- the values that meet the formula are those that were lent to form the pair
pub shows_met : (a b : Network) (x y : Fractions) (values lent_values : List Ratio) (truths lent_truths : List Bool) → lent_values ≡ values → lent_truths ≡ truths
    → Meets (same_formula a b) (truth_in truths) (value_in values) → ShowsWhereMet a b (truth_in lent_truths) (value_in lent_values) x y → IsTrueOfBoth a b x y (ShowsDifference a b)
shows_met a b x y values lent_values truths lent_truths e f met shows =
    shows (subst (λ vs. Meets (same_formula a b) (truth_in lent_truths) (value_in vs)) (sym e) (subst (λ ts. Meets (same_formula a b) (truth_in ts) (value_in values)) (sym f) met))
