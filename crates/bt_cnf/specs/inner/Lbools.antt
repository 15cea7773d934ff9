-- The value of a variable.
use Rattle.std.specs.Prelude.{◌≡◌, true, false, Bool, Option, Some, None}
use Rattle.std.proofs.Common.{refl}
use Rattle.bt_cnf.specs.declared.truth.Lbool.{Lbool}
use Rattle.bt_cnf.specs.declared.truth.Lbool.TheVariants.{Unset, False, True}

-- whether a variable is set, and to what
abbrev pub value_in : Lbool → Option Bool
value_in Unset = None
value_in False = Some false
value_in True = Some true

-- how that is kept
abbrev pub lbool_of : Option Bool → Lbool
lbool_of None = Unset
lbool_of (Some false) = False
lbool_of (Some true) = True

-- what is kept is how its value is kept
pub lbool_back : (s : Lbool) → lbool_of (value_in s) ≡ s
lbool_back Unset = refl
lbool_back False = refl
lbool_back True = refl
