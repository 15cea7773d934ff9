-- A literal as one number.
use Rattle.std.specs.Prelude.{◌+◌, ◌*◌, ℕ, cond}
use Rattle.bt_cnf.specs.declared.literal.Lit.{Lit}

-- twice its variable, and one more for the negation
abbrev pub code_of : Lit → ℕ
code_of l = 2 * l.var + cond l.positive 0 1
