-- The two literals that a clause watches.
use Rattle.std.specs.Prelude.{true, List, slice_index_or}
use Rattle.bt_cnf.specs.declared.literal.Lit.{Lit}

-- stands where a list has no literal
abbrev pub no_lit : Lit
no_lit = record { var = 0; positive = true }

-- the two literals that a clause watches
abbrev pub first : List Lit → Lit
first clause = slice_index_or clause 0 no_lit

abbrev pub second : List Lit → Lit
second clause = slice_index_or clause 1 no_lit
