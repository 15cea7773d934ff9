-- The words of numbers and of literals in the lines of a certificate.
use Rattle.std.specs.Prelude.{ℕ, ◌<◌, ◌^◌, List, ◌∷◌, cond}
use Rattle.std.specs.Fmt.{decimal}
use Rattle.bt_extend.specs.declared.written.WrittenLit.{WrittenLit}

-- the number of a variable or of a clause: it isn't 0, and has at most 18 digits
pub record IsNumber (n : ℕ) : Type 0 where
  pub positive : 0 < n
  pub short : n < 10 ^ 18

-- the literal may be written
abbrev pub IsWrittenLit : WrittenLit → Type 0
IsWrittenLit l = IsNumber l.number

-- a written literal: the number of its variable, with a minus where it is negative
abbrev pub written_lit_text : WrittenLit → List ℕ
written_lit_text l = cond l.positive (decimal l.number) (45 ∷ decimal l.number)
