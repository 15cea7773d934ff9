-- The terms of a line, whichever way it holds them.
use Rattle.bt_linear_forms.specs.Lines.{Terms}
use Rattle.bt_linear_forms.specs.declared.line.Form.{Form}
use Rattle.bt_linear_forms.specs.declared.line.Form.TheVariants.{Whole, Fractions}

-- the terms
abbrev pub form_terms : Form → Terms
form_terms (Whole line) = line
form_terms (Fractions terms) = terms.items
