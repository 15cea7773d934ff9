-- The parts in which the line of a definition is written.
use Rattle.std.specs.Prelude.{ℕ, List, ◌∷◌, ◌++◌, codes}
use Rattle.bt_frac.specs.Texts.{frac_text}
use Rattle.bt_log.specs.LogText.{words}
use Rattle.bt_extend.specs.Forms.{FormParts}
use Rattle.bt_extend.specs.Texts.{term_text}

-- a head, and a form behind it: its number, its terms, and 0
abbrev pub form_after : List ℕ → FormParts → List ℕ
form_after head form = (head ++ 32 ∷ frac_text form.constant) ++ words term_text form.terms ++ codes " 0"

-- two forms, one behind the other
abbrev pub forms_after : FormParts → FormParts → List ℕ
forms_after first second = form_after (codes "") first ++ form_after (codes "") second
