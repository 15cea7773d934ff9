-- The parts in which the line of a definition is written make up its line.
use Rattle.std.proofs.Common.{◌≡◌, ℕ, ◌+◌, List, [], ◌∷◌, ◌++◌, sym, ◌∙◌, ap, append_assoc}
use Rattle.std.specs.Prelude.{codes}
use Rattle.std.specs.Fmt.{decimal}
use Rattle.bt_frac.specs.Texts.{frac_text}
use Rattle.bt_log.specs.LogText.{words}
use Rattle.bt_extend.specs.Forms.{FormParts}
use Rattle.bt_extend.specs.Texts.{term_text, form_text, named_text, definition_line}
use Rattle.bt_extend.specs.declared.definition.NamedLit.{NamedLit}
use Rattle.bt_extend.specs.declared.definition.Definition.TheVariants.{Comparison, Cases, Disjunction}
use Rattle.bt_extend.specs.inner.Printed.{form_after, forms_after}

-- a head and a form behind it
after_head : (head : List ℕ) (form : FormParts) → form_after head form ≡ head ++ form_text form
after_head head form =
    let number = 32 ∷ frac_text form.constant in
    let terms = words term_text form.terms in
    append_assoc (head ++ number) terms (codes " 0") ∙ append_assoc head number (terms ++ codes " 0")

pub comparison_line : (form : FormParts) → form_after (codes "p") form ++ 10 ∷ [] ≡ definition_line (Comparison form)
comparison_line form = ap (λ t. t ++ 10 ∷ []) (after_head (codes "p") form)

forms_text : (first second : FormParts) → forms_after first second ≡ form_text first ++ form_text second
forms_text first second = ap (λ t. t ++ form_after (codes "") second) (after_head (codes "") first) ∙ ap (λ t. form_text first ++ t) (after_head (codes "") second)

pub cases_line : (var : ℕ) (first second : FormParts) → (codes "c " ++ decimal (var + 1)) ++ forms_after first second ++ 10 ∷ [] ≡ definition_line (Cases var first second)
cases_line var first second =
    ap (λ t. t ++ 10 ∷ []) (ap (λ t. (codes "c " ++ decimal (var + 1)) ++ t) (forms_text first second)
    ∙ append_assoc (codes "c ") (decimal (var + 1)) (form_text first ++ form_text second))

pub disjunction_line : (lits : List NamedLit) → (codes "v" ++ words named_text lits) ++ codes " 0\n" ≡ definition_line (Disjunction lits)
disjunction_line lits =
    append_assoc (codes "v") (words named_text lits) (codes " 0\n")
    ∙ ap (λ t. codes "v" ++ t) (sym (append_assoc (words named_text lits) (codes " 0") (10 ∷ [])))
    ∙ sym (append_assoc (codes "v") (words named_text lits ++ codes " 0") (10 ∷ []))
