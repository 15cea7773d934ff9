-- No line feed stands in the line of a definition.
use Rattle.std.proofs.Common.{◌≢◌, ℕ, ◌+◌, ◌<◌, List, [], ◌∷◌, ◌++◌, sym, ◌∙◌, subst, arith, append-nil}
use Rattle.std.specs.Fmt.{decimal}
use Rattle.std.proofs.lemmas.List.Elements.{All-nil, All-cons, All-append}
use Rattle.bt_text.specs.Lines.{Lacks}
use Rattle.bt_frac.specs.Texts.{frac_text}
use Rattle.bt_frac.proofs.FracTexts.{frac_text_lacks}
use Rattle.bt_log.specs.LogText.{words}
use Rattle.bt_extend.specs.Forms.{FormParts, IsForm}
use Rattle.bt_extend.specs.Texts.{form_text, named_text, definition_text, MayBeWritten}
use Rattle.bt_extend.specs.declared.definition.Definition.{Definition}
use Rattle.bt_extend.specs.declared.definition.Definition.TheVariants.{Comparison, Cases, Disjunction}
use Rattle.bt_extend.specs.inner.Told.{IsNonzero, nonzero_text, words_of}
use Rattle.bt_extend.proofs.DefinitionTexts.{CanStand, numbered}
use Rattle.bt_extend.proofs.FormTexts.{form_words, form_stands}
use Rattle.bt_extend.proofs.ItemLists.{words_lack}
use Rattle.bt_extend.proofs.Numbers.{number_lacks, lit_lacks}

feed_apart : (byte : ℕ) → 10 < byte → byte ≢ 10
feed_apart byte h e = omega arith

behind : (byte : ℕ) (rest : List ℕ) → 10 < byte → Lacks 10 rest → Lacks 10 (byte ∷ rest)
behind byte rest h lacks = All-cons (λ b. b ≢ 10) byte rest (feed_apart byte h) lacks

joined : (xs ys : List ℕ) → Lacks 10 xs → Lacks 10 ys → Lacks 10 (xs ++ ys)
joined xs ys p q = All-append (λ b. b ≢ 10) xs ys p q

zero_lacks : Lacks 10 (32 ∷ 48 ∷ [])
zero_lacks = behind 32 (48 ∷ []) (omega arith) (behind 48 [] (omega arith) (All-nil (λ b. b ≢ 10)))

form_lacks : (form : FormParts) → IsForm form → Lacks 10 (form_text form)
form_lacks form is =
    let number = frac_text form.constant in
    let terms = words nonzero_text (words_of form.terms) in
    subst (Lacks 10) (sym (form_words form []) ∙ append-nil (form_text form))
    (behind 32 (number ++ (terms ++ 32 ∷ 48 ∷ [])) (omega arith)
    (joined number (terms ++ 32 ∷ 48 ∷ []) (frac_text_lacks form.constant 10 is.constant (omega arith) (omega arith) (omega arith))
    (joined terms (32 ∷ 48 ∷ [])
    (words_lack IsNonzero nonzero_text 10 (λ e. omega arith) (λ n h. frac_text_lacks n.fraction 10 h.0 (omega arith) (omega arith) (omega arith)) (words_of form.terms) (form_stands form is))
    zero_lacks)))

-- no line feed stands in the line of a definition
pub definition_in_line : (d : Definition) → MayBeWritten d → Lacks 10 (definition_text d)
definition_in_line (Comparison form) h = behind 112 (form_text form) (omega arith) (form_lacks form h)
definition_in_line (Cases var first second) h =
    let number = decimal (var + 1) in
    let forms = form_text first ++ form_text second in
    behind 99 (32 ∷ (number ++ forms)) (omega arith)
    (behind 32 (number ++ forms) (omega arith)
    (joined number forms (number_lacks (var + 1) 10 (numbered var h.0) (omega arith)) (joined (form_text first) (form_text second) (form_lacks first h.1) (form_lacks second h.2))))
definition_in_line (Disjunction lits) h =
    behind 118 (words named_text lits ++ 32 ∷ 48 ∷ []) (omega arith)
    (joined (words named_text lits) (32 ∷ 48 ∷ [])
    (words_lack CanStand named_text 10 (λ e. omega arith)
    (λ l k. lit_lacks (record { number = l.var + 1; positive = l.positive }) 10 (numbered l.var k) (omega arith) (omega arith)) lits h)
    zero_lacks)
