-- A log whose steps come first defines nothing.
use Rattle.std.proofs.Common.{◌≡◌, ◌≢◌, ℕ, List, [], ◌∷◌, ◌++◌, map, refl, sym, ◌∙◌, inr, arith}
use Rattle.std.specs.List.{All}
use Rattle.std.proofs.lemmas.List.Elements.{All-head}
use Rattle.bt_text.specs.Lines.{BeginsWithLines}
use Rattle.bt_text.proofs.FirstLines.{BeginsWithLines-tail}
use Rattle.bt_cnf.specs.Formulas.{FormulaParts}
use Rattle.bt_extend.specs.Texts.{definition_text}
use Rattle.bt_extend.specs.declared.definition.Definition.{Definition}
use Rattle.bt_extend.specs.declared.definition.Definition.TheVariants.{Comparison, Cases, Disjunction}
use Rattle.bt_extend.proofs.NoItems.{differ}
use Rattle.bt_cert.specs.StepLines.{WrittenStep, Lemma, Learnt, IsWritten, written_text}
use Rattle.bt_cert.specs.Certificates.{NoneComesFirst, end_line}
use Rattle.bt_cert.specs.Laws.{LogIsCertificate}
use Rattle.bt_cert.proofs.CertificateLines.{end_lacks}
use Rattle.bt_cert.proofs.WrittenLines.{lemma_line, learnt_line, written_in_line}

-- no text that begins with another letter is that of a definition
definition_differs : (d : Definition) (b : ℕ) (rest : List ℕ) → b ≢ 112 → b ≢ 99 → b ≢ 118 → definition_text d ≡ b ∷ rest → ⊥
definition_differs (Comparison form) b rest no_p no_c no_v e = differ b 112 rest _ no_p (sym e)
definition_differs (Cases var first second) b rest no_p no_c no_v e = differ b 99 rest _ no_c (sym e)
definition_differs (Disjunction lits) b rest no_p no_c no_v e = differ b 118 rest _ no_v (sym e)

definition_is_no_step : (d : Definition) (step : WrittenStep) → definition_text d ≡ written_text step → ⊥
definition_is_no_step d (Lemma lits weights) e = definition_differs d 102 _ (λ s. omega arith) (λ s. omega arith) (λ s. omega arith) (e ∙ lemma_line lits weights)
definition_is_no_step d (Learnt lits hints) e = definition_differs d 114 _ (λ s. omega arith) (λ s. omega arith) (λ s. omega arith) (e ∙ learnt_line lits hints)

pub no_definition : (f : FormulaParts) (text : List ℕ) (steps : List WrittenStep) (blanks : List ℕ) → All IsWritten steps
    → BeginsWithLines text (map written_text steps ++ end_line ∷ []) blanks → NoneComesFirst f text
no_definition f text [] blanks written begins d after c =
    definition_differs d 101 _ (λ s. omega arith) (λ s. omega arith) (λ s. omega arith)
    (BeginsWithLines-tail text (definition_text d) after end_line [] blanks c.1 end_lacks begins).0
no_definition f text (step ∷ steps) blanks written begins d after c =
    definition_is_no_step d step
    (BeginsWithLines-tail text (definition_text d) after (written_text step) (map written_text steps ++ end_line ∷ []) blanks c.1
    (written_in_line step (All-head IsWritten step steps written)) begins).0

-- a log that refutes the formula itself is a certificate
pub log_is_certificate : LogIsCertificate
log_is_certificate f text c = record {
  definitions = [];
  rest = text;
  defined = (refl, inr (no_definition f text c.steps c.spells.blanks c.spells.written c.spells.begins));
  read = c;
}
