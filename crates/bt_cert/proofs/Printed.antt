-- The text of a log is read as the same steps, and is that of one log.
use Rattle.std.proofs.Common.{◌≡◌, ℕ, ◌+◌, ◌-◌, List, [], ◌∷◌, ◌++◌, map, codes, refl, sym, ◌∙◌, ap, subst, inl, inr, arith, append-nil}
use Rattle.std.specs.List.{All, flat_map}
use Rattle.std.proofs.lemmas.Grind.{flat_map-append}
use Rattle.std.proofs.lemmas.List.Elements.{All-head, All-tail, All-nil, All-map, All-push}
use Rattle.bt_text.specs.Blanks.{IsBlank}
use Rattle.bt_text.specs.Lines.{Lacks, line}
use Rattle.bt_text.proofs.FirstLines.{fork}
use Rattle.bt_frac.specs.Texts.{frac_text}
use Rattle.bt_cnf.specs.Formulas.{FormulaParts}
use Rattle.bt_cnf.specs.declared.literal.Lit.{Lit}
use Rattle.bt_log.specs.Logs as log
use Rattle.bt_log.specs.Logs.{Step}
use Rattle.bt_log.specs.LogText.{words, hint_text, step_text, step_line, log_text}
use Rattle.bt_log.specs.Refuting.{Refutes}
use Rattle.std.specs.Fmt.{decimal}
use Rattle.bt_extend.specs.Words.{written_lit_text}
use Rattle.bt_cert.specs.StepLines.{WrittenStep, IsWritten, written_text, lit_of, step_of}
use Rattle.bt_cert.specs.Judging.{IsWideNowhere}
use Rattle.bt_cert.specs.Certificates.{SpellsLog, SpellsRefutation, log_of, end_line}
use Rattle.bt_cert.specs.Laws.{PrintedIsRead, PrintedIsCertificate, TextTellsLog, MayBeWritten, written_lit, written_step}
use Rattle.bt_cert.proofs.CertificateLines.{end_lacks}
use Rattle.bt_cert.proofs.Earlier.{log_is_certificate}
use Rattle.bt_cert.proofs.Stops.{lines_lack}
use Rattle.bt_cert.proofs.WrittenLines.{written_text_same, end_is_no_step}

-- the words of items that are seen otherwise
words_map : {A B : Type 0} (word : B → List ℕ) (g : A → B) (xs : List A) → words word (map g xs) ≡ words (λ x. word (g x)) xs
words_map word g [] = refl
words_map word g (x ∷ xs) = ap (λ t. (32 ∷ word (g x)) ++ t) (words_map word g xs)

-- what is printed of a step is its line
printed_step : (step : Step) → step_text step ≡ written_text (written_step step)
printed_step (log.Lemma lits weights) = ap (λ t. codes "f" ++ t ++ codes " 0" ++ words frac_text weights) (sym (words_map written_lit_text written_lit lits))
printed_step (log.Learnt lits hints) =
    ap (λ t. codes "r" ++ t ++ codes " 0" ++ words hint_text hints ++ codes " 0") (sym (words_map written_lit_text written_lit lits))
    ∙ ap (λ t. codes "r" ++ words written_lit_text (map written_lit lits) ++ codes " 0" ++ t ++ codes " 0") (sym (words_map decimal (λ hint. hint + 1) hints))

printed_lines : (steps : List Step) → flat_map step_line steps ≡ flat_map line (map written_text (map written_step steps))
printed_lines [] = refl
printed_lines (s ∷ steps) =
    ap (λ t. (t ++ 10 ∷ []) ++ flat_map step_line steps) (printed_step s) ∙ ap (λ t. line (written_text (written_step s)) ++ t) (printed_lines steps)

pub lits_back : (lits : List Lit) → map lit_of (map written_lit lits) ≡ lits
lits_back [] = refl
lits_back (l ∷ lits) =
    let same : l.var + 1 - 1 ≡ l.var = omega arith in
    let mk : ℕ → Lit = λ var. record { var = var; positive = l.positive } in
    ap (λ var. mk var ∷ map lit_of (map written_lit lits)) same ∙ ap (λ ls. l ∷ ls) (lits_back lits)

hints_back : (hints : List ℕ) → map (λ hint. hint - 1) (map (λ hint. hint + 1) hints) ≡ hints
hints_back [] = refl
hints_back (h ∷ hints) =
    let same : h + 1 - 1 ≡ h = omega arith in
    ap (λ n. n ∷ map (λ hint. hint - 1) (map (λ hint. hint + 1) hints)) same ∙ ap (λ hs. h ∷ hs) (hints_back hints)

step_back : (step : Step) → step_of (written_step step) ≡ step
step_back (log.Lemma lits weights) = ap (λ ls. log.Lemma ls weights) (lits_back lits)
step_back (log.Learnt lits hints) =
    ap (λ ls. log.Learnt ls (map (λ hint. hint - 1) (map (λ hint. hint + 1) hints))) (lits_back lits) ∙ ap (λ hs. log.Learnt lits hs) (hints_back hints)

log_back : (steps : List Step) → log_of (map written_step steps) ≡ steps
log_back [] = refl
log_back (s ∷ steps) = ap (λ t. t ∷ log_of (map written_step steps)) (step_back s) ∙ ap (λ ss. s ∷ ss) (log_back steps)

spelled : (steps : List Step) → All MayBeWritten steps → SpellsLog (log_text steps) (map written_step steps)
spelled steps all = record {
  written = All-map IsWritten written_step steps all;
  blanks = [];
  are_blanks = All-nil IsBlank;
  begins = inl (ap (λ t. t ++ codes "end\n") (printed_lines steps)
      ∙ sym (flat_map-append line (map written_text (map written_step steps)) (end_line ∷ [])) ∙ sym (append-nil (flat_map line (map written_text (map written_step steps) ++ end_line ∷ []))));
}

pub printed_is_read : PrintedIsRead
printed_is_read steps all = (spelled steps all, log_back steps)

module _ (f : FormulaParts) (steps : List Step) (refutes : Refutes f steps) (all : All MayBeWritten steps) (fits : All (λ step. IsWideNowhere f (written_step step)) steps) where
  -- what is printed of a log that refutes a formula spells that
  pub printed_refutation : SpellsRefutation f (log_text steps)
  printed_refutation = record {
    steps = map written_step steps;
    spells = spelled steps all;
    refutes = subst (Refutes f) (sym (log_back steps)) refutes;
    fits = All-map (IsWideNowhere f) written_step steps fits;
  }

pub printed_is_certificate : PrintedIsCertificate
printed_is_certificate f steps refutes all fits = log_is_certificate f (log_text steps) (printed_refutation f steps refutes all fits)

-- steps before `end` are one list
same_to_end : (steps others : List WrittenStep) (more : List (List ℕ)) → All IsWritten steps → All IsWritten others
    → map written_text others ++ end_line ∷ [] ≡ (map written_text steps ++ end_line ∷ []) ++ more → steps ≡ others
same_to_end [] [] more p q e = refl
same_to_end [] (y ∷ others) more p q e = let heads : written_text y ≡ end_line = cc in absurd (end_is_no_step y (sym heads))
same_to_end (x ∷ steps) [] more p q e = let heads : end_line ≡ written_text x = cc in absurd (end_is_no_step x heads)
same_to_end (x ∷ steps) (y ∷ others) more p q e =
    let heads : written_text y ≡ written_text x = cc in
    let tails : map written_text others ++ end_line ∷ [] ≡ (map written_text steps ++ end_line ∷ []) ++ more = cc in
    let first : x ≡ y = written_text_same x y (All-head IsWritten x steps p) (All-head IsWritten y others q) (sym heads) in
    let rest : steps ≡ others = same_to_end steps others more (All-tail IsWritten x steps p) (All-tail IsWritten y others q) tails in
    cc

all_lack : (steps : List WrittenStep) → All IsWritten steps → All (Lacks 10) (map written_text steps ++ end_line ∷ [])
all_lack steps all = All-push (Lacks 10) (map written_text steps) end_line (lines_lack steps all) end_lacks

pub text_tells_log : TextTellsLog
text_tells_log text steps others p q =
    elim (fork (map written_text steps ++ end_line ∷ []) (map written_text others ++ end_line ∷ []) text p.blanks q.blanks (all_lack steps p.written) (all_lack others q.written) p.begins q.begins) [
      | inl h ↦ same_to_end steps others h.0 p.written q.written h.1
      | inr h ↦ sym (same_to_end others steps h.0 q.written p.written h.1)
    ]
