-- A text has one right answer.
use Rattle.std.proofs.Common.{◌≡◌, ◌≢◌, ℕ, ◌+◌, List, [], ◌∷◌, ◌++◌, All, length, Result, Ok, Err, refl, sym, ◌∙◌, ap, subst, inl, inr}
use Rattle.std.proofs.lemmas.List.Elements.{All-head, All-tail}
use Rattle.bt_text.specs.Answers.{HasOneAnswer}
use Rattle.bt_text.specs.Blanks.{IsBlank}
use Rattle.bt_text.specs.Lines.{line_feeds}
use Rattle.bt_cnf.specs.Formulas.{FormulaParts, IsFormula}
use Rattle.bt_cnf.specs.declared.literal.Lit.{Lit}
use Rattle.bt_farkas.specs.declared.wide.WideAt.{WideAt}
use Rattle.bt_log.specs.Refuting.{EndsEmpty}
use Rattle.bt_cert.specs.StepLines.{WrittenStep, IsWritten, written_text}
use Rattle.bt_cert.specs.inner.Judgements.{Judgement, Valid, Fails, IsWideAt, IsJudged}
use Rattle.bt_cert.specs.Judging.{IsAccepted, FailsFor, IsWideStep}
use Rattle.bt_cert.specs.Certificates.{AreStepsRead, IsCertRead, ComesTo, SpellsNoStep, HasByteAfter, MeetsStep, clauses_after, line_after, log_of, end_line}
use Rattle.bt_cert.specs.declared.fault.CertFault.{CertFault}
use Rattle.bt_cert.specs.declared.reading.TheConstants.{FIRST_LINE}
use Rattle.bt_cert.specs.declared.fault.CertFault.TheVariants.{CertLine, BadStep, NoVerdict, CertWide, ReadFault, TooLong, Memory}
use Rattle.bt_cert.specs.declared.defining.TheConstants.{MOST_DEFINITIONS}
use Rattle.bt_cert.specs.Laws.{CertificateShowsUnmet}
use Rattle.bt_extend.specs.Extending.{extended}
use Rattle.bt_extend.proofs.Conservative.{refuted_extension_is_unmet}
use Rattle.bt_extend.proofs.Formed.{extended_is_formula}
use Rattle.bt_cert.proofs.Defined.{are_definitions, one_defined}
use Rattle.bt_cert.proofs.WrittenLines.{written_text_same, end_is_no_step}
use Rattle.bt_cert.proofs.CertificateLines.{comes_to_end}
use Rattle.bt_cert.proofs.OneJudgement.{one_judgement}
use Rattle.bt_cert.proofs.Stops.{Halts, stops_same}

-- what the answer is where a step comes that isn't valid
abbrev fault_of : ℕ → Judgement → Result (Unit {0}) CertFault
fault_of line Valid = Ok tt
fault_of line (Fails cause) = Err (BadStep line cause)
fault_of line (IsWideAt at) = Err (CertWide line at.row at.column)

-- a step comes that isn't valid
record AtStep (start : ℕ) (f : FormulaParts) (steps : List WrittenStep) (next : List ℕ) (answer : Result (Unit {0}) CertFault) : Type 0 where
  step : WrittenStep
  written : IsWritten step
  next_is : next ≡ written_text step
  judgement : Judgement
  judged : IsJudged f (clauses_after f steps) step judgement
  not_valid : judgement ≡ Valid → ⊥
  answer_is : answer ≡ fault_of (line_after start steps) judgement

-- a byte that isn't blank comes after `end`
record ByteAfterEnd (start : ℕ) (steps : List WrittenStep) (after : List ℕ) (answer : Result (Unit {0}) CertFault) : Type 0 where
  ends : EndsEmpty (log_of steps)
  blanks : List ℕ
  byte : HasByteAfter after blanks
  answer_is : answer ≡ Err (CertLine (line_after start steps + 1 + line_feeds blanks))

-- the answer at `end`
data AfterEnd (start : ℕ) (steps : List WrittenStep) (after : List ℕ) (answer : Result (Unit {0}) CertFault) : Type 0 where
  Whole : EndsEmpty (log_of steps) → All IsBlank after → answer ≡ Ok tt → AfterEnd start steps after answer
  Byte : ByteAfterEnd start steps after answer → AfterEnd start steps after answer
  Open : (EndsEmpty (log_of steps) → ⊥) → answer ≡ Err NoVerdict → AfterEnd start steps after answer

-- the answer at the line that comes after valid steps
data Kind (start : ℕ) (f : FormulaParts) (steps : List WrittenStep) (next after : List ℕ) (answer : Result (Unit {0}) CertFault) : Type 0 where
  Step : AtStep start f steps next answer → Kind start f steps next after answer
  End : next ≡ end_line → AfterEnd start steps after answer → Kind start f steps next after answer
  Other : SpellsNoStep next → next ≢ end_line → answer ≡ Err (CertLine (line_after start steps)) → Kind start f steps next after answer

record Stop (start : ℕ) (f : FormulaParts) (text : List ℕ) (answer : Result (Unit {0}) CertFault) : Type 0 where
  steps : List WrittenStep
  next : List ℕ
  after : List ℕ
  comes : ComesTo f text steps next after
  kind : Kind start f steps next after answer

step_stop : (start : ℕ) (f : FormulaParts) (text : List ℕ) (line : ℕ) (P : List (List Lit) → WrittenStep → Type 0) (j : Judgement) → (j ≡ Valid → ⊥)
    → ((clauses : List (List Lit)) (step : WrittenStep) → P clauses step → IsJudged f clauses step j) → MeetsStep start f text line P → Stop start f text (fault_of line j)
step_stop start f text line P j other judged m = record {
  steps = m.steps;
  next = written_text m.step;
  after = m.after;
  comes = m.comes;
  kind = Step (record {
    step = m.step;
    written = m.is_written;
    next_is = refl;
    judgement = j;
    judged = judged (clauses_after f m.steps) m.step m.holds;
    not_valid = other;
    answer_is = ap (λ l. fault_of l j) m.number;
  });
}

stop_of : (start : ℕ) (f : FormulaParts) (text : List ℕ) (answer : Result (Unit {0}) CertFault) → AreStepsRead start f text answer → Stop start f text answer
stop_of start f text (Ok tt) c = let comes = comes_to_end f text c in record {
  steps = c.steps;
  next = end_line;
  after = c.spells.blanks;
  comes = comes;
  kind = End refl (Whole c.refutes.ends c.spells.are_blanks refl);
}
stop_of start f text (Err (CertLine line)) (inl s) = record {
  steps = s.steps;
  next = s.next;
  after = s.after;
  comes = s.comes;
  kind = Other s.no_step s.no_end (ap (λ l. Err (CertLine l)) s.number);
}
stop_of start f text (Err (CertLine line)) (inr s) = record {
  steps = s.steps;
  next = end_line;
  after = s.after;
  comes = s.comes;
  kind = End refl (Byte (record { ends = s.ends; blanks = s.blanks; byte = s.byte; answer_is = ap (λ l. Err (CertLine l)) s.number }));
}
stop_of start f text (Err (BadStep line cause)) m =
    step_stop start f text line (λ clauses step. FailsFor f clauses step cause) (Fails cause) (λ e. cc) (λ clauses step h. h) m
stop_of start f text (Err NoVerdict) s = record {
  steps = s.steps;
  next = end_line;
  after = s.after;
  comes = s.comes;
  kind = End refl (Open s.open_end refl);
}
stop_of start f text (Err (CertWide line row column)) m =
    let at : WideAt = record { row = row; column = column } in
    step_stop start f text line (λ clauses step. IsWideStep f step at) (IsWideAt at) (λ e. cc) (λ clauses step h. h) m
stop_of start f text (Err ReadFault) h = absurd h
stop_of start f text (Err TooLong) h = absurd h
stop_of start f text (Err Memory) h = absurd h

-- at such a line no valid step comes
halts_of : (start : ℕ) (f : FormulaParts) → IsFormula f → (steps : List WrittenStep) (next after : List ℕ) (answer : Result (Unit {0}) CertFault) → Kind start f steps next after answer
    → Halts f steps next
halts_of start f formula steps next after answer (Step s) step written is accepted =
    let same : step ≡ s.step = written_text_same step s.step written s.written (sym is ∙ s.next_is) in
    let here : IsJudged f (clauses_after f steps) s.step Valid = subst (IsAccepted f (clauses_after f steps)) same accepted in
    s.not_valid (one_judgement f formula (clauses_after f steps) s.step s.judgement Valid s.judged here)
halts_of start f formula steps next after answer (End e a) step written is accepted = end_is_no_step step (sym e ∙ is)
halts_of start f formula steps next after answer (Other none other e) step written is accepted = none step written is

one_byte : (front back : List ℕ) (b c : ℕ) (rest more : List ℕ) → All IsBlank front → All IsBlank back → ¬ IsBlank b → ¬ IsBlank c
    → front ++ b ∷ rest ≡ back ++ c ∷ more → front ≡ back
one_byte [] [] b c rest more p q isnt isnt' e = refl
one_byte [] (y ∷ back) b c rest more p q isnt isnt' e = absurd (isnt (let heads : b ≡ y = cc in subst IsBlank (sym heads) (All-head IsBlank y back q)))
one_byte (x ∷ front) [] b c rest more p q isnt isnt' e = absurd (isnt' (let heads : x ≡ c = cc in subst IsBlank heads (All-head IsBlank x front p)))
one_byte (x ∷ front) (y ∷ back) b c rest more p q isnt isnt' e =
    let heads : x ≡ y = cc in
    let tails : front ++ b ∷ rest ≡ back ++ c ∷ more = cc in
    let more' : front ≡ back = one_byte front back b c rest more (All-tail IsBlank x front p) (All-tail IsBlank y back q) isnt isnt' tails in
    cc

no_byte : (after blanks : List ℕ) (byte : ℕ) (rest : List ℕ) → All IsBlank after → after ≡ blanks ++ byte ∷ rest → ¬ IsBlank byte → ⊥
no_byte [] [] byte rest p e isnt = absurd cc
no_byte [] (x ∷ blanks) byte rest p e isnt = absurd cc
no_byte (y ∷ after) [] byte rest p e isnt = isnt (let heads : y ≡ byte = cc in subst IsBlank heads (All-head IsBlank y after p))
no_byte (y ∷ after) (x ∷ blanks) byte rest p e isnt =
    let tails : after ≡ blanks ++ byte ∷ rest = cc in no_byte after blanks byte rest (All-tail IsBlank y after p) tails isnt

one_end : (start : ℕ) (steps : List WrittenStep) (after : List ℕ) (a b : Result (Unit {0}) CertFault) → AfterEnd start steps after a → AfterEnd start steps after b → a ≡ b
one_end start steps after a b (Whole h k e) (Whole h' k' e') = e ∙ sym e'
one_end start steps after a b (Whole h k e) (Byte x) = absurd (no_byte after x.blanks x.byte.byte x.byte.rest k x.byte.text_is x.byte.other)
one_end start steps after a b (Whole h k e) (Open h' e') = absurd (h' h)
one_end start steps after a b (Byte x) (Whole h k e) = absurd (no_byte after x.blanks x.byte.byte x.byte.rest k x.byte.text_is x.byte.other)
one_end start steps after a b (Byte x) (Byte y) =
    let same = one_byte x.blanks y.blanks x.byte.byte y.byte.byte x.byte.rest y.byte.rest x.byte.are_blanks y.byte.are_blanks x.byte.other y.byte.other
    (sym x.byte.text_is ∙ y.byte.text_is) in
    x.answer_is ∙ ap (λ blanks. Err (CertLine (line_after start steps + 1 + line_feeds blanks))) same ∙ sym y.answer_is
one_end start steps after a b (Byte x) (Open h e) = absurd (h x.ends)
one_end start steps after a b (Open h e) (Whole h' k' e') = absurd (h h')
one_end start steps after a b (Open h e) (Byte x) = absurd (h x.ends)
one_end start steps after a b (Open h e) (Open h' e') = e ∙ sym e'

one_kind : (start : ℕ) (f : FormulaParts) → IsFormula f → (steps : List WrittenStep) (next after : List ℕ) (a b : Result (Unit {0}) CertFault)
    → Kind start f steps next after a → Kind start f steps next after b → a ≡ b
one_kind start f formula steps next after a b (Step s) (Step t) =
    let same : s.step ≡ t.step = written_text_same s.step t.step s.written t.written (sym s.next_is ∙ t.next_is) in
    let judged = subst (λ step. IsJudged f (clauses_after f steps) step s.judgement) same s.judged in
    s.answer_is ∙ ap (fault_of (line_after start steps)) (one_judgement f formula (clauses_after f steps) t.step s.judgement t.judgement judged t.judged) ∙ sym t.answer_is
one_kind start f formula steps next after a b (Step s) (End e x) = absurd (end_is_no_step s.step (sym e ∙ s.next_is))
one_kind start f formula steps next after a b (Step s) (Other none other e) = absurd (none s.step s.written s.next_is)
one_kind start f formula steps next after a b (End e x) (Step s) = absurd (end_is_no_step s.step (sym e ∙ s.next_is))
one_kind start f formula steps next after a b (End e x) (End e' y) = one_end start steps after a b x y
one_kind start f formula steps next after a b (End e x) (Other none other e') = absurd (other e)
one_kind start f formula steps next after a b (Other none other e) (Step s) = absurd (none s.step s.written s.next_is)
one_kind start f formula steps next after a b (Other none other e) (End e' x) = absurd (other e')
one_kind start f formula steps next after a b (Other none other e) (Other none' other' e') = e ∙ sym e'

pub one_steps_answer : (start : ℕ) (f : FormulaParts) → IsFormula f → (text : List ℕ) → HasOneAnswer (AreStepsRead start f text)
one_steps_answer start f formula text a b p q =
    let s = stop_of start f text a p in
    let t = stop_of start f text b q in
    let same = stops_same f text s.steps t.steps s.next s.after t.next t.after s.comes (halts_of start f formula s.steps s.next s.after a s.kind) t.comes
    (halts_of start f formula t.steps t.next t.after b t.kind) in
    one_kind start f formula t.steps t.next t.after a b
    (subst (λ steps. Kind start f steps t.next t.after a) same.steps_same (subst (λ next. Kind start f s.steps next t.after a) same.next_same (subst (λ after. Kind start f s.steps s.next after a) same.after_same s.kind)))
    t.kind

-- a text has one right answer
pub one_answer : (f : FormulaParts) → IsFormula f → (text : List ℕ) → HasOneAnswer (IsCertRead f text)
one_answer f formula text a b p q =
    let same = one_defined MOST_DEFINITIONS f text p.definitions q.definitions p.rest q.rest p.defined q.defined in
    let here : AreStepsRead (FIRST_LINE + length q.definitions) (extended f q.definitions) q.rest a =
    subst (λ r. AreStepsRead (FIRST_LINE + length q.definitions) (extended f q.definitions) r a) same.1
    (subst (λ ds. AreStepsRead (FIRST_LINE + length ds) (extended f ds) p.rest a) same.0 p.read) in
    one_steps_answer (FIRST_LINE + length q.definitions) (extended f q.definitions)
    (extended_is_formula f q.definitions formula (are_definitions MOST_DEFINITIONS f text q.definitions q.rest q.defined)) q.rest a b here q.read

-- where a text is a certificate, nothing meets the formula
pub certificate_shows_unmet : CertificateShowsUnmet
certificate_shows_unmet f text formula c =
    refuted_extension_is_unmet f c.definitions (log_of c.read.steps) formula (are_definitions MOST_DEFINITIONS f text c.definitions c.rest c.defined) c.read.refutes
