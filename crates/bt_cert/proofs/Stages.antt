-- How far a certificate was read, one piece after another.
use Rattle.std.proofs.Common.{◌≡◌, ◌≢◌, ℕ, ◌+◌, List, [], ◌∷◌, ◌++◌, map, true, false, Bool, Err, refl, sym, ◌∙◌, ap, subst, inl, inr, arith, append_assoc, append-nil}
use Rattle.std.specs.List.{flat_map}
use Rattle.std.proofs.lemmas.Grind.{flat_map-append}
use Rattle.std.proofs.lemmas.Bool.{false≢true}
use Rattle.std.proofs.lemmas.List.{map_push, length_push}
use Rattle.std.proofs.lemmas.List.Elements.{All-nil, All-append}
use Rattle.bt_text.specs.Answers.{UnlessMemory}
use Rattle.bt_text.specs.Blanks.{IsBlank}
use Rattle.bt_text.specs.Lines.{Lacks, line, IsFirstLine}
use Rattle.bt_cnf.specs.Formulas.{FormulaParts}
use Rattle.bt_cert.specs.StepLines.{WrittenStep, IsWritten, written_text, written_clause}
use Rattle.bt_cert.specs.Judging.{IsAccepted, FailsFor, IsWideStep}
use Rattle.bt_cert.specs.inner.Checking.{Checking, start_of}
use Rattle.bt_cert.specs.Certificates.{AreRight, ComesTo, AreStepsRead, clauses_after, line_after, end_line}
use Rattle.bt_cert.specs.inner.Lines.{IsFound}
use Rattle.bt_cert.specs.inner.Stages.{Progress, StandsAfterSteps, HasFault, IsRefused, IsAtStage, HasRead, ReadsOn, step_lines, fault_on, advanced, stage_after_end}
use Rattle.bt_cert.specs.declared.fault.StepFault.{StepFault}
use Rattle.bt_cert.specs.declared.fault.StepFault.TheVariants as step_fault
use Rattle.bt_cert.specs.declared.fault.CertFault.{CertFault}
use Rattle.bt_cert.specs.declared.fault.CertFault.TheVariants.{CertLine, BadStep, NoVerdict, CertWide, ReadFault, TooLong, Memory}
use Rattle.bt_cert.specs.declared.line.Found.{Found}
use Rattle.bt_cert.specs.declared.line.Found.TheVariants as found
use Rattle.bt_cert.specs.declared.stage.Stage.{Stage}
use Rattle.bt_cert.specs.declared.stage.Stage.TheVariants.{Steps, Blanks, Refused}
use Rattle.bt_cert.proofs.Accepted.{right_push, clauses_push, ends_with, last_is_empty, none_ends}

-- a text with these valid steps, and this line after them
pub comes : (f : FormulaParts) (text : List ℕ) (steps : List WrittenStep) (rest next after : List ℕ) → AreRight f steps → text ≡ step_lines steps ++ rest
    → IsFirstLine rest next after → ComesTo f text steps next after
comes f text steps rest next after right e first = record { right = right; rest = rest; begins = inl e; first = first }

-- a line that has its line feed
with_feed : (text steps part rest more : List ℕ) → text ≡ steps ++ part → (text ++ (rest ++ 10 ∷ [])) ++ more ≡ steps ++ ((part ++ rest) ++ 10 ∷ more)
with_feed text steps part rest more e =
    append_assoc text (rest ++ 10 ∷ []) more ∙ ap (λ t. t ++ ((rest ++ 10 ∷ []) ++ more)) e ∙ simp append_assoc

pub fed_line : (next more : List ℕ) → Lacks 10 next → IsFirstLine (next ++ 10 ∷ more) next more
fed_line next more lacks = inl (record { first = lacks; text_is = refl })

-- a line at the end of the text
pub last_line : (next : List ℕ) → Lacks 10 next → IsFirstLine next next []
last_line next lacks = inr (lacks, refl, refl)

-- what is found of a line where it is refused, and its text in whatever form
pub refusal : (start : ℕ) (f : FormulaParts) (known new : Checking) (text : List ℕ) (steps : List WrittenStep) (next after : List ℕ) (fault : StepFault) → known.formula ≡ f
    → known.clauses ≡ clauses_after f steps → ComesTo f text steps next after → IsFound known next new (found.Refused fault)
    → UnlessMemory Memory (AreStepsRead start f text) (Err (fault_on (line_after start steps) fault))
refusal start f known new text steps next after (step_fault.Fails cause) same clauses c h = inl (record {
  steps = steps;
  step = h.step;
  after = after;
  is_written = h.is_written;
  comes = subst (λ l. ComesTo f text steps l after) h.line_is c;
  number = refl;
  holds = subst (λ cs. FailsFor f cs h.step cause) clauses (subst (λ g. FailsFor g known.clauses h.step cause) same h.holds.0);
})
refusal start f known new text steps next after (step_fault.Wide at) same clauses c h = inl (record {
  steps = steps;
  step = h.step;
  after = after;
  is_written = h.is_written;
  comes = subst (λ l. ComesTo f text steps l after) h.line_is c;
  number = refl;
  holds = subst (λ g. IsWideStep g h.step at) same h.holds.0;
})
refusal start f known new text steps next after step_fault.Memory same clauses c h = inr refl

-- a fault of each text that goes on so
refused_of : (start : ℕ) (p : Progress) (text : List ℕ) (line : ℕ) (fault : StepFault)
    → ((more : List ℕ) → UnlessMemory Memory (AreStepsRead start p.known.formula (text ++ more)) (Err (fault_on line fault))) → IsRefused start p text (fault_on line fault)
refused_of start p text line (step_fault.Fails cause) h = λ more. elim (h more) [ inl r ↦ r | inr e ↦ absurd cc ]
refused_of start p text line (step_fault.Wide at) h = λ more. elim (h more) [ inl r ↦ r | inr e ↦ absurd cc ]
refused_of start p text line step_fault.Memory h = tt

found_formula : (old new : Checking) (text : List ℕ) (f : Found) → IsFound old text new f → new.formula ≡ old.formula
found_formula old new text found.End h = ap (λ k. k.formula) h.1
found_formula old new text (found.Step is_empty) h = ap (λ k. k.formula) h.holds.1
found_formula old new text (found.Refused (step_fault.Fails cause)) h = h.holds.1
found_formula old new text (found.Refused (step_fault.Wide at)) h = h.holds.1
found_formula old new text (found.Refused step_fault.Memory) h = h
found_formula old new text found.Other h = ap (λ k. k.formula) h.2

push_lines : (steps : List WrittenStep) (step : WrittenStep) → step_lines (steps ++ step ∷ []) ≡ step_lines steps ++ (written_text step ++ 10 ∷ [])
push_lines steps step =
    ap (flat_map line) (map_push written_text steps step) ∙ flat_map-append line (map written_text steps) (written_text step ∷ [])
    ∙ ap (λ l. step_lines steps ++ l) (append-nil (line (written_text step)))

pub after_push : (start : ℕ) (steps : List WrittenStep) (step : WrittenStep) → line_after start steps + 1 ≡ line_after start (steps ++ step ∷ [])
after_push start steps step = omega (arith, length_push steps step)

nothing_lacks : Lacks 10 []
nothing_lacks = All-nil (λ b. b ≢ 10)

module _ (start : ℕ) (old : Progress) (known : Checking) (text rest : List ℕ) (s : StandsAfterSteps start text old) (lacks : Lacks 10 rest) where
  next_lacks : Lacks 10 (old.part ++ rest)
  next_lacks = All-append (λ b. b ≢ 10) old.part rest s.goes_on lacks

  comes_fed : (more : List ℕ) → ComesTo old.known.formula ((text ++ (rest ++ 10 ∷ [])) ++ more) s.steps (old.part ++ rest) more
  comes_fed more = comes old.known.formula ((text ++ (rest ++ 10 ∷ [])) ++ more) s.steps ((old.part ++ rest) ++ 10 ∷ more) (old.part ++ rest) more s.right
      (with_feed text (step_lines s.steps) old.part rest more s.text_is) (fed_line (old.part ++ rest) more next_lacks)

  refused_line : (fault : StepFault) → IsFound old.known (old.part ++ rest) known (found.Refused fault) → (p : Progress) → p.known.formula ≡ old.known.formula
      → IsRefused start p (text ++ (rest ++ 10 ∷ [])) (fault_on old.line fault)
  refused_line fault h p same = refused_of start p (text ++ (rest ++ 10 ∷ [])) old.line fault (λ more.
      subst (λ f. UnlessMemory Memory (AreStepsRead start f ((text ++ (rest ++ 10 ∷ [])) ++ more)) (Err (fault_on old.line fault))) (sym same)
      (subst (λ n. UnlessMemory Memory (AreStepsRead start old.known.formula ((text ++ (rest ++ 10 ∷ [])) ++ more)) (Err (fault_on n fault))) (sym s.number)
      (refusal start old.known.formula old.known known ((text ++ (rest ++ 10 ∷ [])) ++ more) s.steps (old.part ++ rest) more fault refl s.clauses (comes_fed more) h)))

  other_line : IsFound old.known (old.part ++ rest) known found.Other → (p : Progress) → p.known.formula ≡ old.known.formula
      → HasFault start p (text ++ (rest ++ 10 ∷ [])) (CertLine old.line)
  other_line h p same = λ more. subst (λ f. AreStepsRead start f ((text ++ (rest ++ 10 ∷ [])) ++ more) (Err (CertLine old.line))) (sym same) (inl (record {
    steps = s.steps;
    next = old.part ++ rest;
    after = more;
    comes = comes_fed more;
    no_step = h.0;
    no_end = h.1;
    number = s.number;
  }))

  step_line : (is_empty : Bool) → IsFound old.known (old.part ++ rest) known (found.Step is_empty) → (p : Progress) → p.known ≡ known → p.part ≡ []
      → p.line ≡ old.line + 1 → p.is_refuted ≡ is_empty → StandsAfterSteps start (text ++ (rest ++ 10 ∷ [])) p
  step_line is_empty h p known_is part_is line_is refuted_is =
      let formula_is : p.known.formula ≡ old.known.formula = ap (λ k. k.formula) known_is ∙ ap (λ k. k.formula) h.holds.1 in
      let steps : List WrittenStep = s.steps ++ h.step ∷ [] in
      record {
        steps = s.steps ++ h.step ∷ [];
        right = subst (λ f. AreRight f (s.steps ++ h.step ∷ [])) (sym formula_is)
            (right_push old.known.formula s.steps h.step s.right h.is_written (subst (λ cs. IsAccepted old.known.formula cs h.step) s.clauses h.holds.0));
        clauses =
            ap (λ k. k.clauses) known_is ∙ ap (λ k. k.clauses) h.holds.1 ∙ ap (λ c. c ++ written_clause h.step ∷ []) s.clauses
            ∙ clauses_push old.known.formula s.steps h.step ∙ ap (λ f. clauses_after f (s.steps ++ h.step ∷ [])) (sym formula_is);
        text_is =
            ap (λ t. t ++ (rest ++ 10 ∷ [])) s.text_is ∙ append_assoc (step_lines s.steps) old.part (rest ++ 10 ∷ [])
            ∙ ap (λ t. step_lines s.steps ++ t) (sym (append_assoc old.part rest (10 ∷ [])) ∙ ap (λ l. l ++ 10 ∷ []) h.line_is)
            ∙ sym (push_lines s.steps h.step) ∙ sym (append-nil (step_lines (s.steps ++ h.step ∷ []))) ∙ ap (λ q. step_lines (s.steps ++ h.step ∷ []) ++ q) (sym part_is);
        goes_on = subst (Lacks 10) (sym part_is) nothing_lacks;
        number = line_is ∙ ap (λ n. n + 1) s.number ∙ after_push start s.steps h.step;
        refuted =
            ((λ yes. ends_with s.steps h.step (h.holds.2.0 (sym refuted_is ∙ yes))), (λ ends. refuted_is ∙ h.holds.2.1 (last_is_empty s.steps h.step ends)));
      }

  end_line_at : (b : Bool) → old.is_refuted ≡ b → IsFound old.known (old.part ++ rest) known found.End → (p : Progress) → p.known ≡ known → p.line ≡ old.line + 1
      → IsAtStage start (text ++ (rest ++ 10 ∷ [])) p (stage_after_end b)
  end_line_at true refuted h p known_is line_is =
      let formula_is : p.known.formula ≡ old.known.formula = ap (λ k. k.formula) (known_is ∙ h.1) in
      record {
        steps = s.steps;
        right = subst (λ f. AreRight f s.steps) (sym formula_is) s.right;
        ends = s.refuted.0 refuted;
        blanks = [];
        are_blanks = All-nil IsBlank;
        text_is =
            ap (λ t. t ++ (rest ++ 10 ∷ [])) s.text_is ∙ append_assoc (step_lines s.steps) old.part (rest ++ 10 ∷ [])
            ∙ ap (λ t. step_lines s.steps ++ t) (sym (append_assoc old.part rest (10 ∷ [])) ∙ ap line h.0) ∙ sym (append-nil (step_lines s.steps ++ line end_line));
        number = line_is ∙ omega (arith, s.number);
      }
  end_line_at false refuted h p known_is line_is =
      let formula_is : p.known.formula ≡ old.known.formula = ap (λ k. k.formula) (known_is ∙ h.1) in
      λ more. subst (λ f. AreStepsRead start f ((text ++ (rest ++ 10 ∷ [])) ++ more) (Err NoVerdict)) (sym formula_is) (record {
        steps = s.steps;
        after = more;
        comes = subst (λ l. ComesTo old.known.formula ((text ++ (rest ++ 10 ∷ [])) ++ more) s.steps l more) h.0 (comes_fed more);
        open_end = λ ends. let yes = s.refuted.1 ends in false≢true (sym refuted ∙ yes);
      })

at_steps : (start : ℕ) (text : List ℕ) (p : Progress) → p.stage ≡ Steps → HasRead start text p → StandsAfterSteps start text p
at_steps start text p stage h = subst (IsAtStage start text p) stage h

-- after a whole line of the steps
line_read : (start : ℕ) (old : Progress) (known : Checking) (rest : List ℕ) (f : Found) → old.stage ≡ Steps → Lacks 10 rest → IsFound old.known (old.part ++ rest) known f
    → (text : List ℕ) → StandsAfterSteps start text old → HasRead start (text ++ (rest ++ 10 ∷ [])) (advanced (record old { known = known; part = [] }) f)
line_read start old known rest found.End stage lacks h text s =
    end_line_at start old known text rest s lacks old.is_refuted refl h (advanced (record old { known = known; part = [] }) found.End) refl refl
line_read start old known rest (found.Step is_empty) stage lacks h text s =
    let new : Progress = advanced (record old { known = known; part = [] }) (found.Step is_empty) in
    let steps : StandsAfterSteps start (text ++ (rest ++ 10 ∷ [])) new = step_line start old known text rest s lacks is_empty h new refl refl refl refl in
    subst (IsAtStage start (text ++ (rest ++ 10 ∷ [])) new) (sym stage) steps
line_read start old known rest (found.Refused fault) stage lacks h text s =
    refused_line start old known text rest s lacks fault h (advanced (record old { known = known; part = [] }) (found.Refused fault))
    (found_formula old.known known (old.part ++ rest) (found.Refused fault) h)
line_read start old known rest found.Other stage lacks h text s =
    other_line start old known text rest s lacks h (advanced (record old { known = known; part = [] }) found.Other) (ap (λ k. k.formula) h.2)

known_after : (p : Progress) (f : Found) → (advanced p f).known ≡ p.known
known_after p found.End = refl
known_after p (found.Step is_empty) = refl
known_after p (found.Refused fault) = refl
known_after p found.Other = refl

pub line_reads : (old : Progress) (known : Checking) (rest : List ℕ) (f : Found) → old.stage ≡ Steps → Lacks 10 rest → IsFound old.known (old.part ++ rest) known f
    → ReadsOn old (rest ++ 10 ∷ []) (advanced (record old { known = known; part = [] }) f)
line_reads old known rest f stage lacks h = record {
  formula = ap (λ k. k.formula) (known_after (record old { known = known; part = [] }) f) ∙ found_formula old.known known (old.part ++ rest) f h;
  read = λ start text read. line_read start old known rest f stage lacks h text (at_steps start text old stage read);
}

-- nothing was read
pub nothing_read : (start : ℕ) (p : Progress) (f : FormulaParts) → p.known ≡ start_of f → p.part ≡ [] → p.line ≡ line_after start [] → p.is_refuted ≡ false → StandsAfterSteps start [] p
nothing_read start p f known part number refuted = record {
  steps = [];
  right = record { written = All-nil IsWritten; accepted = tt };
  clauses = ap (λ k. k.clauses) known ∙ ap (λ k. k.formula.clauses) (sym known) ∙ sym (append-nil p.known.formula.clauses);
  text_is = sym part;
  goes_on = subst (Lacks 10) (sym part) nothing_lacks;
  number = number;
  refuted = ((λ yes. absurd (false≢true (sym refuted ∙ yes))), (λ ends. absurd (none_ends ends)));
}

part_stands : (start : ℕ) (old : Progress) (piece part : List ℕ) → part ≡ old.part ++ piece → Lacks 10 piece → (text : List ℕ) → StandsAfterSteps start text old
    → StandsAfterSteps start (text ++ piece) (record old { part = part })
part_stands start old piece part e lacks text s = record {
  steps = s.steps;
  right = s.right;
  clauses = s.clauses;
  text_is = ap (λ t. t ++ piece) s.text_is ∙ append_assoc (step_lines s.steps) old.part piece ∙ ap (λ q. step_lines s.steps ++ q) (sym e);
  goes_on = subst (Lacks 10) (sym e) (All-append (λ b. b ≢ 10) old.part piece s.goes_on lacks);
  number = s.number;
  refuted = s.refuted;
}

-- the front of a line was kept
pub part_reads : (old mid : Progress) (piece part : List ℕ) → old ≡ mid → part ≡ mid.part ++ piece → old.stage ≡ Steps → Lacks 10 piece
    → ReadsOn old piece (record mid { part = part })
part_reads old mid piece part same e stage lacks = subst (λ o. ReadsOn o piece (record mid { part = part })) (sym same) (record {
  formula = refl;
  read = λ start text read.
      let mid_stage : mid.stage ≡ Steps = ap (λ p. p.stage) (sym same) ∙ stage in
      let stands : StandsAfterSteps start (text ++ piece) (record mid { part = part }) = part_stands start mid piece part e lacks text (at_steps start text mid mid_stage read) in
      subst (IsAtStage start (text ++ piece) (record mid { part = part })) (sym mid_stage) stands;
})

-- two pieces, one after the other
pub reads_both : (first second third : Progress) (front back : List ℕ) → ReadsOn first front second → ReadsOn second back third → ReadsOn first (front ++ back) third
reads_both first second third front back p q = record {
  formula = q.formula ∙ p.formula;
  read = λ start text read. subst (λ t. HasRead start t third) (append_assoc text front back) (q.read start (text ++ front) (p.read start text read));
}

goes_on : (start : ℕ) (p : Progress) (text rest : List ℕ) (fault : CertFault) → IsRefused start p text fault → IsRefused start p (text ++ rest) fault
goes_on start p text rest (CertLine n) h = λ more. rw append_assoc (h (rest ++ more))
goes_on start p text rest (BadStep n cause) h = λ more. rw append_assoc (h (rest ++ more))
goes_on start p text rest NoVerdict h = λ more. rw append_assoc (h (rest ++ more))
goes_on start p text rest (CertWide n row column) h = λ more. rw append_assoc (h (rest ++ more))
goes_on start p text rest ReadFault h = h
goes_on start p text rest TooLong h = h
goes_on start p text rest Memory h = tt

stays : (start : ℕ) (p : Progress) (text rest : List ℕ) (stage : Stage) → (stage ≡ Steps → ⊥) → (stage ≡ Blanks → ⊥) → IsAtStage start text p stage → IsAtStage start (text ++ rest) p stage
stays start p text rest Steps isnt isnt' h = absurd (isnt refl)
stays start p text rest Blanks isnt isnt' h = absurd (isnt' refl)
stays start p text rest (Refused fault) isnt isnt' h = goes_on start p text rest fault h

-- a refused text stays refused
pub rest_dropped : (first p : Progress) (front rest : List ℕ) → (p.stage ≡ Steps → ⊥) → (p.stage ≡ Blanks → ⊥) → ReadsOn first front p → ReadsOn first (front ++ rest) p
rest_dropped first p front rest isnt isnt' r = record {
  formula = r.formula;
  read = λ start text read. subst (λ t. HasRead start t p) (append_assoc text front rest) (stays start p (text ++ front) rest p.stage isnt isnt' (r.read start text read));
}
