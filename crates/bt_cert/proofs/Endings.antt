-- After the line `end`, and at the end of the text.
use Rattle.std.proofs.Common.{◌≡◌, ◌≢◌, ℕ, ◌+◌, ◌-◌, ◌<◌, ◌==◌, List, [], ◌∷◌, ◌++◌, map, length, take, cond, true, false, Bool, Err, refl, sym, ◌∙◌, ap, subst, inl, inr, arith, append_assoc, append-nil, length-append}
use Rattle.std.proofs.lemmas.Bool.{eqb-true, false≢true}
use Rattle.std.proofs.lemmas.List.{map_push}
use Rattle.std.proofs.lemmas.List.Sums.{sum_by-append}
use Rattle.std.proofs.Math.Seq.{take-append_seam}
use Rattle.std.proofs.lemmas.List.Elements.{All-nil, All-append}
use Rattle.bt_text.specs.Answers.{UnlessMemory}
use Rattle.bt_text.specs.Blanks.{IsBlank, SkipsBlanks}
use Rattle.bt_text.specs.Lines.{Lacks, line, line_feeds, BeginsWithLines}
use Rattle.bt_text.proofs.FirstLines.{BeginsWithLines-push}
use Rattle.bt_cnf.specs.Formulas.{FormulaParts}
use Rattle.bt_cert.specs.StepLines.{WrittenStep, Lemma, Learnt, written_text}
use Rattle.bt_cert.specs.Judging.{IsAccepted}
use Rattle.bt_cert.specs.inner.Checking.{Checking}
use Rattle.bt_cert.specs.Certificates.{ComesTo, AreStepsRead, SpellsNoStep, line_after, end_line}
use Rattle.bt_cert.specs.inner.Lines.{IsFound}
use Rattle.bt_cert.specs.inner.Stages.{Progress, StandsAfterSteps, StandsAfterEnd, HasFault, IsAtStage, HasRead, ReadsOn, IsEnded, step_lines, fault_on, advanced, answer_at, stage_after_end}
use Rattle.bt_cert.specs.declared.fault.CertFault.TheVariants.{CertLine, BadStep, NoVerdict, CertWide, ReadFault, TooLong, Memory}
use Rattle.bt_cert.specs.declared.line.Found.{Found}
use Rattle.bt_cert.specs.declared.line.Found.TheVariants as found
use Rattle.bt_cert.specs.declared.stage.Stage.{Stage}
use Rattle.bt_cert.specs.declared.stage.Stage.TheVariants.{Steps, Blanks, Refused}
use Rattle.bt_cert.proofs.Accepted.{right_push}
use Rattle.bt_cert.proofs.CertificateLines.{certificate_of, end_lacks}
use Rattle.bt_cert.proofs.Stages.{comes, last_line, fed_line, refusal, after_push}
use Rattle.bt_cert.proofs.WrittenLines.{lemma_line, learnt_line}

at_blanks : (start : ℕ) (text : List ℕ) (p : Progress) → p.stage ≡ Blanks → HasRead start text p → StandsAfterEnd start text p
at_blanks start text p stage h = subst (IsAtStage start text p) stage h

feeds_append : (xs ys : List ℕ) → line_feeds (xs ++ ys) ≡ line_feeds xs + line_feeds ys
feeds_append xs ys = sum_by-append (λ byte. cond (byte == 10) 1 0) xs ys

front_is : (text blanks rest : List ℕ) → text ≡ blanks ++ rest → take (length text - length rest) text ≡ blanks
front_is text blanks rest e =
    let many : length text - length rest ≡ length blanks = omega (arith, ap length e, length-append blanks rest) in
    ap (λ n. take n text) many ∙ ap (take (length blanks)) e ∙ take-append_seam blanks rest

-- the blanks of a text, by the number of its line feeds
feeds_are : (text rest : List ℕ) (s : SkipsBlanks text rest) (feeds : ℕ) → feeds ≡ line_feeds (take (length text - length rest) text) → feeds ≡ line_feeds s.blanks
feeds_are text rest s feeds e = e ∙ ap line_feeds (front_is text s.blanks rest s.text_is)

more_blanks : (start : ℕ) (old : Progress) (text : List ℕ) (n : ℕ) (s : SkipsBlanks text []) → n ≡ old.line + line_feeds s.blanks → (before : List ℕ) → StandsAfterEnd start before old
    → StandsAfterEnd start (before ++ text) (record old { line = n })
more_blanks start old text n skips count before s =
    let whole : text ≡ skips.blanks = skips.text_is ∙ append-nil skips.blanks in
    record {
      steps = s.steps;
      right = s.right;
      ends = s.ends;
      blanks = s.blanks ++ skips.blanks;
      are_blanks = All-append IsBlank s.blanks skips.blanks s.are_blanks skips.are_blanks;
      text_is =
          ap (λ t. t ++ text) s.text_is ∙ append_assoc (step_lines s.steps ++ line end_line) s.blanks text
          ∙ ap (λ b. step_lines s.steps ++ line end_line ++ (s.blanks ++ b)) whole;
      number = count ∙ omega (arith, s.number, feeds_append s.blanks skips.blanks);
    }

byte_after : (start : ℕ) (old : Progress) (text rest : List ℕ) (byte n : ℕ) (s : SkipsBlanks text (byte ∷ rest)) → n ≡ old.line + line_feeds s.blanks → (before : List ℕ)
    → StandsAfterEnd start before old → HasFault start old (before ++ text) (CertLine n)
byte_after start old text rest byte n skips count before s = λ more.
    let after : List ℕ = s.blanks ++ (skips.blanks ++ byte ∷ (rest ++ more)) in
    let all : (before ++ text) ++ more ≡ step_lines s.steps ++ (end_line ++ 10 ∷ (s.blanks ++ (skips.blanks ++ byte ∷ (rest ++ more)))) =
    append_assoc before text more ∙ ap (λ b. b ++ (text ++ more)) s.text_is
    ∙ ap (λ t. (step_lines s.steps ++ line end_line ++ s.blanks) ++ (t ++ more)) skips.text_is ∙ simp append_assoc in
    inr (record {
      steps = s.steps;
      after = s.blanks ++ (skips.blanks ++ byte ∷ (rest ++ more));
      comes = comes old.known.formula ((before ++ text) ++ more) s.steps (end_line ++ 10 ∷ (s.blanks ++ (skips.blanks ++ byte ∷ (rest ++ more)))) end_line
          (s.blanks ++ (skips.blanks ++ byte ∷ (rest ++ more))) s.right all (fed_line end_line (s.blanks ++ (skips.blanks ++ byte ∷ (rest ++ more))) end_lacks);
      ends = s.ends;
      blanks = s.blanks ++ skips.blanks;
      byte = record {
        are_blanks = All-append IsBlank s.blanks skips.blanks s.are_blanks skips.are_blanks;
        byte = byte;
        rest = rest ++ more;
        text_is = sym (append_assoc s.blanks skips.blanks (byte ∷ (rest ++ more)));
        other = skips.no_more (omega arith);
      };
      number = count ∙ omega (arith, s.number, feeds_append s.blanks skips.blanks);
    })

-- more blanks were read
pub blanks_read : (old mid : Progress) (text rest : List ℕ) (feeds : ℕ) → old ≡ mid → old.stage ≡ Blanks → SkipsBlanks text rest → (length rest == 0) ≡ true
    → feeds ≡ line_feeds (take (length text - length rest) text) → ReadsOn old text (record mid { line = mid.line + feeds })
blanks_read old mid text [] feeds same stage skips none count = subst (λ o. ReadsOn o text (record mid { line = mid.line + feeds })) (sym same) (record {
  formula = refl;
  read = λ start before read.
      let mid_stage : mid.stage ≡ Blanks = ap (λ p. p.stage) (sym same) ∙ stage in
      let stands : StandsAfterEnd start (before ++ text) (record mid { line = mid.line + feeds }) =
      more_blanks start mid text (mid.line + feeds) skips (ap (λ n. mid.line + n) (feeds_are text [] skips feeds count)) before (at_blanks start before mid mid_stage read) in
      subst (IsAtStage start (before ++ text) (record mid { line = mid.line + feeds })) (sym mid_stage) stands;
})
blanks_read old mid text (byte ∷ rest) feeds same stage skips none count =
    let long : length (byte ∷ rest) ≡ 0 = eqb-true (length (byte ∷ rest)) 0 none in absurd (omega (arith, long))

-- a byte was read that isn't blank
pub byte_read : (old mid : Progress) (text rest : List ℕ) (feeds : ℕ) → old ≡ mid → old.stage ≡ Blanks → SkipsBlanks text rest → (length rest == 0) ≡ false
    → feeds ≡ line_feeds (take (length text - length rest) text) → ReadsOn old text (record mid { line = mid.line + feeds; stage = Refused (CertLine (mid.line + feeds)) })
byte_read old mid text [] feeds same stage skips some count = absurd (false≢true (sym some))
byte_read old mid text (byte ∷ rest) feeds same stage skips some count =
    subst (λ o. ReadsOn o text (record mid { line = mid.line + feeds; stage = Refused (CertLine (mid.line + feeds)) })) (sym same) (record {
      formula = refl;
      read = λ start before read.
          byte_after start mid text rest byte (mid.line + feeds) skips (ap (λ n. mid.line + n) (feeds_are text (byte ∷ rest) skips feeds count)) before
          (at_blanks start before mid (ap (λ p. p.stage) (sym same) ∙ stage) read);
    })

nothing_is_no_step : SpellsNoStep []
nothing_is_no_step (Lemma lits weights) written e = let l = e ∙ lemma_line lits weights in cc
nothing_is_no_step (Learnt lits hints) written e = let l = e ∙ learnt_line lits hints in cc

nothing_lacks : Lacks 10 []
nothing_lacks = All-nil (λ b. b ≢ 10)

-- a text that ends after the lines of valid steps stops at the line after them
stops_at_end : (start : ℕ) (f : FormulaParts) (text : List ℕ) (steps : List WrittenStep) (n : ℕ) → ComesTo f text steps [] [] → n ≡ line_after start steps
    → AreStepsRead start f text (Err (CertLine n))
stops_at_end start f text steps n c number = inl (record {
  steps = steps;
  next = [];
  after = [];
  comes = c;
  no_step = nothing_is_no_step;
  no_end = λ e. cc;
  number = number;
})

-- what was read so far, where nothing more comes and no part of a line is left
ended_at : (start : ℕ) (p : Progress) (text : List ℕ) (stage : Stage) → (stage ≡ Steps → p.part ≡ []) → IsAtStage start text p stage
    → UnlessMemory Memory (AreStepsRead start p.known.formula text) (answer_at p.line stage)
ended_at start p text Steps none s =
    let whole : text ≡ step_lines s.steps ++ [] = s.text_is ∙ ap (λ q. step_lines s.steps ++ q) (none refl) in
    inl (stops_at_end start p.known.formula text s.steps p.line (comes p.known.formula text s.steps [] [] [] s.right whole (last_line [] nothing_lacks)) s.number)
ended_at start p text Blanks none s =
    let all : text ≡ step_lines s.steps ++ (end_line ++ 10 ∷ s.blanks) = s.text_is ∙ append_assoc (step_lines s.steps) (line end_line) s.blanks in
    certificate_of p.known.formula text s.steps s.blanks
    (comes p.known.formula text s.steps (end_line ++ 10 ∷ s.blanks) end_line s.blanks s.right all (fed_line end_line s.blanks end_lacks)) s.ends s.are_blanks
ended_at start p text (Refused (CertLine n)) none h = inl (subst (λ t. AreStepsRead start p.known.formula t (Err (CertLine n))) (append-nil text) (h []))
ended_at start p text (Refused (BadStep n cause)) none h = inl (subst (λ t. AreStepsRead start p.known.formula t (Err (BadStep n cause))) (append-nil text) (h []))
ended_at start p text (Refused NoVerdict) none h = inl (subst (λ t. AreStepsRead start p.known.formula t (Err NoVerdict)) (append-nil text) (h []))
ended_at start p text (Refused (CertWide n row column)) none h = inl (subst (λ t. AreStepsRead start p.known.formula t (Err (CertWide n row column))) (append-nil text) (h []))
ended_at start p text (Refused ReadFault) none h = absurd h
ended_at start p text (Refused TooLong) none h = absurd h
ended_at start p text (Refused Memory) none h = inr refl

pub ends_here : (start : ℕ) (p : Progress) (text : List ℕ) → (p.stage ≡ Steps → p.part ≡ []) → HasRead start text p → IsEnded start p.known.formula text p
ends_here start p text none h = ended_at start p text p.stage none h

-- the last line, which lacks its line feed
module _ (start : ℕ) (old : Progress) (known : Checking) (text : List ℕ) (s : StandsAfterSteps start text old) where
  comes_last : ComesTo old.known.formula text s.steps old.part []
  comes_last = comes old.known.formula text s.steps old.part old.part [] s.right s.text_is (last_line old.part s.goes_on)

  step_last : (is_empty : Bool) → 0 < length old.part → IsFound old.known old.part known (found.Step is_empty) → (n : ℕ) → n ≡ old.line + 1
      → AreStepsRead start old.known.formula text (Err (CertLine n))
  step_last is_empty some h n line_is =
      stops_at_end start old.known.formula text (s.steps ++ h.step ∷ []) n (record {
        right = right_push old.known.formula s.steps h.step s.right h.is_written (subst (λ cs. IsAccepted old.known.formula cs h.step) s.clauses h.holds.0);
        rest = [];
        begins = subst (λ l. BeginsWithLines text l []) (sym (map_push written_text s.steps h.step))
            (subst (λ l. BeginsWithLines text (map written_text s.steps ++ l ∷ []) []) h.line_is
            (BeginsWithLines-push text old.part old.part [] (map written_text s.steps) (inl s.text_is) (last_line old.part s.goes_on) some));
        first = last_line [] nothing_lacks;
      }) (line_is ∙ ap (λ m. m + 1) s.number ∙ after_push start s.steps h.step)

  end_last : (b : Bool) → old.is_refuted ≡ b → old.part ≡ end_line → (n : ℕ) → UnlessMemory Memory (AreStepsRead start old.known.formula text) (answer_at n (stage_after_end b))
  end_last true refuted e n =
      certificate_of old.known.formula text s.steps [] (subst (λ l. ComesTo old.known.formula text s.steps l []) e comes_last) (s.refuted.0 refuted) (All-nil IsBlank)
  end_last false refuted e n = inl (record {
    steps = s.steps;
    after = [];
    comes = subst (λ l. ComesTo old.known.formula text s.steps l []) e comes_last;
    open_end = λ ends. let yes = s.refuted.1 ends in false≢true (sym refuted ∙ yes);
  })

found_last : (start : ℕ) (old : Progress) (known : Checking) (text : List ℕ) (f : Found) → old.stage ≡ Steps → 0 < length old.part → IsFound old.known old.part known f
    → StandsAfterSteps start text old → IsEnded start old.known.formula text (advanced (record old { known = known; part = [] }) f)
found_last start old known text found.End stage some h s = end_last start old known text s old.is_refuted refl h.0 (old.line + 1)
found_last start old known text (found.Step is_empty) stage some h s =
    subst (λ g. UnlessMemory Memory (AreStepsRead start old.known.formula text) (answer_at (old.line + 1) g)) (sym stage)
    (inl (step_last start old known text s is_empty some h (old.line + 1) refl))
found_last start old known text (found.Refused fault) stage some h s =
    subst (λ n. UnlessMemory Memory (AreStepsRead start old.known.formula text) (Err (fault_on n fault))) (sym s.number) (refusal start old.known.formula old.known known text s.steps old.part [] fault refl s.clauses (comes_last start old known text s) h)
found_last start old known text found.Other stage some h s = inl (inl (record {
  steps = s.steps;
  next = old.part;
  after = [];
  comes = comes_last start old known text s;
  no_step = h.0;
  no_end = h.1;
  number = s.number;
}))

pub last_line_read : (start : ℕ) (old : Progress) (known : Checking) (text : List ℕ) (f : Found) → old.stage ≡ Steps → 0 < length old.part → IsFound old.known (old.part ++ []) known f
    → HasRead start text old → IsEnded start old.known.formula text (advanced (record old { known = known; part = [] }) f)
last_line_read start old known text f stage some h read =
    found_last start old known text f stage some (subst (λ l. IsFound old.known l known f) (append-nil old.part) h) (subst (IsAtStage start text old) stage read)
