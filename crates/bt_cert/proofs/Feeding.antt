-- A certificate that is read from a source, block by block.
use Rattle.std.proofs.Common.{◌≡◌, ℕ, ◌+◌, ◌≤◌, List, [], ◌++◌, length, Option, None, Some, Result, Ok, Err, refl, sym, ◌∙◌, ap, subst, inl, inr, arith, append_assoc, append-nil, length-append}
use Rattle.std.specs.Io.KnownBytes.{Consumes, IsAtEnd, Keeps}
use Rattle.bt_text.specs.Answers.{UnlessMemory}
use Rattle.bt_text.proofs.OneAnswer.{answers_of}
use Rattle.bt_io.specs.Bytes.{TakesAtMost}
use Rattle.bt_io.specs.Passages.{Passage}
use Rattle.bt_cnf.specs.Formulas.{FormulaParts, IsFormula}
use Rattle.bt_cert.specs.Certificates.{AreStepsRead}
use Rattle.bt_cert.specs.Readings.{AnswersBy, IsCheckedBy}
use Rattle.bt_cert.specs.inner.Feeding.{IsFed, ReadsWhole}
use Rattle.bt_cert.specs.inner.Stages.{Progress, HasRead, ReadsOn}
use Rattle.bt_cert.specs.declared.fault.CertFault.{CertFault}
use Rattle.bt_cert.specs.declared.fault.CertFault.TheVariants.{CertLine, BadStep, NoVerdict, CertWide, ReadFault, TooLong, Memory}
use Rattle.bt_cert.proofs.OneAnswer.{one_steps_answer}

consumes_none : (left : Option (List ℕ)) → Consumes left left []
consumes_none None = tt
consumes_none (Some xs) = refl

consumes_both : (first second third : Option (List ℕ)) (front back : List ℕ) → Consumes first second front → Consumes second third back → Consumes first third (front ++ back)
consumes_both None second third front back p q = tt
consumes_both (Some xs) None third front back p q = absurd p
consumes_both (Some xs) (Some ys) None front back p q = absurd q
consumes_both (Some xs) (Some ys) (Some zs) front back p q = p ∙ ap (λ t. front ++ t) q ∙ sym (append_assoc front back zs)

pub fed_start : (left : Option (List ℕ)) (p : Progress) → IsFed left left 0 p p
fed_start left p = record {
  bytes = [];
  consumed = consumes_none left;
  many = refl;
  reads = record { formula = refl; read = λ start text read. subst (λ t. HasRead start t p) (sym (append-nil text)) read };
  line = omega arith;
}

pub fed_more : (before mid after : Option (List ℕ)) (taken n : ℕ) (old p q : Progress) (piece : List ℕ) → IsFed before mid taken old p
    → Consumes mid after piece → length piece ≡ n → ReadsOn p piece q → q.line ≤ p.line + length piece → IsFed before after (taken + n) old q
fed_more before mid after taken n old p q piece fed consumed many reads lines = record {
  bytes = fed.bytes ++ piece;
  consumed = consumes_both before mid after fed.bytes piece fed.consumed consumed;
  many = omega (arith, length-append fed.bytes piece, fed.many, many);
  reads = record {
    formula = reads.formula ∙ fed.reads.formula;
    read = λ start text read.
        subst (λ t. HasRead start t q) (append_assoc text fed.bytes piece) (reads.read start (text ++ fed.bytes) (fed.reads.read start text read));
  };
  line = omega (arith, fed.line, lines, many);
}

-- the source ended
pub fed_whole : (limit taken : ℕ) (source : Passage) (mid : Option (List ℕ)) (old p : Progress) → IsFed source.before mid taken old p
    → Consumes mid source.after [] → IsAtEnd source.after → taken ≤ limit → ReadsWhole limit source old p
fed_whole limit taken source mid old p fed consumed ends few = record {
  bytes = fed.bytes;
  all = (subst (Consumes source.before source.after) (append-nil fed.bytes) (consumes_both source.before mid source.after fed.bytes [] fed.consumed consumed), ends);
  few = omega (arith, fed.many);
  reads = fed.reads;
  line = omega (arith, fed.line);
}

-- what is told of a text whose source ended
pub checked_at : (Right : List ℕ → Result (Unit {0}) CertFault → Type 0) → ((text : List ℕ) → Right text (Err ReadFault) → ⊥) → ((text : List ℕ) → Right text (Err TooLong) → ⊥)
    → (head : List ℕ) (limit : ℕ) (source : Passage) (told : Result (Unit {0}) CertFault) → AnswersBy Right head limit source told → IsCheckedBy Right head limit source told
checked_at Right no_fault no_end head limit source (Ok done) h = h
checked_at Right no_fault no_end head limit source (Err (CertLine n)) h = h
checked_at Right no_fault no_end head limit source (Err (BadStep n cause)) h = h
checked_at Right no_fault no_end head limit source (Err NoVerdict) h = h
checked_at Right no_fault no_end head limit source (Err (CertWide n row column)) h = h
checked_at Right no_fault no_end head limit source (Err ReadFault) h = elim h.3.right [ inl wrong ↦ absurd (no_fault (head ++ h.0) wrong) | inr e ↦ absurd cc ]
checked_at Right no_fault no_end head limit source (Err TooLong) h = elim h.3.right [ inl wrong ↦ absurd (no_end (head ++ h.0) wrong) | inr e ↦ absurd cc ]
checked_at Right no_fault no_end head limit source (Err Memory) h = (h.0, h.1.0, h.2)

-- what is told where the whole source was read
pub whole_checked : (first : ℕ) (f : FormulaParts) → IsFormula f → (head : List ℕ) (limit : ℕ) (source : Passage) (start old new : Progress) (told : Result (Unit {0}) CertFault)
    → start.known.formula ≡ f → HasRead first [] start → ReadsOn start head old → ReadsWhole limit source old new
    → ((begin : ℕ) (text : List ℕ) → HasRead begin text new → UnlessMemory Memory (AreStepsRead begin new.known.formula text) told) → IsCheckedBy (AreStepsRead first f) head limit source told
whole_checked first f formula head limit source start old new told start_is nothing headed whole answers =
    let same = whole.reads.formula ∙ headed.formula ∙ start_is in
    let right : UnlessMemory Memory (AreStepsRead first f (head ++ whole.bytes)) told =
    subst (λ g. UnlessMemory Memory (AreStepsRead first g (head ++ whole.bytes)) told) same
    (answers first (head ++ whole.bytes) (whole.reads.read first head (headed.read first [] nothing))) in
    checked_at (AreStepsRead first f) (λ text wrong. wrong) (λ text wrong. wrong) head limit source told
    (whole.bytes, whole.all, whole.few, answers_of Memory (AreStepsRead first f (head ++ whole.bytes)) (one_steps_answer first f formula (head ++ whole.bytes)) told right)

-- what is told where the whole text was read before
pub finished : (first : ℕ) (f : FormulaParts) (text : List ℕ) (start old : Progress) (told : Result (Unit {0}) CertFault) → start.known.formula ≡ f → HasRead first [] start
    → ReadsOn start text old → ((begin : ℕ) (text : List ℕ) → HasRead begin text old → UnlessMemory Memory (AreStepsRead begin old.known.formula text) told)
    → UnlessMemory Memory (AreStepsRead first f text) told
finished first f text start old told start_is nothing reads answers =
    subst (λ g. UnlessMemory Memory (AreStepsRead first g text) told) (reads.formula ∙ start_is) (answers first text (reads.read first [] nothing))

keeps_as : (before mid after : Option (List ℕ)) (bytes : List ℕ) → Consumes before mid bytes → Keeps mid after → Consumes before after bytes
keeps_as None mid after bytes p q = tt
keeps_as (Some xs) None after bytes p q = absurd p
keeps_as (Some xs) (Some ys) None bytes p q = absurd q
keeps_as (Some xs) (Some ys) (Some zs) bytes p q = p ∙ ap (λ t. bytes ++ t) (sym q)

-- nothing was taken
pub unfed : (source : Passage) (limit : ℕ) → source.before ≡ source.after → TakesAtMost source limit
unfed source limit same = ([], subst (λ left. Consumes source.before left []) same (consumes_none source.before), omega arith)
