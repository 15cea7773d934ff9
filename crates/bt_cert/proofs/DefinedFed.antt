-- Definitions that are read from a source, block by block, and the steps behind them.
use Rattle.std.proofs.Common.{◌≡◌, ℕ, ◌+◌, ◌-◌, ◌≤◌, List, [], ◌++◌, length, Option, Result, Ok, Err, refl, subst, inl, inr, arith, append_assoc, append-nil, length-append}
use Rattle.std.specs.Io.KnownBytes.{Consumes, IsAtEnd, Keeps}
use Rattle.std.proofs.KnownBytes.{Consumes-nil, Consumes-trans, Consumes-kept}
use Rattle.bt_text.specs.Answers.{UnlessMemory}
use Rattle.bt_text.proofs.OneAnswer.{answers_of}
use Rattle.bt_io.specs.Bytes.{Takes, TakesAtMost}
use Rattle.bt_io.specs.Passages.{Passage, passage}
use Rattle.bt_io.specs.Causes.{Rose}
use Rattle.bt_cnf.specs.Formulas.{FormulaParts, IsFormula}
use Rattle.bt_extend.specs.Extending.{extended}
use Rattle.bt_extend.specs.declared.definition.Definition.{Definition}
use Rattle.bt_cert.specs.Certificates.{AreStepsRead, AreDefined, IsCertRead}
use Rattle.bt_cert.specs.Readings.{AnswersBy, ChecksBy, IsCheckedBy}
use Rattle.bt_cert.specs.inner.Defining.{DefiningParts, GoesOn, HasDefined, DefinesOn, ReachesSteps, TakesLastLine, ReadsToSteps, ReadsToEnd}
use Rattle.bt_cert.specs.declared.defining.TheConstants.{MOST_DEFINITIONS}
use Rattle.bt_cert.specs.declared.fault.CertFault.{CertFault}
use Rattle.bt_cert.specs.declared.fault.CertFault.TheVariants.{CertLine, BadStep, NoVerdict, CertWide, ReadFault, TooLong, Memory}
use Rattle.bt_cert.specs.declared.reading.TheConstants.{FIRST_LINE}
use Rattle.bt_cert.proofs.Defined.{ends, on_further, on_none, reaches}
use Rattle.bt_cert.proofs.Feeding.{checked_at}
use Rattle.bt_cert.proofs.OneAnswer.{one_answer}

-- so many bytes of the source were read on
pub record HasFed (limit taken : ℕ) (before after : Option (List ℕ)) (a : FormulaParts) (p : DefiningParts) (b : FormulaParts) (q : DefiningParts) : Type 0 where
  pub bytes : List ℕ
  pub consumed : Consumes before after bytes
  pub many : length bytes ≡ taken
  pub few : taken ≤ limit
  pub reads : DefinesOn a p bytes b q

pub fed_none : (limit : ℕ) (left : Option (List ℕ)) (a : FormulaParts) (p : DefiningParts) → HasFed limit 0 left left a p a p
fed_none limit left a p = record { bytes = []; consumed = Consumes-nil left; many = refl; few = omega arith; reads = on_none a p }

pub fed_further : (limit taken n : ℕ) (before mid after : Option (List ℕ)) (a b c : FormulaParts) (p q r : DefiningParts) (piece : List ℕ) → HasFed limit taken before mid a p b q
    → Consumes mid after piece → length piece ≡ n → taken + n ≤ limit → DefinesOn b q piece c r → HasFed limit (taken + n) before after a p c r
fed_further limit taken n before mid after a b c p q r piece fed consumed many few reads = record {
  bytes = fed.bytes ++ piece;
  consumed = Consumes-trans before mid after fed.bytes piece fed.consumed consumed;
  many = omega (arith, length-append fed.bytes piece, fed.many, many);
  few = few;
  reads = on_further a b c p q r fed.bytes piece fed.reads reads;
}

-- the definitions are read
pub fed_steps : (limit taken : ℕ) (source : Passage) (a : FormulaParts) (p : DefiningParts) (b : FormulaParts) (q : DefiningParts)
    → HasFed limit taken source.before source.after a p b q → (GoesOn q → ⊥) → ReadsToSteps limit taken source a p b q
fed_steps limit taken source a p b q fed done = record {
  bytes = fed.bytes;
  consumed = fed.consumed;
  many = fed.many;
  few = fed.few;
  reads = λ f text h. reaches f (text ++ fed.bytes) b q done (fed.reads f text h);
}

-- the source ended
pub fed_end : (limit taken : ℕ) (source : Passage) (mid : Option (List ℕ)) (a : FormulaParts) (p : DefiningParts) (b : FormulaParts) (q : DefiningParts) (c : FormulaParts) (r : DefiningParts)
    → HasFed limit taken source.before mid a p b q → Consumes mid source.after [] → IsAtEnd source.after → GoesOn q → TakesLastLine b q c r → ReadsToEnd limit source a p c r
fed_end limit taken source mid a p b q c r fed consumed at_end on takes = record {
  bytes = fed.bytes;
  all = (subst (Consumes source.before source.after) (append-nil fed.bytes) (Consumes-trans source.before mid source.after fed.bytes [] fed.consumed consumed), at_end);
  few = omega (arith, fed.many, fed.few);
  reads = λ f text h. ends f (text ++ fed.bytes) b c q r on takes (fed.reads f text h);
}

-- a count that rose from a later value rose from an earlier one
pub rose_before : (a b c : ℕ) → a ≤ b → Rose b c → Rose a c
rose_before a b c earlier rose = let risen = rose.risen in record { risen = omega arith; fits = rose.fits }

-- the source failed
pub fed_fault : (limit taken : ℕ) (source : Passage) (mid : Option (List ℕ)) (a : FormulaParts) (p : DefiningParts) (b : FormulaParts) (q : DefiningParts)
    → HasFed limit taken source.before mid a p b q → Keeps mid source.after → TakesAtMost source limit
fed_fault limit taken source mid a p b q fed keeps =
    (fed.bytes, Consumes-kept source.before mid source.after fed.bytes fed.consumed keeps, omega (arith, fed.many, fed.few))

-- more was taken
pub fed_taken : (limit taken n : ℕ) (source : Passage) (mid : Option (List ℕ)) (a : FormulaParts) (p : DefiningParts) (b : FormulaParts) (q : DefiningParts) (piece : List ℕ)
    → HasFed limit taken source.before mid a p b q → Consumes mid source.after piece → length piece ≡ n → Takes source (taken + n)
fed_taken limit taken n source mid a p b q piece fed consumed many =
    (fed.bytes ++ piece, Consumes-trans source.before mid source.after fed.bytes piece fed.consumed consumed, omega (arith, length-append fed.bytes piece, fed.many, many))

pub fed_at_most : (limit taken n : ℕ) (source : Passage) (mid : Option (List ℕ)) (a : FormulaParts) (p : DefiningParts) (b : FormulaParts) (q : DefiningParts) (piece : List ℕ)
    → HasFed limit taken source.before mid a p b q → Consumes mid source.after piece → length piece ≡ n → taken + n ≤ limit → TakesAtMost source limit
fed_at_most limit taken n source mid a p b q piece fed consumed many few =
    let all = fed_taken limit taken n source mid a p b q piece fed consumed many in (all.0, all.1, omega (arith, all.2, few))

-- ---- the steps behind

-- a right answer to the steps behind definitions is one to the whole text
module _ (f now : FormulaParts) (text rest : List ℕ) (count : ℕ) (ds : List Definition) (defined : AreDefined MOST_DEFINITIONS f text ds rest)
    (formula : now ≡ extended f ds) (many : count ≡ length ds) where
  read_behind : (told : Result (Unit {0}) CertFault) → AreStepsRead (FIRST_LINE + count) now rest told → IsCertRead f text told
  read_behind told h = record {
    definitions = ds;
    rest = rest;
    defined = defined;
    read = subst (λ n. AreStepsRead (FIRST_LINE + n) (extended f ds) rest told) many (subst (λ g. AreStepsRead (FIRST_LINE + count) g rest told) formula h);
  }

  unless_behind : (told : Result (Unit {0}) CertFault) → UnlessMemory Memory (AreStepsRead (FIRST_LINE + count) now rest) told → UnlessMemory Memory (IsCertRead f text) told
  unless_behind (Ok done) h = read_behind (Ok done) h
  unless_behind (Err e) (inl h) = inl (read_behind (Err e) h)
  unless_behind (Err e) (inr m) = inr m

-- what is told of the steps behind definitions is what is told of the whole text
module _ {S : Type 0} (left : S → Option (List ℕ)) (faults : S → ℕ) (first second third : S) (f : FormulaParts) (is : IsFormula f) (head : List ℕ) (limit taken : ℕ)
    (before : FormulaParts) (old : DefiningParts) (after : FormulaParts) (new : DefiningParts) (read : HasDefined f head before old)
    (reached : ReadsToSteps limit taken (passage left faults first second) before old after new) (earlier : faults first ≤ faults second) where
  steps : ReachesSteps f (head ++ reached.bytes) after new
  steps = reached.reads f head read

  within : length reached.bytes + (limit - taken) ≤ limit
  within = omega (arith, reached.many, reached.few)

  full : length reached.bytes + (limit - taken) ≡ limit
  full = omega (arith, reached.many, reached.few)

  defined_behind : (bytes : List ℕ) → AreDefined MOST_DEFINITIONS f (head ++ (reached.bytes ++ bytes)) steps.definitions (new.part ++ bytes)
  defined_behind bytes =
      subst (λ t. AreDefined MOST_DEFINITIONS f t steps.definitions (new.part ++ bytes)) (append_assoc head reached.bytes bytes) (steps.defined bytes)

  answers_behind : (told : Result (Unit {0}) CertFault)
      → AnswersBy (AreStepsRead (FIRST_LINE + new.count) after) new.part (limit - taken) (passage left faults second third) told
      → AnswersBy (IsCertRead f) head limit (passage left faults first third) told
  answers_behind told h =
      let text = head ++ (reached.bytes ++ h.0) in (
        reached.bytes ++ h.0,
        (Consumes-trans (left first) (left second) (left third) reached.bytes h.0 reached.consumed h.1.0, h.1.1),
        omega (arith, length-append reached.bytes h.0, h.2, within),
        answers_of Memory (IsCertRead f text) (one_answer f is text) told
            (unless_behind f after text (new.part ++ h.0) new.count steps.definitions (defined_behind h.0) steps.formula steps.count told h.3.right),
      )

  at_most_behind : TakesAtMost (passage left faults second third) (limit - taken) → TakesAtMost (passage left faults first third) limit
  at_most_behind t =
      (reached.bytes ++ t.0, Consumes-trans (left first) (left second) (left third) reached.bytes t.0 reached.consumed t.1, omega (arith, length-append reached.bytes t.0, t.2, within))

  checked_behind : (told : Result (Unit {0}) CertFault) → faults second ≤ faults third
      → IsCheckedBy (AreStepsRead (FIRST_LINE + new.count) after) new.part (limit - taken) (passage left faults second third) told
      → IsCheckedBy (IsCertRead f) head limit (passage left faults first third) told
  checked_behind (Ok done) later h = answers_behind (Ok done) h
  checked_behind (Err (CertLine n)) later h = answers_behind (Err (CertLine n)) h
  checked_behind (Err (BadStep n cause)) later h = answers_behind (Err (BadStep n cause)) h
  checked_behind (Err NoVerdict) later h = answers_behind (Err NoVerdict) h
  checked_behind (Err (CertWide n row column)) later h = answers_behind (Err (CertWide n row column)) h
  checked_behind (Err ReadFault) later h = (rose_before (faults first) (faults second) (faults third) earlier h.0, at_most_behind h.1)
  checked_behind (Err TooLong) later h =
      (reached.bytes ++ h.0, Consumes-trans (left first) (left second) (left third) reached.bytes h.0 reached.consumed h.1, omega (arith, length-append reached.bytes h.0, h.2, full))
  checked_behind (Err Memory) later h = at_most_behind h

  pub checks_behind : (told : Result (Unit {0}) CertFault)
      → ChecksBy (AreStepsRead (FIRST_LINE + new.count) after) new.part (limit - taken) (passage left faults second third) told
      → ChecksBy (IsCertRead f) head limit (passage left faults first third) told
  checks_behind told h = record {
    checked = checked_behind told h.count h.checked;
    count = let later : faults second ≤ faults third = h.count in omega (arith, earlier, later);
  }

no_fault : (f : FormulaParts) (text : List ℕ) → IsCertRead f text (Err ReadFault) → ⊥
no_fault f text h = h.read

no_end : (f : FormulaParts) (text : List ℕ) → IsCertRead f text (Err TooLong) → ⊥
no_end f text h = h.read

-- what is told where the source ended within the definitions
pub ended_checked : (f : FormulaParts) → IsFormula f → (head : List ℕ) (limit : ℕ) (source : Passage) (before : FormulaParts) (old : DefiningParts) (after : FormulaParts) (new : DefiningParts)
    (told : Result (Unit {0}) CertFault) → HasDefined f head before old → ReadsToEnd limit source before old after new
    → UnlessMemory Memory (AreStepsRead (FIRST_LINE + new.count) after new.part) told → IsCheckedBy (IsCertRead f) head limit source told
ended_checked f is head limit source before old after new told read reached h =
    let text = head ++ reached.bytes in
    let all = reached.reads f head read in
    checked_at (IsCertRead f) (no_fault f) (no_end f) head limit source told (
      reached.bytes,
      reached.all,
      reached.few,
      answers_of Memory (IsCertRead f text) (one_answer f is text) told
          (unless_behind f after text new.part new.count all.definitions all.defined all.formula all.count told h),
    )

-- the head's definitions
pub head_read : (f : FormulaParts) (p : DefiningParts) (head : List ℕ) (now : FormulaParts) (q : DefiningParts) → HasDefined f [] f p → DefinesOn f p head now q → HasDefined f head now q
head_read f p head now q none reads = reads f [] none
