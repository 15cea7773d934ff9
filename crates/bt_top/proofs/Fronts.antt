-- Fronts of an input from which the rest is answered as it is read.
use Rattle.std.proofs.Common.{◌≡◌, ℕ, ◌+◌, ◌<◌, ◌≤◌, Bool, true, false, List, [], ◌∷◌, ◌++◌, drop, length, slice_index, length-append, append-nil, Result, Ok, Err, IfOk, IfErr, Some, None, inl, inr, refl, ap, sym, subst, ◌∙◌, append_assoc, arith, alloc_error}
use Rattle.std.specs.Prelude.{MatchOption}
use Rattle.std.specs.Result.{result_and}
use Rattle.std.proofs.lemmas.List.{drop-append-le}
use Rattle.std.proofs.lemmas.List.Elements.{All-nil}
use Rattle.std.proofs.Math.Seq.{drop-append-add}
use Rattle.std.specs.declared.option.Option.{Option}
use Rattle.std.specs.declared.alloc.AllocError.{AllocError}
use Rattle.std.specs.Io.KnownBytes.{Consumes, IsAtEnd}
use Rattle.std.proofs.KnownBytes.{Consumes-nil}
use Rattle.bt_text.specs.Answers.{UnlessMemory}
use Rattle.bt_text.specs.Blanks.{IsBlank, SkipsBlanks}
use Rattle.bt_text.specs.Lines.{Lacks, IsFirstLine}
use Rattle.bt_text.specs.Pieces.{CutsAt}
use Rattle.bt_text.proofs.Longer.{split-longer}
use Rattle.bt_io.specs.Blocks.{Drains}
use Rattle.bt_io.specs.Bytes.{ReadsAll}
use Rattle.bt_io.specs.Passages.{Passage, passage, HasFault}
use Rattle.bt_io.specs.declared.fault.ReadAll.{ReadAll}
use Rattle.bt_io.specs.declared.fault.ReadAll.TheVariants.{ReadFault, TooLong, Memory}
use Rattle.bt_io.proofs.Behind.{all_behind, fault_behind, memory_behind, long_behind}
use Rattle.bt_io.proofs.Told.{all_told, takes_told}
use Rattle.bt_cert.specs.Certificates.{IsCertRead}
use Rattle.bt_cert.specs.declared.fault.CertFault.{CertFault}
use Rattle.bt_cert.specs.declared.fault.CertFault.TheVariants as cert
use Rattle.bt_cert.specs.Readings.{AnswersWhole, ChecksLog}
use Rattle.bt_words.specs.declared.command.Command.TheVariants.{Check, CheckLayout, CheckSame}
use Rattle.bt_parts.specs.declared.part.Rect.{Rect}
use Rattle.bt_parts.specs.declared.part.Tier.{Tier}
use Rattle.bt_flow.specs.declared.property.Property.{Property}
use Rattle.bt_print.specs.declared.answer.Answer.{Answer}
use Rattle.bt_print.specs.declared.answer.Answer.TheVariants as answer
use Rattle.bt_print.specs.declared.answer.Brief.{Brief}
use Rattle.bt_print.specs.declared.answer.Brief.TheVariants as brief
use Rattle.bt_top.specs.declared.claim.CertificateClaim.TheVariants as claim
use Rattle.bt_designs.specs.declared.fault.DesignFault.{DesignFault}
use Rattle.bt_designs.specs.declared.fault.DesignFault.TheVariants as design
use Rattle.bt_designs.specs.declared.refusal.Refusal.{Refusal}
use Rattle.bt_top.specs.declared.front.Front.{Front}
use Rattle.bt_top.specs.declared.front.Front.TheVariants as front
use Rattle.bt_top.specs.declared.front.WrittenSteps.{WrittenSteps}
use Rattle.bt_designs.specs.declared.held.Held.{Held}
use Rattle.bt_designs.specs.declared.held.TheConstants.{MOST_CHECKED}
use Rattle.bt_top.specs.Certificates.{cert_told}
use Rattle.bt_print.specs.Replies.{Reply}
use Rattle.bt_top.specs.inner.Claims.{IsClaimed}
use Rattle.bt_designs.specs.Told.{MayFollow, LastsBehind, IsAtHand, TellsFront, TellsLine}
use Rattle.bt_top.specs.inner.Fronts.{TellsRefusal, IsFrontOf, GivesFront, GivesHeldFront, IsStepsReply, AnswersLeft, AnswersRest, ReadsRest, DrainsRest, judged_answer}
use Rattle.bt_top.specs.inner.Telling.{IsAnswered}

-- ---- texts that may go on

begins_same : (rest more : List ℕ) → 0 < length rest → slice_index (rest ++ more) 0 ≡ slice_index rest 0
begins_same [] more some = absurd (omega arith)
begins_same (b ∷ rest) more some = refl

-- behind the blanks of a text stands what stood there, and more, where something stood there
skips_on : (text rest more : List ℕ) → 0 < length rest → SkipsBlanks text rest → SkipsBlanks (text ++ more) (rest ++ more)
skips_on text rest more some s = record {
  blanks = s.blanks;
  are_blanks = s.are_blanks;
  text_is = ap (λ t. t ++ more) s.text_is ∙ append_assoc s.blanks rest more;
  no_more = λ long blank. s.no_more some (subst IsBlank (begins_same rest more some) blank);
}

-- or where the input has ended
skips_may : (ended : Bool) (text rest more : List ℕ) → IsAtHand ended rest → MayFollow ended more → SkipsBlanks text rest → SkipsBlanks (text ++ more) (rest ++ more)
skips_may ended text rest more (inr some) may s = skips_on text rest more some s
skips_may ended text rest more (inl e) may s =
    subst (λ m. SkipsBlanks (text ++ m) (rest ++ m)) (sym (may e))
    (subst (λ t. SkipsBlanks t (rest ++ [])) (sym (append-nil text)) (subst (SkipsBlanks text) (sym (append-nil rest)) s))

-- a first line that is told is that of the text and what may follow it
pub line_goes : (ended : Bool) (text title lines more : List ℕ) → TellsLine ended text title lines → MayFollow ended more → IsFirstLine (text ++ more) title (lines ++ more)
line_goes ended text title lines more (inl split) may = inl (split-longer 10 text title lines more split)
line_goes ended text title lines more (inr (e, first)) may =
    subst (λ m. IsFirstLine (text ++ m) title (lines ++ m)) (sym (may e))
    (subst (λ t. IsFirstLine t title (lines ++ [])) (sym (append-nil text)) (subst (IsFirstLine text title) (sym (append-nil lines)) first))

-- and then something is there, or the input has ended
pub line_at_hand : (ended : Bool) (text title lines : List ℕ) → TellsLine ended text title lines → IsAtHand ended text
line_at_hand ended text title lines (inl split) = inr (omega (arith, ap length split.text_is, length-append title (10 ∷ lines)))
line_at_hand ended text title lines (inr (e, first)) = inl e

-- a first line is cut off the text
pub line_cuts : (text first rest : List ℕ) → IsFirstLine text first rest → (behind : List ℕ) × CutsAt 10 text first behind
line_cuts text first rest (inl split) = (10 ∷ rest, record { lacks = split.first; text_is = split.text_is; begins = inr (rest, refl) })
line_cuts text first rest (inr (lacks, same, none)) = ([], record { lacks = subst (Lacks 10) same lacks; text_is = same ∙ sym (append-nil first); begins = inl refl })

-- ---- fronts of parts of an input

module _ (ended : Bool) where
  -- what is told of a text behind blanks is told of the blanks and the text
  pub behind_blanks : (Right : List ℕ → Reply → Type 0) (rest text : List ℕ) → IsAtHand ended text → SkipsBlanks rest text → (result : Result (Option Front) AllocError) → GivesFront Right ended text result
      → GivesFront (λ all reply. (behind : List ℕ) × SkipsBlanks all behind × Right behind reply) ended rest result
  behind_blanks Right rest text hand skips (Ok None) gives = gives
  behind_blanks Right rest text hand skips (Ok (Some f)) gives = (gives.0, λ more reply may h. (text ++ more, skips_may ended rest text more hand may skips, gives.1 more reply may h))
  behind_blanks Right rest text hand skips (Err e) gives = gives

  -- what is told of one kind is told of another
  pub gives_weaker : (P Q : List ℕ → Reply → Type 0) (bytes : List ℕ) → ((all : List ℕ) (reply : Reply) → P all reply → Q all reply)
      → (result : Result (Option Front) AllocError) → GivesFront P ended bytes result → GivesFront Q ended bytes result
  gives_weaker P Q bytes more (Ok None) gives = gives
  gives_weaker P Q bytes more (Ok (Some f)) gives = (gives.0, λ rest reply may h. more (bytes ++ rest) reply (gives.1 rest reply may h))
  gives_weaker P Q bytes more (Err e) gives = gives

  -- an answer that is known whatever may follow
  pub known_front : (Right : List ℕ → Reply → Type 0) (bytes : List ℕ) (a : Brief) → ((more : List ℕ) → MayFollow ended more → Right (bytes ++ more) (Ok (answer.Brief a))) → IsFrontOf Right ended bytes (front.Known a)
  known_front Right bytes a right = (tt, λ more reply may e. subst (Right (bytes ++ more)) (sym e) (right more may))

  -- a refusal that is
  pub tells_refusal : (Right : List ℕ → Reply → Type 0) (bytes : List ℕ) (why : DesignFault) (result : Result (Option Front) AllocError) → IfOk result (λ o. MatchOption o ⊥ (λ f. TellsRefusal why f))
      → ((r : Refusal) → why ≡ design.Refused r → (more : List ℕ) → MayFollow ended more → Right (bytes ++ more) (Ok (answer.Brief (brief.Refused r)))) → GivesFront Right ended bytes result
  tells_refusal Right bytes why (Ok None) tells known = absurd tells
  tells_refusal Right bytes (design.Refused r) (Ok (Some f)) tells known =
      subst (λ x. IsFrontOf Right ended bytes x) (sym tells) (known_front Right bytes (brief.Refused r) (known r refl))
  tells_refusal Right bytes design.Memory (Ok (Some f)) tells known = absurd tells
  tells_refusal Right bytes why (Err e) tells known = tells

-- ---- fronts of what is held

module _ {X D : Type 0} (IsFront : List ℕ → Result (X × ℕ) DesignFault → Type 0) (of : D → X × ℕ) (Whole : List ℕ → Reply → Type 0) (held : Held) where
  -- the refusal of what is to stand at the front
  pub refused_front : (why : DesignFault) (result : Result (Option Front) AllocError) → TellsFront IsFront of held (Err why) → IfOk result (λ o. MatchOption o ⊥ (λ f. TellsRefusal why f))
      → ((all : List ℕ) (r : Refusal) → IsFront all (Err (design.Refused r)) → Whole all (Ok (answer.Brief (brief.Refused r)))) → GivesHeldFront Whole held result
  refused_front why result tells known stops = λ blanks are counted.
      tells_refusal held.ended Whole (blanks ++ held.bytes.now) why result known
      (λ r is more may. stops ((blanks ++ held.bytes.now) ++ more) r (of_refused r (subst (λ w. TellsFront IsFront of held (Err w)) is tells) blanks are counted more may))
    where
      of_refused : (r : Refusal) → TellsFront IsFront of held (Err (design.Refused r)) → LastsBehind IsFront held (Err (design.Refused r))
      of_refused r h = h.1

  module _ (Rest : X → List ℕ → Reply → Type 0) (goes : (all : List ℕ) (found : X × ℕ) (reply : Reply) → IsFront all (Ok found) → Rest found.0 (drop found.1 all) reply → Whole all reply) (x : X) (used : ℕ)
      (within : used ≤ length held.bytes.now) (lasts : LastsBehind IsFront held (Ok (x, held.skipped + used))) where
    dropped : (blanks more : List ℕ) → length blanks ≡ held.skipped → drop (held.skipped + used) ((blanks ++ held.bytes.now) ++ more) ≡ drop used held.bytes.now ++ more
    dropped blanks more counted =
        ap (λ n. drop (n + used) ((blanks ++ held.bytes.now) ++ more)) (sym counted) ∙ ap (drop (length blanks + used)) (append_assoc blanks held.bytes.now more)
        ∙ drop-append-add blanks (held.bytes.now ++ more) used ∙ drop-append-le used held.bytes.now more within

    -- what is told of what follows what stands there
    pub found_front : (result : Result (Option Front) AllocError) → GivesFront (Rest x) held.ended (drop used held.bytes.now) result → GivesHeldFront Whole held result
    found_front (Ok None) gives = λ blanks are counted. gives
    found_front (Ok (Some f)) gives = λ blanks are counted. (
      gives.0,
      λ more reply may h.
          goes ((blanks ++ held.bytes.now) ++ more) (x, held.skipped + used) reply (lasts blanks are counted more may)
          (subst (λ b. Rest x b reply) (sym (dropped blanks more counted)) (gives.1 more reply may h)),
    )
    found_front (Err e) gives = λ blanks are counted. gives

-- where no blanks were dropped
pub none_dropped : (Right : List ℕ → Reply → Type 0) (held : Held) (result : Result (Option Front) AllocError) → held.skipped ≡ 0 → GivesHeldFront Right held result → GivesFront Right held.ended held.bytes.now result
none_dropped Right held result none gives = gives [] (All-nil IsBlank) (sym none)

-- the refusal of what is to stand behind blanks
pub refused_behind : {X D : Type 0} (IsFront : List ℕ → Result (X × ℕ) DesignFault → Type 0) (of : D → X × ℕ) (Whole : List ℕ → Reply → Type 0) (held : Held) → held.skipped ≡ 0 → (rest : List ℕ) → SkipsBlanks rest held.bytes.now
    → ((all : List ℕ) (r : Refusal) → IsFront all (Err (design.Refused r)) → Whole all (Ok (answer.Brief (brief.Refused r))))
    → (why : DesignFault) (result : Result (Option Front) AllocError) → TellsFront IsFront of held (Err why) → IfOk result (λ o. MatchOption o ⊥ (λ f. TellsRefusal why f))
    → GivesFront (λ all reply. (behind : List ℕ) × SkipsBlanks all behind × Whole behind reply) held.ended rest result
refused_behind IsFront of Whole held none rest skips stops (design.Refused r) result tells known =
    behind_blanks held.ended Whole rest held.bytes.now tells.0 skips result (none_dropped Whole held result none (refused_front IsFront of Whole held (design.Refused r) result tells known stops))
refused_behind IsFront of Whole held none rest skips stops design.Memory (Ok None) tells known = absurd known
refused_behind IsFront of Whole held none rest skips stops design.Memory (Ok (Some f)) tells known = absurd known
refused_behind IsFront of Whole held none rest skips stops design.Memory (Err e) tells known = tt

-- ---- sources

module _ {S : Type 0} (left : S → Option (List ℕ)) (faults : S → ℕ) (first second third : S) (bytes : List ℕ) (limit rest : ℕ)
    (taken : Consumes (left first) (left second) bytes) (full : length bytes + rest ≡ limit) (count : faults first ≤ faults second) where
  few : length bytes + rest ≤ limit
  few = omega arith

  -- what is right of what was left after these bytes is right of all that was left
  pub answers_behind : (Right : List ℕ → Reply → Type 0) (result : Result Answer ReadAll)
      → AnswersLeft (λ more reply. Right (bytes ++ more) reply) rest (passage left faults second third) result
      → AnswersLeft Right limit (passage left faults first third) result
  answers_behind Right (Ok a) h =
      (bytes ++ h.0, all_behind left faults first second third bytes limit rest taken few count h.0 h.1, h.2)
  answers_behind Right (Err ReadFault) h = fault_behind left faults first second third bytes limit rest taken few count h
  answers_behind Right (Err TooLong) h = long_behind left faults first second third bytes limit rest taken few count full h
  answers_behind Right (Err Memory) h = memory_behind left faults first second third bytes limit rest taken few count h

-- what is right of one kind is right of another
pub left_weaker : (P Q : List ℕ → Reply → Type 0) (limit : ℕ) (source : Passage) (result : Result Answer ReadAll)
    → ((rest : List ℕ) (reply : Reply) → P rest reply → Q rest reply) → AnswersLeft P limit source result → AnswersLeft Q limit source result
left_weaker P Q limit source (Ok a) more h = (h.0, h.1, more h.0 (Ok a) h.2)
left_weaker P Q limit source (Err fault) more h = h

-- nothing is left where a source has ended
pub nothing_left : {S : Type 0} (left : S → Option (List ℕ)) (faults : S → ℕ) (s : S) (limit : ℕ) → IsAtEnd (left s) → ReadsAll limit (passage left faults s s) (Ok [])
nothing_left left faults s limit end = record { read = ((Consumes-nil (left s), end), omega arith); count = omega arith }

-- where the input goes on, anything may follow
pub goes_on : (ended : Bool) (more : List ℕ) → ended ≡ false → MayFollow ended more
goes_on ended more goes e = absurd (let same : true ≡ false = sym e ∙ goes in cc)

-- the answer to all that a source has left is that to what may follow, where the input goes on
pub rest_of : (ended : Bool) (Right : List ℕ → Reply → Type 0) (limit : ℕ) (source : Passage) (result : Result Answer ReadAll) → ended ≡ false → AnswersLeft Right limit source result → AnswersRest ended Right limit source result
rest_of ended Right limit source result goes h = left_weaker Right (λ more reply. MayFollow ended more × Right more reply) limit source result (λ more reply right. (goes_on ended more goes, right)) h

-- the answer to a text, unless memory ran out
pub text_answered : (Right : List ℕ → Reply → Type 0) (text front back : List ℕ) → text ≡ front ++ back → (result : Reply) → UnlessMemory alloc_error (Right text) result → IfOk result (λ a. Right (front ++ back) (Ok a))
text_answered Right text front back e (Ok a) h = subst (λ t. Right t (Ok a)) e h
text_answered Right text front back e (Err fault) h = tt

-- the answer to what was read of what may follow
pub rest_left : (ended : Bool) (Right : List ℕ → Reply → Type 0) (limit : ℕ) (source : Passage) (more : List ℕ) (a : Answer) → ReadsRest ended limit source (Ok more) → Right more (Ok a) → AnswersRest ended Right limit source (Ok a)
rest_left ended Right limit source more a h right = (more, h.1, (h.0, right))

-- ---- steps

module _ (steps : WrittenSteps) where
  not_memory : (fault : CertFault) (lines : List ℕ) → (fault ≡ cert.Memory → ⊥) → UnlessMemory cert.Memory (IsCertRead steps.formula lines) (Err fault) → IsCertRead steps.formula lines (Err fault)
  not_memory fault lines other (inl h) = h
  not_memory fault lines other (inr e) = absurd (other e)

  module _ (limit : ℕ) (source : Passage) where
    fault_in : (fault : CertFault) (a : Answer) → (fault ≡ cert.Memory → ⊥) → cert_told fault ≡ Ok a → source.faults ≤ source.faults_after
        → AnswersWhole steps.formula steps.lines.now limit source (Err fault) → AnswersLeft (IsStepsReply steps) limit source (Ok a)
    fault_in fault a other e count h =
        (h.0, record { read = (h.1, h.2); count = count }, (Err fault, not_memory fault (steps.lines.now ++ h.0) other h.3.right, sym e))

    -- the answer to steps that are read to the end of the source
    pub steps_left : (judged : Result (Unit {0}) CertFault) → ChecksLog steps.formula steps.lines.now limit source judged → AnswersLeft (IsStepsReply steps) limit source (judged_answer steps.accepted judged)
    steps_left (Ok done) h = (h.checked.0, record { read = (h.checked.1, h.checked.2); count = h.count }, (Ok done, h.checked.3.right, refl))
    steps_left (Err (cert.CertLine k)) h = fault_in (cert.CertLine k) (answer.Brief (brief.CertLine k)) (λ e. cc) refl h.count h.checked
    steps_left (Err (cert.BadStep k cause)) h = fault_in (cert.BadStep k cause) (answer.Brief (brief.BadStep k cause)) (λ e. cc) refl h.count h.checked
    steps_left (Err cert.NoVerdict) h = fault_in cert.NoVerdict (answer.Brief brief.NoVerdict) (λ e. cc) refl h.count h.checked
    steps_left (Err (cert.CertWide k row column)) h = fault_in (cert.CertWide k row column) (answer.Brief (brief.CertWide k row column)) (λ e. cc) refl h.count h.checked
    steps_left (Err cert.ReadFault) h = record { read = h.checked; count = h.count }
    steps_left (Err cert.TooLong) h = record { read = h.checked; count = h.count }
    steps_left (Err cert.Memory) h = record { read = h.checked; count = h.count }

-- ---- a source of nothing that never fails

module _ (Right : List ℕ → Reply → Type 0) (source : Passage) (none : source.before ≡ Some []) (before : source.faults ≡ 0) (after : source.faults_after ≡ 0) where
  never_rose : HasFault source → ⊥
  never_rose rose = let a = rose.risen in absurd (omega (arith, a, before, after))

  -- the answer to all that it had is that to nothing
  pub none_right : (result : Result Answer ReadAll) → AnswersLeft Right 0 source result → IfOk result (λ a. Right [] (Ok a))
  none_right (Ok a) h = subst (λ bytes. Right bytes (Ok a)) (all_told source [] h.0 none h.1.read.0) h.2
  none_right (Err fault) h = tt

  -- and there is none only where memory ran out
  pub none_wrong : (result : Result Answer ReadAll) → AnswersLeft Right 0 source result → IfErr result (λ fault. fault ≡ Memory)
  none_wrong (Ok a) h = tt
  none_wrong (Err ReadFault) h = absurd (never_rose h.read.0)
  none_wrong (Err TooLong) h = absurd (let more = takes_told source [] 1 none h.read in omega (arith, more))
  none_wrong (Err Memory) h = refl

-- ---- what is known

-- an answer that is known is that to whatever may follow, which is read
pub known_left : (ended : Bool) (a : Answer) (limit : ℕ) (source : Passage) (drained : Result (Unit {0}) ReadAll) → DrainsRest ended limit source drained
    → AnswersRest ended (λ more reply. reply ≡ Ok a) limit source (result_and drained (Ok a))
known_left ended a limit source (Ok done) (more, h) = (more, h.1, (h.0, refl))
known_left ended a limit source (Err fault) (more, h) = h

-- what may follow, where the input goes on
pub drained : (ended : Bool) (limit : ℕ) (source : Passage) (result : Result (Unit {0}) ReadAll) → ended ≡ false → Drains limit source result → DrainsRest ended limit source result
drained ended limit source (Ok done) goes h = (h.0, (goes_on ended h.0 goes, h.1))
drained ended limit source (Err fault) goes h = (h.0, h.1)

-- and is kept
pub kept : (ended : Bool) (limit : ℕ) (source : Passage) (result : Result (List ℕ) ReadAll) → ended ≡ false → ReadsAll limit source result → ReadsRest ended limit source result
kept ended limit source (Ok more) goes h = (goes_on ended more goes, h)
kept ended limit source (Err fault) goes h = h

-- ---- commands

-- what is right of all that a source has left is what `check` answers to the source
pub check_answered : (p : Property) (source : Passage) (result : Result Answer ReadAll) → AnswersLeft (IsClaimed (claim.Flow p)) MOST_CHECKED source result
    → IsAnswered (Check p) source result
check_answered p source (Ok a) h = h
check_answered p source (Err fault) h = h

-- and what `check-layout` answers to it
pub layout_answered : (rect : Rect) (tier : Option Tier) (source : Passage) (result : Result Answer ReadAll) → AnswersLeft (IsClaimed (claim.NoLayout rect tier)) MOST_CHECKED source result
    → IsAnswered (CheckLayout rect tier) source result
layout_answered rect tier source (Ok a) h = h
layout_answered rect tier source (Err fault) h = h

-- and what `check-same` answers to it
pub same_answered : (source : Passage) (result : Result Answer ReadAll) → AnswersLeft (IsClaimed claim.Same) MOST_CHECKED source result
    → IsAnswered CheckSame source result
same_answered source (Ok a) h = h
same_answered source (Err fault) h = h
