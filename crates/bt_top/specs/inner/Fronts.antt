-- Fronts of an input: what they tell of the answer to it, whatever may follow.
use Rattle.std.specs.Prelude.{◌≡◌, ℕ, Bool, false, List, ◌++◌, All, Option, Result, Ok, Err, IfOk, MatchOption, length}
use Rattle.std.specs.declared.alloc.AllocError.{AllocError}
use Rattle.bt_text.specs.Answers.{seen}
use Rattle.bt_text.specs.Blanks.{IsBlank}
use Rattle.bt_io.specs.Bytes.{ReadsAll}
use Rattle.bt_io.specs.Passages.{Passage}
use Rattle.bt_io.specs.declared.fault.ReadAll.{ReadAll}
use Rattle.bt_cert.specs.Certificates.{IsCertRead}
use Rattle.bt_cert.specs.declared.fault.CertFault.{CertFault}
use Rattle.bt_same.specs.Sameness.{HaveEqualEnds}
use Rattle.bt_print.specs.declared.answer.Answer.{Answer}
use Rattle.bt_print.specs.declared.answer.Answer.TheVariants as answer
use Rattle.bt_print.specs.declared.answer.Brief.{Brief}
use Rattle.bt_print.specs.declared.answer.Brief.TheVariants as brief
use Rattle.bt_designs.specs.declared.fault.DesignFault.{DesignFault}
use Rattle.bt_designs.specs.declared.fault.DesignFault.TheVariants as design
use Rattle.bt_top.specs.declared.front.Front.{Front}
use Rattle.bt_top.specs.declared.front.Front.TheVariants as front
use Rattle.bt_top.specs.declared.front.WrittenSteps.{WrittenSteps}
use Rattle.bt_top.specs.declared.front.WrittenPair.{WrittenPair}
use Rattle.bt_top.specs.declared.front.WrittenState.{WrittenState}
use Rattle.bt_designs.specs.declared.held.Held.{Held}
use Rattle.bt_top.specs.Certificates.{cert_told}
use Rattle.bt_print.specs.Replies.{Reply, steps_told}
use Rattle.bt_top.specs.SameCertificates.{IsPairTextJudged}
use Rattle.bt_top.specs.States.{IsStateJudged}
use Rattle.bt_designs.specs.Told.{MayFollow}

-- the front tells the refusal
abbrev pub TellsRefusal : DesignFault → Front → Type 0
TellsRefusal (design.Refused r) f = f ≡ front.Known (brief.Refused r)
TellsRefusal design.Memory f = ⊥

-- ---- what is answered

-- what is answered to steps: what they are accepted with where they refute the formula, or the first line for which
-- they don't
abbrev pub steps_answer : Brief → Result (Unit {0}) CertFault → Reply
steps_answer accepted (Ok done) = Ok (answer.Brief accepted)
steps_answer accepted (Err fault) = cert_told fault

-- what is answered to steps of which these lines were read, and more
abbrev pub IsStepsReply : WrittenSteps → List ℕ → Reply → Type 0
IsStepsReply steps more reply =
    (told : Result (Unit {0}) CertFault) × IsCertRead steps.formula (steps.lines.now ++ more) told × (reply ≡ steps_answer steps.accepted told)

-- what is answered to a written state of which this was read, and more
abbrev pub IsStateReply : WrittenState → List ℕ → Reply → Type 0
IsStateReply w more reply = IsStateJudged w.net w.property (brief.No w.property) (w.text.now ++ more) reply

-- what is answered to a written pair of states of which this was read, and more
abbrev pub IsPairReply : WrittenPair → List ℕ → Reply → Type 0
IsPairReply w more reply = IsPairTextJudged (w.first, w.second) (w.text.now ++ more) reply

-- what is answered where a front was read, and more
abbrev pub IsReply : Front → List ℕ → Reply → Type 0
IsReply (front.Known b) more reply = reply ≡ Ok (answer.Brief b)
IsReply (front.Steps steps) more reply = IsStepsReply steps more reply
IsReply (front.State w) more reply = IsStateReply w more reply
IsReply (front.Pair w) more reply = IsPairReply w more reply

-- a pair is one of networks with equal numbers of ends
abbrev pub IsFit : Front → Type 0
IsFit (front.Pair w) = HaveEqualEnds w.first w.second
IsFit other = Unit {0}

-- whatever may follow these bytes, what the front tells is right of the bytes and of it
abbrev pub IsFrontOf : (List ℕ → Reply → Type 0) → Bool → List ℕ → Front → Type 0
IsFrontOf Right ended bytes f = IsFit f × ((more : List ℕ) (reply : Reply) → MayFollow ended more → IsReply f more reply → Right (bytes ++ more) reply)

-- a front of the bytes; or more has to be read
abbrev pub GivesFront : (List ℕ → Reply → Type 0) → Bool → List ℕ → Result (Option Front) AllocError → Type 0
GivesFront Right ended bytes result = IfOk result (λ o. MatchOption o (ended ≡ false) (λ f. IsFrontOf Right ended bytes f))

-- the same behind the blanks that were dropped
abbrev pub GivesHeldFront : (List ℕ → Reply → Type 0) → Held → Result (Option Front) AllocError → Type 0
GivesHeldFront Right held result = (blanks : List ℕ) → All IsBlank blanks → length blanks ≡ held.skipped → GivesFront Right held.ended (blanks ++ held.bytes.now) result

-- the right answer to all that a source has left, within a limit; or why there is none: the source failed, is too long,
-- or memory ran out
abbrev pub AnswersLeft : (List ℕ → Reply → Type 0) → ℕ → Passage → Result Answer ReadAll → Type 0
AnswersLeft Right limit source (Ok a) = (bytes : List ℕ) × ReadsAll limit source (Ok bytes) × Right bytes (Ok a)
AnswersLeft Right limit source (Err fault) = ReadsAll limit source (Err fault)

-- the same, of what may follow
abbrev pub AnswersRest : Bool → (List ℕ → Reply → Type 0) → ℕ → Passage → Result Answer ReadAll → Type 0
AnswersRest ended Right limit source result = AnswersLeft (λ more reply. MayFollow ended more × Right more reply) limit source result

-- what may follow was read of a source, within a limit
abbrev pub ReadsRest : Bool → ℕ → Passage → Result (List ℕ) ReadAll → Type 0
ReadsRest ended limit source (Ok more) = MayFollow ended more × ReadsAll limit source (Ok more)
ReadsRest ended limit source (Err fault) = ReadsAll limit source (Err fault)

-- and it isn't told
abbrev pub DrainsRest : Bool → ℕ → Passage → Result (Unit {0}) ReadAll → Type 0
DrainsRest ended limit source result = (more : List ℕ) × ReadsRest ended limit source (seen (λ done. more) result)

-- what is answered to steps that were judged so
abbrev pub judged_answer : Brief → Result (Unit {0}) CertFault → Result Answer ReadAll
judged_answer accepted (Ok done) = Ok (answer.Brief accepted)
judged_answer accepted (Err fault) = steps_told fault
