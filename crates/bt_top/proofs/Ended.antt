-- How the program ends, from what it answered and what it told the sink.
use Rattle.std.proofs.Common.{◌≡◌, ◌≢◌, ℕ, List, Result, Ok, Err, ◌⊎◌, inl, inr, refl, subst}
use Rattle.bt_io.specs.Passages.{Passage}
use Rattle.bt_io.specs.declared.fault.ReadAll.{ReadAll}
use Rattle.bt_io.specs.declared.fault.ReadAll.TheVariants.{ReadFault, TooLong, Memory}
use Rattle.bt_words.specs.declared.command.Command.{Command}
use Rattle.bt_words.specs.Commands.{IsCommand}
use Rattle.bt_words.proofs.OneCommand.{same_command}
use Rattle.bt_print.specs.declared.answer.Answer.{Answer}
use Rattle.bt_print.specs.declared.answer.Answer.TheVariants as answer
use Rattle.bt_top.specs.declared.program.TheConstants.{READ_FAULT, NO_MEMORY}
use Rattle.bt_top.specs.Answering.{IsRightTo, IsOnly}
use Rattle.bt_top.specs.Inputs.{IsUntouched, IsInput, ReadsInput}
use Rattle.bt_top.specs.Endings.{IsRight, no_command, too_long, to_bytes, IsTold, IsEnding, told, read_fault, no_memory, Ends}
use Rattle.bt_print.specs.Lines.{NeedsMemory}
use Rattle.bt_top.specs.inner.Telling.{IsAnswered, IsAnsweredTo, IsToldUnlessMemory}
use Rattle.bt_top.proofs.InputsTold.{read_before, input_told, not_too_long}
use Rattle.bt_top.proofs.OneAnswer.{only_right}

-- what a command answered is answered to its words
pub to_words : (words : List (List ℕ)) (command : Command) (source : Passage) (r : Result Answer ReadAll) → IsCommand command words
    → IsAnswered command source r → IsAnsweredTo words source r
to_words words command source (Ok a) w h = to_bytes command h.0 w h.1 h.2
to_words words command source (Err fault) w h = (command, w, h)

-- what has to be formed is not of the two texts that need no memory
pub needs_other : (a : Answer) → NeedsMemory a → (a ≢ answer.Usage) × (a ≢ answer.TooLong)
needs_other a needs = (λ e. subst NeedsMemory e needs, λ e. subst NeedsMemory e needs)

-- the right answer is told, unless memory ran out
pub ends_told : (words : List (List ℕ)) (source sink : Passage) (status : ℕ) (a : Answer) → IsRight words source a
    → IsToldUnlessMemory a sink status → IsEnding words source sink status
ends_told words source sink status a h (inl t) = told a h t
ends_told words source sink status a (no_command u k e) (inr m) = absurd (m.2 e)
ends_told words source sink status a (too_long c w r e) (inr m) = absurd (m.3 e)
ends_told words source sink status a (to_bytes c bytes w r k) (inr m) = no_memory c w (read_before c source bytes r) m.1 m.0

-- what is answered to the words is right of the command's whole input, where that is told
right_to_input : (words : List (List ℕ)) (source : Passage) (a : Answer) (c : Command) (bytes : List ℕ) → IsCommand c words
    → IsInput c source bytes → IsRight words source a → IsRightTo c bytes (Ok a)
right_to_input words source a c bytes w is (no_command u k e) = absurd (u c w)
right_to_input words source a c bytes w is (too_long d v r e) =
    absurd (not_too_long d source bytes (subst (λ x. IsInput x source bytes) (same_command c d words w v) is) r)
right_to_input words source a c bytes w is (to_bytes d all v r k) =
    let same = same_command d c words v w in
    subst (λ x. IsRightTo c x (Ok a)) (input_told c source bytes all is (subst (λ x. ReadsInput x source (Ok all)) same r)) (subst (λ x. IsRightTo x all (Ok a)) same k)

-- however it ends, a right answer to what the source tells is told, and of a command that has one that one
pub ends : (words : List (List ℕ)) (source sink : Passage) (status : ℕ) → IsEnding words source sink status → Ends words source sink status
ends words source sink status ending = record {
  ending = ending;
  complete = λ c bytes w is. complete ending c bytes w is;
  only = λ c bytes b w is once h. only ending c bytes b w is once h;
}
  where
    complete : IsEnding words source sink status → (c : Command) (bytes : List ℕ) → IsCommand c words → IsInput c source bytes
        → ((a : Answer) × IsRightTo c bytes (Ok a) × IsTold a sink status) ⊎ (status ≡ READ_FAULT) ⊎ (status ≡ NO_MEMORY)
    complete (told a right t) c bytes w is = inl (a, right_to_input words source a c bytes w is right, t)
    complete (read_fault d v r u s) c bytes w is = inr (inl s)
    complete (no_memory d v r u s) c bytes w is = inr (inr s)

    only : IsEnding words source sink status → (c : Command) (bytes : List ℕ) (b : Answer) → IsCommand c words → IsInput c source bytes
        → IsOnly c b → IsRightTo c bytes (Ok b) → IsTold b sink status ⊎ (status ≡ READ_FAULT) ⊎ (status ≡ NO_MEMORY)
    only (told a right t) c bytes b w is once h =
        let same = only_right c bytes a b once (right_to_input words source a c bytes w is right) h in
        inl (subst (λ x. IsTold x sink status) same t)
    only (read_fault d v r u s) c bytes b w is once h = inr (inl s)
    only (no_memory d v r u s) c bytes b w is once h = inr (inr s)

-- a command that has no answer ends in one of three ways
pub ends_too_long : (words : List (List ℕ)) (source sink : Passage) (status : ℕ) (fault : ReadAll) → IsAnsweredTo words source (Err fault)
    → fault ≡ TooLong → IsToldUnlessMemory answer.TooLong sink status → Ends words source sink status
ends_too_long words source sink status fault (c, w, r) e t =
    ends words source sink status
    (ends_told words source sink status answer.TooLong (too_long c w (subst (λ f. ReadsInput c source (Err f)) e r) refl) t)

pub ends_read_fault : (words : List (List ℕ)) (source sink : Passage) (fault : ReadAll) → IsAnsweredTo words source (Err fault)
    → fault ≡ ReadFault → IsUntouched sink → Ends words source sink READ_FAULT
ends_read_fault words source sink fault (c, w, r) e u =
    ends words source sink READ_FAULT (read_fault c w (subst (λ f. ReadsInput c source (Err f)) e r) u refl)

pub ends_no_memory : (words : List (List ℕ)) (source sink : Passage) (fault : ReadAll) → IsAnsweredTo words source (Err fault)
    → fault ≡ Memory → IsUntouched sink → Ends words source sink NO_MEMORY
ends_no_memory words source sink fault (c, w, r) e u =
    ends words source sink NO_MEMORY (no_memory c w (subst (λ f. ReadsInput c source (Err f)) e r) u refl)
