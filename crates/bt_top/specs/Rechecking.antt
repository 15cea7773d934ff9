-- What `check` answers to what `decide` wrote.
use Rattle.std.specs.Prelude.{◌≡◌, ◌⊎◌, ℕ, ◌≤◌, List, ◌∷◌, ◌++◌, Vec, length, Ok}
use Rattle.bt_flow.specs.declared.property.Property.{Property}
use Rattle.bt_flow.specs.declared.judgement.Test.{Test}
use Rattle.bt_flow.specs.States.{Fractions}
use Rattle.bt_log.specs.declared.log.Log.{Log}
use Rattle.bt_extend.specs.declared.definition.Definition.{Definition}
use Rattle.std.specs.declared.alloc.Global.{Global}
use Rattle.bt_cnf.specs.declared.limits.Limits.{Limits}
use Rattle.bt_print.specs.declared.answer.Answer.{Answer}
use Rattle.bt_print.specs.declared.answer.Answer.TheVariants.{Brief, Proved, Broken}
use Rattle.bt_print.specs.declared.answer.Brief.TheVariants.{Yes, No, WideState}
use Rattle.bt_designs.specs.declared.held.TheConstants.{MOST_CHECKED}
use Rattle.bt_print.specs.Answers.{text_of}
use Rattle.bt_top.specs.Certificates.{IsChecked}
use Rattle.bt_top.specs.Deciding.{IsDecidedFrom}
use Rattle.bt_print.specs.Replies.{Reply}

-- a design, a line feed, and what was written of it
abbrev pub followed_by : List ℕ → Answer → List ℕ
followed_by bytes answer = bytes ++ 10 ∷ text_of answer

-- where `decide` proves a property, and the design and the proof aren't more than `check` reads, it is right for
-- `check` to say yes to them
abbrev pub ProofIsChecked : Type 0
ProofIsChecked = (p : Property) (limits : Limits) (bytes : List ℕ) (definitions : Vec Definition Global) (log : Log) → IsDecidedFrom p limits bytes (Ok (Proved p definitions log))
    → length (followed_by bytes (Proved p definitions log)) ≤ MOST_CHECKED
    → IsChecked p (followed_by bytes (Proved p definitions log)) (Ok (Brief (Yes p)))

-- where `decide` finds a state that breaks it, what is right for `check` to say to the design and that state is no, or
-- that a sum leaves 128 bits
abbrev pub StateIsChecked : Type 0
StateIsChecked = (p : Property) (limits : Limits) (bytes : List ℕ) (state : Fractions) (reply : Reply) → IsDecidedFrom p limits bytes (Ok (Broken p state))
    → IsChecked p (followed_by bytes (Broken p state)) reply
    → (reply ≡ Ok (Brief (No p))) ⊎ ((test : Test) × (place : ℕ) × (reply ≡ Ok (Brief (WideState test place))))
