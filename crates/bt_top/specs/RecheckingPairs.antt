-- What `check-same` answers to what `same` wrote.
use Rattle.std.specs.Prelude.{◌≡◌, ◌⊎◌, ℕ, ◌≤◌, List, Vec, length, Ok}
use Rattle.bt_flow.specs.declared.judgement.Test.{Test}
use Rattle.bt_log.specs.declared.log.Log.{Log}
use Rattle.bt_same.specs.declared.pair.Pair.{Pair}
use Rattle.bt_same.specs.declared.pair.Which.{Which}
use Rattle.std.specs.declared.alloc.Global.{Global}
use Rattle.bt_cnf.specs.declared.limits.Limits.{Limits}
use Rattle.bt_extend.specs.declared.definition.Definition.{Definition}
use Rattle.bt_print.specs.declared.answer.Answer.TheVariants.{Brief, Same, Differ}
use Rattle.bt_print.specs.declared.answer.Brief.TheVariants.{ShownSame, ShownDiffer, WidePair}
use Rattle.bt_designs.specs.declared.held.TheConstants.{MOST_CHECKED}
use Rattle.bt_top.specs.Comparing.{IsComparedFrom}
use Rattle.bt_top.specs.Rechecking.{followed_by}
use Rattle.bt_print.specs.Replies.{Reply}
use Rattle.bt_top.specs.SameCertificates.{IsSameCertified}

-- where `same` proves that two networks behave the same, and the designs and the proof aren't more than `check-same`
-- reads, it is right for `check-same` to say so
abbrev pub SameIsChecked : Type 0
SameIsChecked = (limits : Limits) (bytes : List ℕ) (definitions : Vec Definition Global) (log : Log) → IsComparedFrom limits bytes (Ok (Same definitions log))
    → length (followed_by bytes (Same definitions log)) ≤ MOST_CHECKED
    → IsSameCertified (followed_by bytes (Same definitions log)) (Ok (Brief ShownSame))

-- where `same` finds a pair that shows a difference, what is right for `check-same` to say to the designs and that pair
-- is that they differ, or that a sum leaves 128 bits
abbrev pub DifferenceIsChecked : Type 0
DifferenceIsChecked = (limits : Limits) (bytes : List ℕ) (pair : Pair) (reply : Reply) → IsComparedFrom limits bytes (Ok (Differ pair))
    → IsSameCertified (followed_by bytes (Differ pair)) reply
    → (reply ≡ Ok (Brief ShownDiffer)) ⊎ ((which : Which) × (test : Test) × (place : ℕ) × (reply ≡ Ok (Brief (WidePair which test place))))
