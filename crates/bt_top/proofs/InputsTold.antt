-- What is read of a source that tells its bytes.
use Rattle.std.proofs.Common.{◌≡◌, ℕ, ◌+◌, ◌≤◌, List, length, Ok, Err, Some, sym, ◌∙◌, arith}
use Rattle.bt_io.specs.Bytes.{ReadsAll}
use Rattle.bt_io.specs.Passages.{Passage}
use Rattle.bt_io.specs.declared.fault.ReadAll.TheVariants.{TooLong, Memory}
use Rattle.bt_io.proofs.Told.{all_told, takes_told}
use Rattle.bt_words.specs.declared.command.Command.{Command}
use Rattle.bt_words.specs.declared.command.Command.TheVariants.{FlowCheck, Recover, Check, Decide, Make, Layout, CheckLayout, Smallest, FindSmall, FlowFormula, PlaceFormula, Same, CheckSame, Build}
use Rattle.bt_top.specs.Inputs.{ReadsInput, IsInput, input_limit}

read_before_in : (limit : ℕ) (source : Passage) (bytes : List ℕ) → ReadsAll limit source (Ok bytes) → ReadsAll limit source (Err Memory)
read_before_in limit source bytes h = record { read = (bytes, h.read.0.0, h.read.1); count = h.count }

-- a source that was read to its end gave no more than may be read before memory ran out
pub read_before : (command : Command) (source : Passage) (bytes : List ℕ) → ReadsInput command source (Ok bytes) → ReadsInput command source (Err Memory)
read_before (FlowCheck p) source bytes h = read_before_in (input_limit (FlowCheck p)) source bytes h
read_before Recover source bytes h = read_before_in (input_limit Recover) source bytes h
read_before (Check p) source bytes h = read_before_in (input_limit (Check p)) source bytes h
read_before (Decide p limits) source bytes h = read_before_in (input_limit (Decide p limits)) source bytes h
read_before (Make family order limits) source bytes h = h.0
read_before (Layout rect tier learnt) source bytes h = read_before_in (input_limit (Layout rect tier learnt)) source bytes h
read_before (CheckLayout rect tier) source bytes h = read_before_in (input_limit (CheckLayout rect tier)) source bytes h
read_before (Smallest first most tier learnt) source bytes h = read_before_in (input_limit (Smallest first most tier learnt)) source bytes h
read_before (FindSmall most tier sides learnt) source bytes h = read_before_in (input_limit (FindSmall most tier sides learnt)) source bytes h
read_before (FlowFormula p) source bytes h = read_before_in (input_limit (FlowFormula p)) source bytes h
read_before (PlaceFormula rect tier) source bytes h = read_before_in (input_limit (PlaceFormula rect tier)) source bytes h
read_before (Same limits) source bytes h = read_before_in (input_limit (Same limits)) source bytes h
read_before (Build wish inputs outputs limits text) source bytes h = h.0
read_before CheckSame source bytes h = read_before_in (input_limit CheckSame) source bytes h

told_in : (limit : ℕ) (source : Passage) (bytes all : List ℕ) → source.before ≡ Some bytes → ReadsAll limit source (Ok all) → all ≡ bytes
told_in limit source bytes all is r = all_told source bytes all is r.read.0

-- what was read of a source that tells its bytes is all of them
pub input_told : (command : Command) (source : Passage) (bytes all : List ℕ) → IsInput command source bytes → ReadsInput command source (Ok all) → all ≡ bytes
input_told (FlowCheck p) source bytes all is r = told_in (input_limit (FlowCheck p)) source bytes all is.0 r
input_told Recover source bytes all is r = told_in (input_limit Recover) source bytes all is.0 r
input_told (Check p) source bytes all is r = told_in (input_limit (Check p)) source bytes all is.0 r
input_told (Decide p limits) source bytes all is r = told_in (input_limit (Decide p limits)) source bytes all is.0 r
input_told (Make family order limits) source bytes all is r = r.1 ∙ sym is
input_told (Layout rect tier learnt) source bytes all is r = told_in (input_limit (Layout rect tier learnt)) source bytes all is.0 r
input_told (CheckLayout rect tier) source bytes all is r = told_in (input_limit (CheckLayout rect tier)) source bytes all is.0 r
input_told (Smallest first most tier learnt) source bytes all is r = told_in (input_limit (Smallest first most tier learnt)) source bytes all is.0 r
input_told (FindSmall most tier sides learnt) source bytes all is r = told_in (input_limit (FindSmall most tier sides learnt)) source bytes all is.0 r
input_told (FlowFormula p) source bytes all is r = told_in (input_limit (FlowFormula p)) source bytes all is.0 r
input_told (PlaceFormula rect tier) source bytes all is r = told_in (input_limit (PlaceFormula rect tier)) source bytes all is.0 r
input_told (Same limits) source bytes all is r = told_in (input_limit (Same limits)) source bytes all is.0 r
input_told (Build wish inputs outputs limits text) source bytes all is r = r.1 ∙ sym is
input_told CheckSame source bytes all is r = told_in (input_limit CheckSame) source bytes all is.0 r

few_in : (limit : ℕ) (source : Passage) (bytes : List ℕ) → source.before ≡ Some bytes → length bytes ≤ limit → ReadsAll limit source (Err TooLong) → ⊥
few_in limit source bytes is few r =
    let more : limit + 1 ≤ length bytes = takes_told source bytes (limit + 1) is r.read in omega (arith, few, more)

-- of a source that tells its bytes, within the limit, none is past it
pub not_too_long : (command : Command) (source : Passage) (bytes : List ℕ) → IsInput command source bytes → ReadsInput command source (Err TooLong) → ⊥
not_too_long (FlowCheck p) source bytes is r = few_in (input_limit (FlowCheck p)) source bytes is.0 is.1 r
not_too_long Recover source bytes is r = few_in (input_limit Recover) source bytes is.0 is.1 r
not_too_long (Check p) source bytes is r = few_in (input_limit (Check p)) source bytes is.0 is.1 r
not_too_long (Decide p limits) source bytes is r = few_in (input_limit (Decide p limits)) source bytes is.0 is.1 r
not_too_long (Make family order limits) source bytes is r = r
not_too_long (Layout rect tier learnt) source bytes is r = few_in (input_limit (Layout rect tier learnt)) source bytes is.0 is.1 r
not_too_long (CheckLayout rect tier) source bytes is r = few_in (input_limit (CheckLayout rect tier)) source bytes is.0 is.1 r
not_too_long (Smallest first most tier learnt) source bytes is r = few_in (input_limit (Smallest first most tier learnt)) source bytes is.0 is.1 r
not_too_long (FindSmall most tier sides learnt) source bytes is r = few_in (input_limit (FindSmall most tier sides learnt)) source bytes is.0 is.1 r
not_too_long (FlowFormula p) source bytes is r = few_in (input_limit (FlowFormula p)) source bytes is.0 is.1 r
not_too_long (PlaceFormula rect tier) source bytes is r = few_in (input_limit (PlaceFormula rect tier)) source bytes is.0 is.1 r
not_too_long (Same limits) source bytes is r = few_in (input_limit (Same limits)) source bytes is.0 is.1 r
not_too_long (Build wish inputs outputs limits text) source bytes is r = r
not_too_long CheckSame source bytes is r = few_in (input_limit CheckSame) source bytes is.0 is.1 r
