-- Two steps, of which the second goes on from the value that the first gave. What is refused first of bytes is a stack
-- of
-- such steps, each with a definition of its own:
--   JSON text (`IsRead`), the blueprint (`IsPartsOf`, `IsPrioritisedOf`), two parts on one cell (`IsPlaced`), the
-- layout
--   (`IsRecovered`, `IsRecoveredWith`): together `IsJsonDesign`, and `IsJsonLayout` where no splitter may prefer a
-- side;
--   network text (`IsPlainRead`, `IsNetRead`);
--   what stands behind either (`IsAlone`), and then the request (`IsMade`) or the ends of two designs (`IsPaired`).
-- Of each stack one answer is right (`one_right_answer` of `bt_top`).
use Rattle.std.specs.Prelude.{◌≡◌, Result, Ok, Err}

-- what comes of two steps: the fault of the first, told in this way, or what the second answers to the value of the
-- first
pub data InTurn {A E R : Type 0} (First : Result A E → Type 0) (told : E → R) (Second : A → R → Type 0) (answer : R) : Type 0 where
  -- the first step ends in a fault
  stopped : (fault : E) → First (Err fault) → answer ≡ told fault → InTurn First told Second answer
  -- the first step gives a value, and the second goes on from it
  went_on : (value : A) → First (Ok value) → Second value answer → InTurn First told Second answer
