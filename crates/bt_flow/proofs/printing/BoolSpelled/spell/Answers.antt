use Rattle.std.proofs.Common.{◌≡◌, ℕ, ◌<◌, List, [], ◌∷◌, length, set, take, refl, ◌∙◌, arith}
use Rattle.bt_flow.proofs.printing.BoolSpelled.spell.Goals as goal

first_written : (bytes : List ℕ) (byte : ℕ) → 0 < length bytes → take 1 (set bytes 0 byte) ≡ byte ∷ []
first_written [] byte some = absurd (omega (arith, some))
first_written (x ∷ xs) byte some = refl

pub returns-clause-written : goal.returns-clause-written
returns-clause-written c =
    first_written c.args.buffer.now c.mark.result (omega arith) ∙ c.mark.ensures
