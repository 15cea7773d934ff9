use Rattle.std.proofs.Common.{◌≡◌, All, length}
use Rattle.bt_decide.proofs.guessing.guesses_of_both.Given as goal

abbrev pub invariant-loop-found : goal.invariant-loop-found
invariant-loop-found l = All (λ guess. length guess.items ≡ l.formula.vars) l.guesses.items
