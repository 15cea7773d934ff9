-- The text of a log.
use Rattle.std.specs.Prelude.{ℕ, ◌+◌, List, [], ◌∷◌, ◌++◌, codes, cond}
use Rattle.std.specs.Fmt.{decimal}
use Rattle.std.specs.List.{flat_map}
use Rattle.bt_frac.specs.Texts.{frac_text}
use Rattle.bt_cnf.specs.declared.literal.Lit.{Lit}
use Rattle.bt_log.specs.Logs.{Step, Lemma, Learnt}

-- the word of each item, with a space in front
abbrev pub words : {X : Type 0} → (X → List ℕ) → List X → List ℕ
words text items = flat_map (λ item. 32 ∷ text item) items

-- a literal: the number of its variable, from 1 on, with a minus where it is negative
abbrev pub lit_text : Lit → List ℕ
lit_text l = cond l.positive (decimal (l.var + 1)) (45 ∷ decimal (l.var + 1))

-- a hint: the number of a clause, from 1 on
abbrev pub hint_text : ℕ → List ℕ
hint_text hint = decimal (hint + 1)

-- the line of a step: `f`, the literals, 0, and the weights; or `r`, the literals, 0, the hints, and 0
abbrev pub step_text : Step → List ℕ
step_text (Lemma lits weights) = codes "f" ++ words lit_text lits ++ codes " 0" ++ words frac_text weights
step_text (Learnt lits hints) = codes "r" ++ words lit_text lits ++ codes " 0" ++ words hint_text hints ++ codes " 0"

-- the line of a step
abbrev pub step_line : Step → List ℕ
step_line step = step_text step ++ 10 ∷ []

-- the lines of all steps, and `end`
abbrev pub log_text : List Step → List ℕ
log_text steps = flat_map step_line steps ++ codes "end\n"
