-- Step lines: how a step is written.
use Rattle.std.specs.Prelude.{ℕ, ◌-◌, List, ◌++◌, All, map, codes}
use Rattle.std.specs.Fmt.{decimal}
use Rattle.bt_frac.specs.Ratio.{Ratio, IsLowest}
use Rattle.bt_frac.specs.Texts.{frac_text}
use Rattle.bt_cnf.specs.declared.literal.Lit.{Lit}
use Rattle.bt_log.specs.Logs.{Step, clause_of}
use Rattle.bt_log.specs.Logs as log
use Rattle.bt_log.specs.LogText.{words}
use Rattle.bt_extend.specs.Words.{IsNumber, IsWrittenLit, written_lit_text}
use Rattle.bt_extend.specs.declared.written.WrittenLit.{WrittenLit}

-- a lemma has literals and weights; a learnt clause has literals and hints, the numbers of clauses from 1 on
pub data WrittenStep : Type 0 where
  Lemma : List WrittenLit → List Ratio → WrittenStep
  Learnt : List WrittenLit → List ℕ → WrittenStep

-- the step may be written: its numbers are such, and its weights are in lowest terms
abbrev pub IsWritten : WrittenStep → Type 0
IsWritten (Lemma lits weights) = All IsWrittenLit lits × All IsLowest weights
IsWritten (Learnt lits hints) = All IsWrittenLit lits × All IsNumber hints

-- the line of a written step: `f`, the literals, 0, and the weights; or `r`, the literals, 0, the hints, and 0
abbrev pub written_text : WrittenStep → List ℕ
written_text (Lemma lits weights) = codes "f" ++ words written_lit_text lits ++ codes " 0" ++ words frac_text weights
written_text (Learnt lits hints) = codes "r" ++ words written_lit_text lits ++ codes " 0" ++ words decimal hints ++ codes " 0"

-- the literal that is written: variables are numbered from 1 on in a text, and from 0 on in a formula
abbrev pub lit_of : WrittenLit → Lit
lit_of l = record { var = l.number - 1; positive = l.positive }

-- the step that is written, of which the clauses are numbered from 0 on
abbrev pub step_of : WrittenStep → Step
step_of (Lemma lits weights) = log.Lemma (map lit_of lits) weights
step_of (Learnt lits hints) = log.Learnt (map lit_of lits) (map (λ hint. hint - 1) hints)

-- the clause that a written step adds
abbrev pub written_clause : WrittenStep → List Lit
written_clause written = clause_of (step_of written)
