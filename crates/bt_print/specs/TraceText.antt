-- The texts of traces, and of where a check met numbers that leave 128 bits.
use Rattle.std.specs.Prelude.{ℕ, List, ◌∷◌, ◌++◌, codes, decimal, length}
use Rattle.std.specs.List.{flat_map}
use Rattle.bt_text.specs.Lines.{line}
use Rattle.bt_frac.specs.Texts.{frac_text}
use Rattle.bt_pivot.specs.declared.basis.Pivot.{Pivot}
use Rattle.bt_simplex.specs.declared.answers.PivotTrace.{PivotTrace}
use Rattle.bt_simplex.specs.declared.answers.Wide.{Wide}
use Rattle.bt_pivot.specs.declared.causes.WidePlace.{WidePlace}
use Rattle.bt_pivot.specs.declared.causes.WidePlace.TheVariants.{Entry, Value, Settle, Lemma}
use Rattle.bt_linear_forms.specs.declared.unfit.Operation.{Operation}
use Rattle.bt_linear_forms.specs.declared.unfit.Operation.TheVariants.{Add, Mul, Div}

-- a number with a space in front
abbrev pub number_text : ℕ → List ℕ
number_text n = 32 ∷ decimal n

-- numbers, each with a space in front
abbrev pub numbers_text : List ℕ → List ℕ
numbers_text numbers = flat_map number_text numbers

-- the line of a pivot: `turn`, and the positions that leave and enter
abbrev pub pivot_line : Pivot → List ℕ
pivot_line step = line (codes "turn " ++ decimal step.leaves ++ codes " " ++ decimal step.enters)

-- a line for each pivot
abbrev pub pivot_lines : List Pivot → List ℕ
pivot_lines steps = flat_map pivot_line steps

-- the lines of a trace: `start` and the positions of the first basis, `bound` and the bound rows, and its pivots
abbrev pub trace_text : PivotTrace → List ℕ
trace_text trace =
    line (codes "start" ++ numbers_text trace.start.items) ++ line (codes "bound" ++ numbers_text trace.bound.items) ++ pivot_lines trace.steps.items

-- the text of a trace whose pivots are as many as they may be: `pivots` and their number, the trace, and `end`
abbrev pub pivots_text : PivotTrace → List ℕ
pivots_text trace = line (codes "pivots " ++ decimal (length trace.steps.items)) ++ trace_text trace ++ line (codes "end")

-- the word for what a check forms numbers for
abbrev pub place_name : WidePlace → List ℕ
place_name Entry = codes "entry"
place_name Value = codes "value"
place_name Settle = codes "settle"
place_name Lemma = codes "lemma"

-- the word for an operation
abbrev pub operation_name : Operation → List ℕ
operation_name Add = codes "add"
operation_name Mul = codes "mul"
operation_name Div = codes "div"

-- the first line of numbers that leave 128 bits: `wide`, what they are for, a row and a column
abbrev pub wide_head : Wide → List ℕ
wide_head wide = line (codes "wide " ++ place_name wide.place ++ codes " " ++ decimal wide.row ++ codes " " ++ decimal wide.column)

-- the last lines of an operation and two numbers: `numbers` and these, and `end`
abbrev pub numbers_and_end : List ℕ → List ℕ → List ℕ → List ℕ
numbers_and_end operation left right = line (codes "numbers " ++ operation ++ codes " " ++ left ++ codes " " ++ right) ++ line (codes "end")

-- those of the operation whose result leaves 128 bits
abbrev pub wide_end : Wide → List ℕ
wide_end wide = numbers_and_end (operation_name wide.operation) (frac_text wide.left) (frac_text wide.right)

-- the text of where a check met numbers that leave 128 bits
abbrev pub wide_text : Wide → List ℕ
wide_text wide = wide_head wide ++ trace_text wide.trace ++ wide_end wide
