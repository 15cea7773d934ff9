-- The statuses and the texts of answers.
use Rattle.std.specs.Prelude.{ℕ, Bool, if◌then◌else◌, List, [], ◌++◌, length, codes, decimal}
use Rattle.bt_net.specs.NetText.{line, net_text}
use Rattle.bt_net.specs.Network.{Network}
use Rattle.bt_cert.specs.declared.fault.Cause.{Cause}
use Rattle.bt_cert.specs.declared.fault.Cause.TheVariants.{Literal, Weight, Sum, Hint, Unit}
use Rattle.bt_flow.specs.declared.property.Property.{Property}
use Rattle.bt_flow.specs.Names.{property_name, test_name}
use Rattle.bt_flow.specs.StateText.{printed_state}
use Rattle.bt_same.specs.PairText.{printed_pair}
use Rattle.bt_log.specs.Logs.{Step}
use Rattle.bt_log.specs.LogText.{log_text}
use Rattle.bt_theory.specs.declared.outcome.GaveUp as gave
use Rattle.bt_theory.specs.declared.outcome.GaveUp.TheVariants.{Spent, Pivots, Wide}
use Rattle.bt_same.specs.declared.pair.Which.{Which}
use Rattle.bt_same.specs.declared.pair.Which.TheVariants.{First, Second, Kept}
use Rattle.bt_grids.specs.declared.outcome.Smallest as smallest
use Rattle.bt_grids.specs.declared.outcome.Smallest.TheVariants.{Found, Nowhere as NoGrid, Spent as SpentOn}
use Rattle.bt_grids.specs.declared.outcome.Small.{Small as ASmall}
use Rattle.bt_grids.specs.declared.outcome.Small.TheVariants as small
use Rattle.bt_grids.specs.SmallestText.{small_text, smallest_text}
pub use Rattle.bt_grids.specs.SmallestText.{none_word, nowhere_text}
use Rattle.bt_print.specs.Legends.{flow_formula_text, place_formula_text}
use Rattle.bt_print.specs.TraceText.{pivots_text, wide_text}
use Rattle.bt_entities.specs.Written.{blueprint_text}
use Rattle.bt_words.specs.declared.command.NetworkFamily.{NetworkFamily}
use Rattle.bt_words.specs.declared.command.NetworkFamily.TheVariants.{Butterfly, Chain}
use Rattle.bt_words.specs.declared.command.BuiltText.{BuiltText}
use Rattle.bt_words.specs.declared.command.BuiltText.TheVariants as built
use Rattle.bt_print.specs.NetTexts.{text_with}
use Rattle.bt_print.specs.declared.made.Made as making
use Rattle.bt_extend.specs.Texts.{definitions_text}
use Rattle.bt_extend.specs.declared.definition.Definition.{Definition}
use Rattle.bt_print.specs.declared.answer.Answer.{Answer}
use Rattle.bt_print.specs.declared.answer.Answer.TheVariants.{Brief, Usage, TooLong, Recovered, Proved, Broken, GaveUp, Undecided, Made, LaidOut, Nowhere, NotFound, Least, Small, FlowFormula, PlaceFormula, Same, Differ, Built}
use Rattle.bt_print.specs.declared.answer.Brief as short
use Rattle.bt_print.specs.declared.answer.Brief.TheVariants.{Breaks, Yes, No, NoLayout, ShownSame, ShownDiffer, Refused, WideState, WidePair, CertLine, BadStep, NoVerdict, CertWide, NotBreaking, NotDiffering}
use Rattle.bt_designs.specs.Refusals.{refusal_text}

-- the status of a network that was made: 0 where it is balanced, and 1 where it isn't
abbrev pub made_status : making.Made → ℕ
made_status made = if made.balanced then 0 else 1

-- the status where a search was given up
abbrev pub gave_up_status : gave.GaveUp → ℕ
gave_up_status (Spent log) = 4
gave_up_status (Wide wide) = 5
gave_up_status (Pivots trace) = 10

-- the status of a search for the least grid: 0 where there is one, 1 where there is none, 4 where it was given up
abbrev pub least_status : smallest.Smallest → ℕ
least_status (Found earlier grid parts) = 0
least_status (NoGrid earlier) = 1
least_status (SpentOn earlier grid log) = 4

-- the status of a search for small grids: 0 where one is found, else 4
abbrev pub small_status : ASmall → ℕ
small_status (small.Found grid parts) = 0
small_status (small.Spent steps) = 4

-- the status of an answer that is said in one line
abbrev pub brief_status : short.Brief → ℕ
brief_status (Breaks p) = 0
brief_status (Yes p) = 0
brief_status (No p) = 1
brief_status NoLayout = 1
brief_status ShownSame = 0
brief_status ShownDiffer = 1
brief_status (Refused r) = 3
brief_status (WideState t a) = 5
brief_status (WidePair which t a) = 5
brief_status (CertLine k) = 9
brief_status (BadStep k cause) = 9
brief_status NoVerdict = 9
brief_status (CertWide k row column) = 9
brief_status (NotBreaking t a) = 9
brief_status (NotDiffering which t a) = 9

-- the status of an answer
abbrev pub status_of : Answer → ℕ
status_of (Brief b) = brief_status b
status_of Usage = 2
status_of TooLong = 11
status_of (Recovered n) = 0
status_of (Proved p definitions log) = 0
status_of (Broken p state) = 1
status_of (GaveUp cause) = gave_up_status cause
status_of (Undecided definitions cause) = gave_up_status cause
status_of (Made made) = made_status made
status_of (LaidOut parts priorities) = 0
status_of (Nowhere log) = 1
status_of NotFound = 12
status_of (Least first found priorities) = least_status found
status_of (Small found priorities) = small_status found
status_of (FlowFormula columns f) = 0
status_of (PlaceFormula starts f) = 0
status_of (Same definitions log) = 0
status_of (Differ pair) = 1
status_of (Built n text) = 0

-- the word for why a step isn't valid
abbrev pub cause_name : Cause → List ℕ
cause_name Literal = codes "literal"
cause_name Weight = codes "weight"
cause_name Sum = codes "sum"
cause_name Hint = codes "hint"
cause_name Unit = codes "unit"

-- the word for a kind of network
abbrev pub family_name : NetworkFamily → List ℕ
family_name Butterfly = codes "butterfly"
family_name Chain = codes "chain"

-- the word for whether a network is balanced
abbrev pub balance_word : Bool → List ℕ
balance_word balanced = if balanced then codes "yes" else codes "no"

-- the lines of a network that was made: its kind and order, how many edges and outputs it has, and whether it is
-- balanced
abbrev pub made_text : making.Made → List ℕ
made_text made =
    line (family_name made.family ++ codes " " ++ decimal made.order) ++ line (codes "edges " ++ decimal made.edges)
    ++ line (codes "outputs " ++ decimal made.outputs) ++ line (balance_word made.balanced ++ codes " balanced")

-- the lines of definitions, and the steps of a log
abbrev pub extended_log_text : List Definition → List Step → List ℕ
extended_log_text definitions steps = definitions_text definitions ++ log_text steps

-- the yes certificate for a property: `yes` and its name, the definitions, and the steps of the log
abbrev pub proved_text : Property → List Definition → List Step → List ℕ
proved_text p definitions steps = line (codes "yes " ++ property_name p) ++ extended_log_text definitions steps

-- the certificate that two networks behave the same: `same`, the definitions, and the steps of the log
abbrev pub same_text : List Definition → List Step → List ℕ
same_text definitions steps = line (codes "same") ++ extended_log_text definitions steps

-- the text of a log that is used up: `spent` and the number of its steps, the definitions, and the steps
abbrev pub spent_text : List Definition → List Step → List ℕ
spent_text definitions steps = line (codes "spent " ++ decimal (length steps)) ++ extended_log_text definitions steps

-- the text where a search was given up
abbrev pub gave_up_text : List Definition → gave.GaveUp → List ℕ
gave_up_text definitions (Spent log) = spent_text definitions log.steps
gave_up_text definitions (Wide wide) = wide_text wide
gave_up_text definitions (Pivots trace) = pivots_text trace

-- the word for what of a pair a test is of, and a space; of both states together there is none
abbrev pub which_text : Which → List ℕ
which_text First = codes "first "
which_text Second = codes "second "
which_text Kept = []

-- the line of an answer that is said in one
abbrev pub brief_text : short.Brief → List ℕ
brief_text (Breaks p) = line (codes "breaks " ++ property_name p)
brief_text (Yes p) = line (codes "yes " ++ property_name p)
brief_text (No p) = line (codes "no " ++ property_name p)
brief_text NoLayout = line none_word
brief_text ShownSame = line (codes "same")
brief_text ShownDiffer = line (codes "differ")
brief_text (Refused r) = line (codes "refused " ++ refusal_text r)
brief_text (WideState t a) = line (codes "wide state " ++ test_name t ++ codes " " ++ decimal a)
brief_text (WidePair which t a) = line (codes "wide " ++ which_text which ++ test_name t ++ codes " " ++ decimal a)
brief_text (CertLine k) = line (codes "refused 50 CertLine " ++ decimal k)
brief_text (BadStep k cause) = line (codes "refused 51 BadStep " ++ decimal k ++ codes " " ++ cause_name cause)
brief_text NoVerdict = line (codes "refused 52 NoVerdict")
brief_text (CertWide k row column) = line (codes "refused 53 CertWide " ++ decimal k ++ codes " " ++ decimal row ++ codes " " ++ decimal column)
brief_text (NotBreaking t a) = line (codes "refused 54 NotBreaking " ++ test_name t ++ codes " " ++ decimal a)
brief_text (NotDiffering which t a) = line (codes "refused 54 NotBreaking " ++ which_text which ++ test_name t ++ codes " " ++ decimal a)

-- the lines by which a layout of a network has its inputs side by side in the south, and its outputs in the north
abbrev pub row_lines : List ℕ
row_lines = line (codes "side inputs south") ++ line (codes "side outputs north") ++ line (codes "row inputs") ++ line (codes "row outputs")

-- the text of a network that is built, which may be a request for a layout
abbrev pub built_text : BuiltText → Network → List ℕ
built_text built.Network n = net_text n
built_text built.Request n = text_with n row_lines

-- the text of an answer
abbrev pub text_of : Answer → List ℕ
text_of (Brief b) = brief_text b
text_of Usage = line (codes "usage")
text_of TooLong = line (codes "too long")
text_of (Recovered n) = net_text n
text_of (Proved p definitions log) = proved_text p definitions.items log.steps
text_of (Broken p state) = printed_state p state
text_of (GaveUp cause) = gave_up_text [] cause
text_of (Undecided definitions cause) = gave_up_text definitions.items cause
text_of (Made made) = made_text made
text_of (LaidOut parts priorities) = blueprint_text parts.items priorities.items
text_of (Nowhere log) = nowhere_text log.steps
text_of NotFound = line (codes "not found")
text_of (Least first found priorities) = smallest_text first found priorities.items
text_of (Small found priorities) = small_text found priorities.items
text_of (FlowFormula columns f) = flow_formula_text columns f
text_of (PlaceFormula starts f) = place_formula_text starts f
text_of (Same definitions log) = same_text definitions.items log.steps
text_of (Differ pair) = printed_pair pair
text_of (Built n text) = built_text text n
