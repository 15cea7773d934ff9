-- Budgets of steps and of turns that no search uses up.
use Rattle.std.specs.Prelude.{◌≢◌, ◌≤◌, ◌^◌, ℕ, List, Ok}
use Rattle.bt_io.specs.Passages.{Passage}
use Rattle.bt_flow.specs.declared.property.Property.TheVariants.{Balanced}
use Rattle.bt_net.specs.Network.{Network}
use Rattle.bt_cnf.specs.Formulas.{FormulaParts}
use Rattle.bt_extend.specs.Extending.{extended}
use Rattle.bt_extend.specs.declared.definition.Definition.{Definition}
use Rattle.bt_decide.specs.Verdicts.{AreMade, splitters_of_both}
use Rattle.bt_flow_formula.specs.FlowFormula.{flow_formula}
use Rattle.bt_gen.specs.Chain.{chain_net}
use Rattle.bt_same.specs.SameFormula.{same_formula}
use Rattle.bt_simplex.specs.Counting.{most_bases}
use Rattle.bt_theory.specs.Reaching.{atom_rows, columns_of}
use Rattle.bt_model.specs.Requests.{LayoutRequest}
use Rattle.bt_place.specs.PlaceFormula.{place_formula}
use Rattle.bt_parts.specs.declared.part.Rect.{Rect}
use Rattle.bt_grids.specs.Grids.{IsSkipped, IsWithin}
use Rattle.bt_grids.specs.Asked.{request_on}
use Rattle.bt_words.specs.declared.command.Command.{Command}
use Rattle.bt_words.specs.declared.command.Command.TheVariants.{Decide, Make, Layout, Smallest, Same}
use Rattle.bt_words.specs.declared.command.NetworkFamily.TheVariants.{Butterfly, Chain}
use Rattle.bt_words.specs.Commands.{IsCommand}
use Rattle.bt_print.specs.declared.answer.Answer.{Answer}
use Rattle.bt_designs.specs.Alone.{IsLoneNet}
use Rattle.bt_top.specs.Answering.{IsRightTo}
use Rattle.bt_print.specs.Answers.{status_of}
use Rattle.bt_top.specs.Endings.{Ends}
use Rattle.bt_top.specs.Inputs.{IsInput}
use Rattle.bt_designs.specs.Requested.{IsLoneRequest, IsSidedRequest}
use Rattle.bt_designs.specs.TwoDesigns.{IsTwoNets}

-- so many steps may be logged in deciding the formula: 3 ^ v or more, where it has v variables
abbrev pub IsAmple : FormulaParts → ℕ → Type 0
IsAmple f learnt = 3 ^ f.vars ≤ learnt

-- so many steps may be logged in deciding the formula of so many splitters, whatever definitions are made for it
abbrev pub IsAmpleFor : ℕ → FormulaParts → ℕ → Type 0
IsAmpleFor splitters f learnt = (definitions : List Definition) → AreMade splitters f definitions → IsAmple (extended f definitions) learnt

-- the command may log that many steps of the formula that it decides: the flow formula of the design's network or of
-- the chain that is made, or the placement formula of the request, or of the network on each grid that isn't passed by,
-- or the formula of two networks; a butterfly takes none
abbrev pub HasAmple : Command → List ℕ → Type 0
HasAmple (Decide p limits) bytes = (n : Network) × IsLoneNet bytes (Ok n) × IsAmpleFor n.splitters (flow_formula n p) limits.learnt
HasAmple (Make Butterfly order limits) bytes = Unit {0}
HasAmple (Make Chain order limits) bytes = IsAmpleFor (chain_net order).splitters (flow_formula (chain_net order) Balanced) limits.learnt
HasAmple (Layout rect tier learnt) bytes = (r : LayoutRequest) × IsLoneRequest rect tier bytes (Ok r) × IsAmple (place_formula r) learnt
HasAmple (Smallest first most tier learnt) bytes =
    (r : LayoutRequest) × IsSidedRequest most tier bytes (Ok r) × ((grid : Rect) → IsWithin most grid → (IsSkipped first grid → ⊥) → IsAmple (place_formula (request_on r grid)) learnt)
HasAmple (Same limits) bytes =
    (nets : Network × Network) × IsTwoNets bytes (Ok nets) × IsAmpleFor (splitters_of_both nets.0 nets.1) (same_formula nets.0 nets.1) limits.learnt
HasAmple other bytes = ⊥

-- then no answer whose status says that the steps are used up is right
abbrev pub AmpleIsNeverSpent : Type 0
AmpleIsNeverSpent = (command : Command) (bytes : List ℕ) (a : Answer) → HasAmple command bytes → IsRightTo command bytes (Ok a) → status_of a ≢ 4

-- and the program doesn't end with that status, where its source tells the command's input
abbrev pub AmpleNeverEndsSpent : Type 0
AmpleNeverEndsSpent = (words : List (List ℕ)) (source sink : Passage) (status : ℕ) (command : Command) (bytes : List ℕ) → Ends words source sink status
    → IsCommand command words → IsInput command source bytes → HasAmple command bytes → status ≢ 4

-- so many turns may be made for one choice of the formula's rows: as many as there are bases, or more
abbrev pub IsAmpleOfPivots : FormulaParts → ℕ → Type 0
IsAmpleOfPivots f pivots = most_bases (columns_of f) (atom_rows f) ≤ pivots

-- the command may make that many turns of the formula that it decides: the flow formula of the design's network or of
-- the chain that is made, or the formula of two networks; a butterfly takes none
abbrev pub HasAmplePivots : Command → List ℕ → Type 0
HasAmplePivots (Decide p limits) bytes = (n : Network) × IsLoneNet bytes (Ok n) × IsAmpleOfPivots (flow_formula n p) limits.pivots
HasAmplePivots (Make Butterfly order limits) bytes = Unit {0}
HasAmplePivots (Make Chain order limits) bytes = IsAmpleOfPivots (flow_formula (chain_net order) Balanced) limits.pivots
HasAmplePivots (Same limits) bytes = (nets : Network × Network) × IsTwoNets bytes (Ok nets) × IsAmpleOfPivots (same_formula nets.0 nets.1) limits.pivots
HasAmplePivots other bytes = ⊥

-- then no answer whose status says that the turns are made is right
abbrev pub AmplePivotsAreNeverMade : Type 0
AmplePivotsAreNeverMade = (command : Command) (bytes : List ℕ) (a : Answer) → HasAmplePivots command bytes → IsRightTo command bytes (Ok a) → status_of a ≢ 10

-- and the program doesn't end with that status, where its source tells the command's input
abbrev pub AmplePivotsNeverEndMade : Type 0
AmplePivotsNeverEndMade = (words : List (List ℕ)) (source sink : Passage) (status : ℕ) (command : Command) (bytes : List ℕ) → Ends words source sink status
    → IsCommand command words → IsInput command source bytes → HasAmplePivots command bytes → status ≢ 10
