-- What comments tell of a formula's variables.
use Rattle.std.specs.Prelude.{ℕ, ◌+◌, List, [], ◌∷◌, ◌++◌, codes, decimal}
use Rattle.std.specs.List.{flat_map}
use Rattle.bt_text.specs.Lines.{line}
use Rattle.bt_cnf.specs.Formulas.{FormulaParts}
use Rattle.bt_place.specs.declared.blocks.Starts.{Starts}
use Rattle.bt_print.specs.declared.columns.Columns.{Columns}
use Rattle.bt_print.specs.FormulaText.{rows_text, clauses_text}

-- variables that stand next to one another: the first, from 0, the one after the last, and what they mean
pub record BlockParts : Type 0 where
  pub from : ℕ
  pub end : ℕ
  pub meaning : List ℕ

-- the line of a block: its first and its last variable, from 1, and what they mean
abbrev pub block_line : BlockParts → List ℕ
block_line b = line (codes "c block " ++ decimal (b.from + 1) ++ codes " " ++ decimal b.end ++ codes " " ++ b.meaning)

-- a block with this meaning
abbrev pub block : ℕ → ℕ → List ℕ → BlockParts
block from end meaning = record { from = from; end = end; meaning = meaning }

-- the marks of a flow formula, one for each edge
abbrev pub mark_block : Columns → BlockParts
mark_block columns = block 0 columns.edges (codes "mark edge")

-- the blocks of a placement formula: the facts that they say, and of what each has one for each, the first of these
-- outermost
abbrev pub place_blocks : Starts → List BlockParts
place_blocks s =
    block 0 s.halves (codes "carries cell class") ∷
    block s.halves s.belts (codes "half cell") ∷
    block s.belts s.begins (codes "belt cell") ∷
    block s.begins s.starts (codes "begins cell") ∷
    block s.starts s.stops (codes "starts cell input") ∷
    block s.stops s.lies (codes "stops cell output") ∷
    block s.lies s.pairs (codes "lies cell row") ∷
    block s.pairs s.tunnels (codes "pair cell direction distance") ∷
    block s.tunnels s.goings (codes "tunnel cell direction") ∷
    block s.goings s.columns (codes "goes cell direction") ∷
    block s.columns s.rows (codes "column splitter x") ∷
    block s.rows s.points (codes "row splitter y") ∷
    block s.points s.entering (codes "points splitter direction") ∷
    block s.entering s.leaving (codes "enters splitter") ∷
    block s.leaving s.held (codes "leaves splitter") ∷
    block s.held s.kinds (codes "held spare half") ∷
    block s.kinds s.places (codes "kind cell content") ∷
    block s.places s.end (codes "at splitter cell direction") ∷
    []

-- the text of a flow formula: its marks, its rows, and its clauses
abbrev pub flow_formula_text : Columns → FormulaParts → List ℕ
flow_formula_text columns f = block_line (mark_block columns) ++ rows_text columns f ++ clauses_text f

-- the text of a placement formula: its blocks, and its clauses
abbrev pub place_formula_text : Starts → FormulaParts → List ℕ
place_formula_text starts f = flat_map block_line (place_blocks starts) ++ clauses_text f
